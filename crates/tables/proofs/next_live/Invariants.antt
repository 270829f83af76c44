-- `tables::next_live`: the rest of the stretch gives the whole answer.
use Rattle.std.proofs.Common.{◌≡◌}
use Rattle.tables.specs.Reading.{next_in, nexting}
use Rattle.tables.proofs.next_live.Given as goal

abbrev pub invariant-loop-slot : goal.invariant-loop-slot
invariant-loop-slot g l =
    let m = g.T.Table.state l.table in
    next_in (g.T.Table.store.slots m) l.slot l.end ≡ nexting g.T.Table.store m l.at l.end
