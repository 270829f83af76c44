-- `tables::scan`: no damage so far, and so many live.
use Rattle.tables.proofs.Scanning.{Scanned}
use Rattle.tables.proofs.scan.Given as goal

abbrev pub invariant-loop-slot : goal.invariant-loop-slot
invariant-loop-slot g l = Scanned (g.T.Table.store.slots (g.T.Table.state l.table)) l.live l.slot
