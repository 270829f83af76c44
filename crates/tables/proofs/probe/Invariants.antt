-- `tables::probe`: the rest of the trail, of one slot or more, gives the path's answer. The measure is how many slots are left.
use Rattle.std.proofs.Common.{◌-◌, ◌<◌, ◌≡◌}
use Rattle.tables.specs.Reading.{probing}
use Rattle.tables.proofs.Trail.{OnTrail}
use Rattle.tables.proofs.probe.Given as goal

abbrev pub invariant-loop-free : goal.invariant-loop-free
invariant-loop-free g l =
    let m = g.T.Table.state l.table in
    (OnTrail g.T.Table.store.keys (g.T.Table.store.slots m) l.size (g.T.Table.key_of l.key) l.slot l.n l.free (probing g.T.Table.store m (g.T.Table.key_of l.key)))
    × (l.n < l.size) × (l.size ≡ g.T.Table.store.size m)

abbrev pub decreases-loop-free : goal.decreases-loop-free
decreases-loop-free g l = l.size - l.n
