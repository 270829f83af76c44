-- `byte_slots::walk_path` meets its contract. The loop's invariant: the rest of the trail gives the path's answer. The measure is how many slots are left.
use Rattle.std.proofs.Common.{◌-◌, length}
use Rattle.kinds.proofs.Trail.{OnTrail}
use Rattle.byte_slots.specs.Keys.{byte_keys}
use Rattle.byte_slots.specs.Memory.{spans_of, key_at}
use Rattle.byte_slots.specs.Marks.{mark_of}
use Rattle.byte_slots.specs.Probing.{path_from}
use Rattle.byte_slots.proofs.walk_path.Given as goal

abbrev pub invariant-loop-n : goal.invariant-loop-n
invariant-loop-n l = OnTrail byte_keys (mark_of (spans_of l.marks l.offsets l.lengths l.arena)) (key_at (spans_of l.marks l.offsets l.lengths l.arena)) (length l.marks) l.key l.slot l.n l.free (path_from (spans_of l.marks l.offsets l.lengths l.arena) l.home l.key)

abbrev pub decreases-loop-n : goal.decreases-loop-n
decreases-loop-n l = length l.marks - l.n
