-- `int_slots::walk_path` meets its contract. The loop's invariant: the rest of the trail, of one slot or more, gives the path's answer. The measure is how many slots are left.
use Rattle.std.proofs.Common.{◌-◌, length}
use Rattle.model.specs.Path.{find}
use Rattle.kinds.specs.Marks.{words_of}
use Rattle.kinds.specs.Probing.{along}
use Rattle.kinds.proofs.Trail.{OnTrail}
use Rattle.int_slots.specs.Probing.{slots_in, walked}
use Rattle.int_slots.specs.Memory.{integers}
use Rattle.int_slots.proofs.walk_path.Given as goal

abbrev pub invariant-loop-free : goal.invariant-loop-free
invariant-loop-free l = OnTrail integers (words_of l.marks) (words_of l.keys) (length l.marks) l.key l.slot (walked (length l.marks) l.home l.slot) l.free (along (length l.marks) l.home (find integers (length l.marks) l.home (slots_in l.marks l.keys) l.key))

abbrev pub decreases-loop-free : goal.decreases-loop-free
decreases-loop-free l = length l.marks - walked (length l.marks) l.home l.slot
