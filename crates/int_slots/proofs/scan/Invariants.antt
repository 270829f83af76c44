-- `int_slots::scan` meets its contract. The loop's invariant: no damage so far, and so many live. The measure is what is left of the length.
use Prim.Native.Nat.{◌-◌}
use lib.ListN.{length}
use Rattle.kinds.specs.Marks.{words_of}
use Rattle.kinds.proofs.Scanning.{Scanning}
use Rattle.int_slots.proofs.scan.Given as goal

abbrev pub invariant-loop-i : goal.invariant-loop-i
invariant-loop-i l = Scanning (words_of l.marks) (length l.marks) l.live l.i

abbrev pub decreases-loop-i : goal.decreases-loop-i
decreases-loop-i l = length l.marks - l.i
