-- `byte_slots::live_marks`: so many of the marks passed are 1.
use Rattle.byte_slots.proofs.Lives.{Counting}
use Rattle.byte_slots.proofs.live_marks.Given as goal

abbrev pub invariant-loop-i : goal.invariant-loop-i
invariant-loop-i l = Counting l.marks l.live l.i
