-- `byte_slots::survey` meets its contract. The loop's invariant: no mark above 2 so far, the sum and the largest end. The measure is what is left of the length.
use Rattle.std.proofs.Common.{◌-◌, length}
use Rattle.byte_slots.specs.Memory.{spans_of}
use Rattle.byte_slots.proofs.Surveys.{Surveying}
use Rattle.byte_slots.proofs.survey.Given as goal

abbrev pub invariant-loop-i : goal.invariant-loop-i
invariant-loop-i l = Surveying (spans_of l.marks l.offsets l.lengths l.arena) l.used l.top l.i

abbrev pub decreases-loop-i : goal.decreases-loop-i
decreases-loop-i l = length l.marks - l.i
