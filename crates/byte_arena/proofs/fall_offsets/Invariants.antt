-- `byte_arena::fall_offsets` meets its contract. The invariant: the offsets of the first i slots fell, and the others wait. Assumes nothing.
use Rattle.byte_arena.proofs.Falling.{Falling}
use Rattle.byte_arena.proofs.fall_offsets.Given as goal

abbrev pub invariant-loop-i : goal.invariant-loop-i
invariant-loop-i l = Falling l.end l.len l.marks l.initial.offsets l.i l.offsets
