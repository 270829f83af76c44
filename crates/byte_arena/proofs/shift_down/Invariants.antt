-- `byte_arena::shift_down`: the first i bytes moved down.
use Rattle.byte_arena.proofs.Lent.{Moving}
use Rattle.byte_arena.proofs.shift_down.Given as goal

abbrev pub invariant-loop-i : goal.invariant-loop-i
invariant-loop-i l = Moving l.initial.arena l.to l.from l.count l.i l.arena
