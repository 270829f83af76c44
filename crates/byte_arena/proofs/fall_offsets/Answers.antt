-- `byte_arena::fall_offsets` meets its contract. The invariant: the offsets of the first i slots fell, and the others wait. Assumes nothing.
use Rattle.std.proofs.Common.{rules}
use Rattle.byte_arena.proofs.Falling.{falling_all}
use Rattle.byte_arena.proofs.fall_offsets.Goals as goal

pub returns : goal.returns
returns c = falling_all _ _ _ _ _ _ (search rules) c.loop-i.invariant
