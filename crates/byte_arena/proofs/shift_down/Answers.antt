-- `byte_arena::shift_down` meets its contract: the first bytes moved down, one by one.
use Rattle.std.proofs.Common.{rules}
use Rattle.byte_arena.proofs.Lent.{moving_more, moving_all}
use Rattle.byte_arena.proofs.shift_down.Goals as goal

pub loop-i-preserved : goal.loop-i-preserved
loop-i-preserved c = moving_more _ _ _ _ _ _ (search rules) (search rules) (search rules) c.loop-i.invariant

pub returns : goal.returns
returns c = moving_all _ _ _ _ _ _ (search rules) (search rules) (search rules) c.loop-i.invariant
