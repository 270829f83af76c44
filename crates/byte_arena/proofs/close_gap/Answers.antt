-- `byte_arena::close_gap` meets its contract: the bytes behind the span move down, then those vacated are cleared. Assumes nothing.
use Rattle.byte_arena.proofs.Lent.{closed_end}
use Rattle.byte_arena.proofs.close_gap.Goals as goal

pub returns : goal.returns
returns c =
    closed_end _ _ _ c.args.offset _ _ c.requires.0 c.requires.1 c.shift_down.ensures (c.fill.ensures.after (λ y e. e))
