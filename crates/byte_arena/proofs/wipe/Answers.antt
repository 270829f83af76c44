-- `byte_arena::wipe` meets its contract: each list has zeros. Assumes nothing.
use Rattle.byte_arena.proofs.Lists.{wiped_lists}
use Rattle.byte_arena.proofs.wipe.Goals as goal

pub returns : goal.returns
returns c = wiped_lists _ _ _ _ _ (c.fill.ensures.after (λ y e. e)) (c.fill-2.ensures.after (λ y e. e)) (c.fill-3.ensures.after (λ y e. e)) (c.fill-4.ensures.after (λ y e. e))
