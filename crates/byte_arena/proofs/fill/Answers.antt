-- `byte_arena::fill` meets its contract: each list has what it is to have. Assumes nothing.
use Rattle.byte_arena.proofs.Lists.{filled_lists}
use Rattle.byte_arena.proofs.fill.Goals as goal

pub returns : goal.returns
returns c = filled_lists _ _ _ _ _ _ c.requires.used c.paste.ensures c.put_len.ensures
