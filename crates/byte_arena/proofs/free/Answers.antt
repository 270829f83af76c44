-- `byte_arena::free` meets its contract: each list has what it is to have. Assumes nothing.
use borrow.Author.Rules.{rules}
use Rattle.byte_slots.specs.Memory.{end_at}
use Rattle.byte_arena.proofs.Lists.{emptied_lists}
use Rattle.byte_arena.proofs.free.Goals as goal

pub close_gap-requires : goal.close_gap-requires
unfolding end_at
close_gap-requires c = search rules

pub overflow_add-offset : goal.overflow_add-offset
unfolding end_at
overflow_add-offset c = search rules

pub returns : goal.returns
returns c = emptied_lists _ _ _ _ _ _ _ _ c.requires.used c.offset_at-offset.ensures c.len_at-len.ensures.0 c.close_gap.ensures c.fall_offsets.ensures c.put_len.ensures
