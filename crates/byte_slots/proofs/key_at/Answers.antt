-- `byte_slots::key_at` meets its contract: the part of the arena from the offset on, as long as the length says.
use Rattle.byte_slots.proofs.Marks.{span_part}
use Rattle.byte_slots.proofs.key_at.Goals as goal

pub returns : goal.returns
returns c = span_part _ c.offset_at-start.ensures c.len_at.ensures c.requires.1
