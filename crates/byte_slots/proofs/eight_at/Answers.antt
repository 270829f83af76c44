-- `byte_slots::eight_at` meets its contract: four bytes and the next four.
use Rattle.std.proofs.Common.{arith}
use Rattle.byte_slots.proofs.Eights.{joined}
use Rattle.byte_slots.proofs.eight_at.Goals as goal

pub returns : goal.returns
returns c = joined 4 _ _ _ c.args.bytes.now c.args.i (omega arith) (omega arith) c.four_at.ensures c.four_at-2.ensures
