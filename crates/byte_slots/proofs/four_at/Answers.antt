-- `byte_slots::four_at` meets its contract: two bytes and the next two.
use Rattle.std.proofs.Common.{arith}
use Rattle.byte_slots.proofs.Eights.{joined}
use Rattle.byte_slots.proofs.four_at.Goals as goal

pub returns : goal.returns
returns c = joined 2 _ _ _ c.args.bytes.now c.args.i (omega arith) (omega arith) c.two_at.ensures c.two_at-2.ensures
