-- `byte_slots::two_at` meets its contract: each byte is one of the two, and the number has both.
use Rattle.std.proofs.Common.{◌+◌, arith}
use Rattle.byte_slots.proofs.Eights.{joined_two}
use Rattle.byte_slots.proofs.two_at.Goals as goal

pub returns : goal.returns
returns c = joined_two c.args.bytes.now c.args.i c.requires (omega (arith, c.shared_slice_known-1.given c.args.i)) (omega (arith, c.shared_slice_known-2-1.given (c.args.i + 1)))
