-- `byte_slots::same_bytes` meets its contract. The loop's invariant: of one length, and equal so far. The measure is what is left of the length.
use Rattle.std.proofs.Common.{arith}
use Rattle.byte_slots.proofs.Equal.{alike_eight, alike_other, unlike}
use Rattle.byte_slots.proofs.same_bytes.Goals as goal

pub loop-i-preserved : goal.loop-i-preserved
loop-i-preserved c = alike_eight c.loop-i.invariant (omega arith) c.eight_at.ensures c.eight_at-in-loop-i.ensures c.if-eight_at.true

pub returns-else-eight_at : goal.returns-else-eight_at
returns-else-eight_at c = alike_other c.loop-i.invariant (omega arith) (omega arith) c.eight_at.ensures c.eight_at-in-loop-i.ensures c.if-eight_at.false

pub returns : goal.returns
returns c = unlike _ _ c.if-a-b.false
