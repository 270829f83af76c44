-- `byte_slots::same_tail` meets its contract. The loop's invariant: equal so far. The measure is what is left of the length.
use Rattle.byte_slots.proofs.Equal.{alike_more, alike_not, alike_end}
use Rattle.byte_slots.proofs.same_tail.Goals as goal

pub loop-i-preserved : goal.loop-i-preserved
loop-i-preserved c = alike_more c.loop-i.invariant c.loop-i-test.true c.if-a-i.true

pub returns-else-a-i : goal.returns-else-a-i
returns-else-a-i c = alike_not c.loop-i.invariant c.loop-i-test.true c.if-a-i.false

pub returns : goal.returns
returns c = alike_end c.loop-i.invariant c.loop-i-test.false
