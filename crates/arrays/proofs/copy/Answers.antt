-- `arrays::copy` meets its contract: each turn of the loop is an element more.
use Rattle.arrays.proofs.Below.{copied_more, copied_all}
use Rattle.arrays.proofs.copy.Goals as goal

pub loop-i-preserved : goal.loop-i-preserved
loop-i-preserved g c = copied_more c.args.to.now c.args.from.now c.loop-i.to c.loop-i.i c.index-from-i.result c.if-to-from.true c.loop-i.auto.to c.loop-i-test.true c.index-from-i.is c.loop-i.invariant

pub returns-after-loop-i : goal.returns-after-loop-i
returns-after-loop-i g c = copied_all c.args.to.now c.args.from.now c.if-to-from.true c.loop-i.auto.to c.loop-i-test.false c.loop-i.invariant
