-- `int_store::store_all` meets its contract. The loop's invariant: the keys of the slots passed are in.
use Rattle.int_store.proofs.Storing.{store_start, store_more}
use Rattle.kinds.proofs.Columns.{nothing_lawful}
use Rattle.kinds.specs.Columns.{nothing}
use Rattle.std.proofs.Common.{rules}
use Rattle.int_store.proofs.store_all.Goals as goal

pub loop-i-init : goal.loop-i-init
loop-i-init c = store_start nothing _ _ c.requires.0

pub loop-i-preserved : goal.loop-i-preserved
loop-i-preserved c = store_more c.loop-i.invariant nothing_lawful c.loop-i-test.true c.store_slot.ensures (search rules) (search rules)
