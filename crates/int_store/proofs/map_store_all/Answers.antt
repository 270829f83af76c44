-- `int_store::map_store_all` meets its contract. The loop's invariant: the pairs of the slots passed are in.
use Rattle.int_store.proofs.Storing.{store_start, store_more}
use Rattle.kinds.proofs.Columns.{values_lawful}
use Rattle.kinds.specs.Columns.{values}
use Rattle.std.proofs.Common.{rules}
use Rattle.int_store.proofs.map_store_all.Goals as goal

pub loop-i-init : goal.loop-i-init
loop-i-init c = store_start values _ _ c.requires.0

pub loop-i-preserved : goal.loop-i-preserved
loop-i-preserved c = store_more c.loop-i.invariant values_lawful c.loop-i-test.true c.map_store_slot.ensures (search rules) (search rules)
