-- `byte_store::store_all` meets its contract. The loop's invariant: the keys of the slots passed are in, and there is room for the others.
use Rattle.byte_store.proofs.Turns.{slot_aligned, turn_start, turn_slot, turn_more}
use Rattle.kinds.specs.Columns.{nothing}
use Rattle.std.proofs.Common.{rules}
use Rattle.byte_store.proofs.store_all.Goals as goal

pub loop-i-init : goal.loop-i-init
loop-i-init c = turn_start nothing _ _ c.requires.0

pub store_slot-end-requires : goal.store_slot-end-requires
store_slot-end-requires c = (turn_slot c.loop-i.invariant c.loop-i-test.true, slot_aligned _ c.requires.1 c.loop-i-test.true)

pub loop-i-preserved : goal.loop-i-preserved
loop-i-preserved c = turn_more c.loop-i.invariant c.loop-i-test.true c.store_slot-end.ensures (search rules) (search rules) (search rules) (search rules)
