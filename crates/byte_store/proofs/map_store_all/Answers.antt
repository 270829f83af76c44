-- `byte_store::map_store_all` meets its contract. The loop's invariant: the pairs of the slots passed are in, and there is room for the others.
use Rattle.byte_store.proofs.Turns.{slot_aligned, turn_start, turn_slot, turn_more, words_more}
use Rattle.kinds.specs.Columns.{values}
use Rattle.std.proofs.Common.{refl, arith, rules}
use Rattle.byte_store.proofs.map_store_all.Goals as goal

pub loop-i-init : goal.loop-i-init
loop-i-init c = (turn_start values _ _ c.requires.0, refl)

pub map_store_slot-end-requires : goal.map_store_slot-end-requires
map_store_slot-end-requires c = (turn_slot c.loop-i.invariant.0 c.loop-i-test.true, slot_aligned _ c.requires.1 c.loop-i-test.true, omega (arith, c.loop-i-test.true, c.requires.2), omega (arith, c.loop-i.invariant.0.marks_long, c.loop-i.invariant.1, c.requires.3))

pub loop-i-preserved : goal.loop-i-preserved
loop-i-preserved c = (turn_more c.loop-i.invariant.0 c.loop-i-test.true c.map_store_slot-end.ensures (search rules) (search rules) (search rules) (search rules), words_more c.loop-i.invariant.0 c.map_store_slot-end.ensures (search rules) c.loop-i.invariant.1)
