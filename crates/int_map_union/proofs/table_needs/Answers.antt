-- `int_map_union::table_needs` meets its contract. The loop's invariant: the needs of the slots passed.
use Rattle.std.proofs.Common.{rules}
use Rattle.int_map_union.proofs.Needing.{slot_needs_low, need_start, need_more}
use Rattle.int_map_union.proofs.table_needs.Goals as goal

pub loop-i-init : goal.loop-i-init
loop-i-init c = need_start _ _

pub overflow_add-sum : goal.overflow_add-sum
overflow_add-sum c = let b = slot_needs_low _ _ _ c.slot_needs-sum.ensures in search rules

pub loop-i-preserved : goal.loop-i-preserved
loop-i-preserved c = need_more c.loop-i.invariant c.loop-i-test.true c.slot_needs-sum.ensures
