-- `byte_map_union::table_needs` meets its contract. The loop's invariant: the needs of the slots passed.
use Rattle.std.proofs.Common.{rules}
use Rattle.byte_slots.proofs.Sizes.{fitting_says}
use Rattle.byte_map_union.proofs.Needing.{need_start, need_more}
use Rattle.byte_map_union.proofs.table_needs.Goals as goal

pub loop-i-init : goal.loop-i-init
loop-i-init c = need_start _ _

pub overflow_add-bytes : goal.overflow_add-bytes
overflow_add-bytes c = let few = (fitting_says _ c.requires.1).few in search rules

pub loop-i-preserved : goal.loop-i-preserved
loop-i-preserved c = need_more c.loop-i.invariant c.loop-i-test.true c.slot_needs-more.ensures
