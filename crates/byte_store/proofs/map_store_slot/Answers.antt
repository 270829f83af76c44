-- `byte_store::map_store_slot` meets its contract: a live slot's pair goes in by the rule, another stores nothing.
use Rattle.std.proofs.Common.{Ok, ap, refl, ◌∙◌, arith}
use Rattle.kinds.specs.Columns.{values}
use Rattle.kinds.specs.declared.Mark.TheVariants.{Live}
use Rattle.byte_slots.proofs.Marks.{span_within, not_live}
use Rattle.byte_store.proofs.Marks.{mark_live, read_apart}
use Rattle.byte_store.proofs.Turns.{live_storable, slot_live, slot_idle}
use Rattle.byte_store.proofs.map_store_slot.Goals as goal

pub returns-in_default : goal.returns-in_default
returns-in_default c = (slot_idle values _ _ _ c.mark_at.ensures (c.in_default.not-Ok Live), c.requires.0.used)

pub key_at-key-requires : goal.key_at-key-requires
key_at-key-requires c = (omega (arith, c.requires.1.slot, c.requires.1.lengths), span_within _ _ refl (mark_live _ _ c.mark_at.ensures (c.in-Ok.is ∙ ap Ok c.in-Live.is)))

pub map_store-requires : goal.map_store-requires
map_store-requires c = (live_storable _ _ c.mark_at.ensures (c.in-Ok.is ∙ ap Ok c.in-Live.is) c.key_at-key.ensures c.requires.0, c.requires.3)

pub returns-in-Live : goal.returns-in-Live
returns-in-Live c = (slot_live values _ _ _ c.mark_at.ensures (c.in-Ok.is ∙ ap Ok c.in-Live.is) c.key_at-key.ensures.0 c.map_store.ensures.0, c.map_store.ensures.1)

pub returns-in-Never : goal.returns-in-Never
returns-in-Never c = (slot_idle values _ _ _ c.mark_at.ensures (read_apart c.in-Ok.is (not_live c.in-Never.is)), c.requires.0.used)
