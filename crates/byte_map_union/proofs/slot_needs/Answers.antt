-- `byte_map_union::slot_needs` meets its contract: a live slot by how the path of its key ends in the left.
use Rattle.std.proofs.Common.{Ok, ap, refl, ◌∙◌, arith}
use Rattle.kinds.specs.declared.Mark.TheVariants.{Live}
use Rattle.byte_slots.proofs.Marks.{span_within, not_live}
use Rattle.byte_slots.proofs.Sizes.{fitting_says}
use Rattle.byte_store.proofs.Marks.{mark_live, read_apart}
use Rattle.byte_map_union.proofs.Needing.{slot_needs_none, slot_needs_key}
use Rattle.byte_map_union.proofs.slot_needs.Goals as goal

pub mark_at-requires : goal.mark_at-requires
mark_at-requires c = let z = fitting_says _ c.requires.1 in (c.requires.2, z.offsets, z.lengths)

pub returns-in_default : goal.returns-in_default
returns-in_default c = slot_needs_none _ _ _ c.mark_at.ensures (c.in_default.not-Ok Live)

pub key_at-key-requires : goal.key_at-key-requires
key_at-key-requires c = let z = fitting_says _ c.requires.1 in (omega (arith, c.requires.2, z.lengths), span_within _ _ refl (mark_live _ _ c.mark_at.ensures (c.in-Ok.is ∙ ap Ok c.in-Live.is)))

pub returns-in-Live : goal.returns-in-Live
returns-in-Live c = slot_needs_key _ _ _ c.mark_at.ensures (c.in-Ok.is ∙ ap Ok c.in-Live.is) c.key_at-key.ensures c.requires.0 c.probe.ensures c.needed_by.ensures

pub returns-in-Never : goal.returns-in-Never
returns-in-Never c = slot_needs_none _ _ _ c.mark_at.ensures (read_apart c.in-Ok.is (not_live c.in-Never.is))
