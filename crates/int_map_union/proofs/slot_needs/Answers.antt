-- `int_map_union::slot_needs` meets its contract: a live slot by how the probing of its key ends in the left.
use Rattle.std.specs.Prelude.{Ok}
use Rattle.std.proofs.Common.{◌∙◌, ap}
use Rattle.int_map_union.proofs.Needing.{slot_needs_hit, slot_needs_free, slot_needs_full, slot_needs_refused, slot_needs_idle}
use Rattle.int_map_union.proofs.slot_needs.Goals as goal

pub returns-then-mark : goal.returns-then-mark
returns-then-mark c = slot_needs_idle _ _ _ c.if-mark.true

pub returns-in-Ok-Hit : goal.returns-in-Ok-Hit
returns-in-Ok-Hit c = slot_needs_hit _ _ _ _ _ c.requires c.if-mark.false c.map_probe.ensures (c.in-Ok-Hit.is ∙ ap Ok c.in-Ok-Hit.field-0-is)

pub returns-in-Ok-Free : goal.returns-in-Ok-Free
returns-in-Ok-Free c = slot_needs_free _ _ _ _ _ c.requires c.if-mark.false c.map_probe.ensures (c.in-Ok-Free.is ∙ ap Ok c.in-Ok-Free.field-0-is)

pub returns-in-Ok-Full : goal.returns-in-Ok-Full
returns-in-Ok-Full c = slot_needs_full _ _ _ _ _ c.requires c.if-mark.false c.map_probe.ensures (c.in-Ok-Full.is ∙ ap Ok c.in-Ok-Full.field-0-is)

pub returns-in-Err : goal.returns-in-Err
returns-in-Err c = slot_needs_refused _ _ _ _ _ c.requires c.if-mark.false c.map_probe.ensures c.in-Err.is
