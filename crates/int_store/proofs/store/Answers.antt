-- `int_store::store` meets its contract: the key's slot, or the first free one, by how the probing ends.
use Rattle.std.specs.Prelude.{Ok}
use Rattle.std.proofs.Common.{rules, arith, ◌∙◌, ap}
use Rattle.int_slots.proofs.Bridge.{free_slot}
use Rattle.int_store.proofs.Storing.{store_hit, store_free, store_full, store_refused}
use Rattle.int_store.proofs.store.Goals as goal

pub bounds-marks-slot : goal.bounds-marks-slot
bounds-marks-slot c = let (a, b) = free_slot _ _ _ c.probe.ensures (c.in-Ok-Free.is ∙ ap Ok c.in-Ok-Free.field-0-is) in omega arith

pub offset_bounds-keys-slot : goal.offset_bounds-keys-slot
offset_bounds-keys-slot c = let (a, b) = free_slot _ _ _ c.probe.ensures (c.in-Ok-Free.is ∙ ap Ok c.in-Ok-Free.field-0-is) in search rules

pub bounds-keys-slot : goal.bounds-keys-slot
bounds-keys-slot c = let (a, b) = free_slot _ _ _ c.probe.ensures (c.in-Ok-Free.is ∙ ap Ok c.in-Ok-Free.field-0-is) in omega arith

pub returns-in-Ok-Hit : goal.returns-in-Ok-Hit
returns-in-Ok-Hit c = store_hit _ _ _ c.requires c.probe.ensures c.in-Ok-Hit.is c.in-Ok-Hit.field-0-is

pub returns-in-Ok-Free : goal.returns-in-Ok-Free
returns-in-Ok-Free c = store_free _ _ _ c.requires c.probe.ensures c.in-Ok-Free.is c.in-Ok-Free.field-0-is

pub returns-in-Ok-Full : goal.returns-in-Ok-Full
returns-in-Ok-Full c = store_full _ _ _ c.requires c.probe.ensures c.in-Ok-Full.is c.in-Ok-Full.field-0-is

pub returns-in-Err : goal.returns-in-Err
returns-in-Err c = store_refused _ _ _ c.requires c.probe.ensures c.in-Err.is
