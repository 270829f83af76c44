-- `byte_store::store` meets its contract: the key's slot, or the first free one, by how the probing ends.
use Rattle.std.proofs.Common.{rules, Ok, ap, ◌∙◌}
use Rattle.byte_store.proofs.Storing.{store_hit, free_fillable, free_small, store_free, store_full, store_refused}
use Rattle.byte_store.proofs.store.Goals as goal

pub fill-requires : goal.fill-requires
fill-requires c = free_fillable _ _ c.requires c.probe.ensures (c.in-Ok.is ∙ ap Ok c.in-Free.is)

pub overflow_add-result : goal.overflow_add-result
overflow_add-result c = let a = free_small _ _ c.requires c.probe.ensures (c.in-Ok.is ∙ ap Ok c.in-Free.is) in search rules

pub returns-in_default : goal.returns-in_default
returns-in_default c = store_refused _ _ c.requires c.probe.ensures c.in_default.is

pub returns-in-Hit : goal.returns-in-Hit
returns-in-Hit c = store_hit _ _ c.requires c.probe.ensures (c.in-Ok.is ∙ ap Ok c.in-Hit.is)

pub returns-in-Free : goal.returns-in-Free
returns-in-Free c = store_free _ _ c.requires c.probe.ensures (c.in-Ok.is ∙ ap Ok c.in-Free.is) c.fill.ensures

pub returns-in-Full : goal.returns-in-Full
returns-in-Full c = store_full _ _ c.requires c.probe.ensures (c.in-Ok.is ∙ ap Ok c.in-Full.is)
