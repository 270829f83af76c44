-- `int_map::insert` meets its contract: the value changes in the key's slot, or the first free slot takes the key.
use Rattle.std.specs.Prelude.{Ok}
use Rattle.std.proofs.Common.{refl, arith, ◌∙◌, ap}
use Rattle.std.proofs.lemmas.Result.{err_from_is_err_and}
use Rattle.int_slots.proofs.Seeking.{hit_inside, free_inside}
use Rattle.int_slots.proofs.Calls.{insert_hit, insert_free, insert_full, insert_refused}
use Rattle.int_slots.proofs.Lent.{map_probed, map_unprobed}
use Rattle.int_map.proofs.insert.Goals as goal

pub returns-in_err-lent : goal.returns-in_err-lent
returns-in_err-lent c =
    let p = err_from_is_err_and c.from_residual.result c.from_residual.ensures.1 in
    rw (p.1, p.2) (insert_refused _ _ (map_unprobed _ _ c.lent.ensures c.in_err-lent.was) _ refl)

pub returns-in_err-slot : goal.returns-in_err-slot
returns-in_err-slot c =
    let p = err_from_is_err_and c.from_residual-in_err-slot.result c.from_residual-in_err-slot.ensures.1 in
    rw (p.1, p.2) (insert_refused _ _ (map_probed _ _ c.lent.ensures c.in_ok-lent.was c.probe.ensures.found) _ c.in_err-slot.was)

pub offset_bounds-values-slot : goal.offset_bounds-values-slot
offset_bounds-values-slot c = omega (arith, hit_inside _ _ (map_probed _ _ c.lent.ensures c.in_ok-lent.was c.probe.ensures.found) (c.in_ok-slot.was ∙ ap Ok c.in-Hit.is))

pub bounds-values-slot : goal.bounds-values-slot
bounds-values-slot c = (hit_inside _ _ (map_probed _ _ c.lent.ensures c.in_ok-lent.was c.probe.ensures.found) (c.in_ok-slot.was ∙ ap Ok c.in-Hit.is)).2

pub offset_bounds-values-slot-in-Hit : goal.offset_bounds-values-slot-in-Hit
offset_bounds-values-slot-in-Hit c = omega (arith, hit_inside _ _ (map_probed _ _ c.lent.ensures c.in_ok-lent.was c.probe.ensures.found) (c.in_ok-slot.was ∙ ap Ok c.in-Hit.is))

pub bounds-values-slot-in-Hit : goal.bounds-values-slot-in-Hit
bounds-values-slot-in-Hit c = (hit_inside _ _ (map_probed _ _ c.lent.ensures c.in_ok-lent.was c.probe.ensures.found) (c.in_ok-slot.was ∙ ap Ok c.in-Hit.is)).2

pub bounds-marks-slot : goal.bounds-marks-slot
bounds-marks-slot c = (free_inside _ _ (map_probed _ _ c.lent.ensures c.in_ok-lent.was c.probe.ensures.found) (c.in_ok-slot.was ∙ ap Ok c.in-Free.is)).0

pub offset_bounds-keys-slot : goal.offset_bounds-keys-slot
offset_bounds-keys-slot c = omega (arith, free_inside _ _ (map_probed _ _ c.lent.ensures c.in_ok-lent.was c.probe.ensures.found) (c.in_ok-slot.was ∙ ap Ok c.in-Free.is))

pub bounds-keys-slot : goal.bounds-keys-slot
bounds-keys-slot c = (free_inside _ _ (map_probed _ _ c.lent.ensures c.in_ok-lent.was c.probe.ensures.found) (c.in_ok-slot.was ∙ ap Ok c.in-Free.is)).1

pub offset_bounds-values-slot-in-Free : goal.offset_bounds-values-slot-in-Free
offset_bounds-values-slot-in-Free c = omega (arith, free_inside _ _ (map_probed _ _ c.lent.ensures c.in_ok-lent.was c.probe.ensures.found) (c.in_ok-slot.was ∙ ap Ok c.in-Free.is))

pub bounds-values-slot-in-Free : goal.bounds-values-slot-in-Free
bounds-values-slot-in-Free c = (free_inside _ _ (map_probed _ _ c.lent.ensures c.in_ok-lent.was c.probe.ensures.found) (c.in_ok-slot.was ∙ ap Ok c.in-Free.is)).2

pub returns-in-Hit : goal.returns-in-Hit
returns-in-Hit c = insert_hit _ _ (map_probed _ _ c.lent.ensures c.in_ok-lent.was c.probe.ensures.found) _ c.in_ok-slot.was c.in-Hit.is

pub returns-in-Free : goal.returns-in-Free
returns-in-Free c = insert_free _ _ (map_probed _ _ c.lent.ensures c.in_ok-lent.was c.probe.ensures.found) _ c.in_ok-slot.was c.in-Free.is

pub returns-in-Full : goal.returns-in-Full
returns-in-Full c = insert_full _ _ (map_probed _ _ c.lent.ensures c.in_ok-lent.was c.probe.ensures.found) _ c.in_ok-slot.was (_, c.in-Full.is)
