-- `int_map::remove` meets its contract: the found slot is freed, its words become 0.
use Rattle.std.specs.Prelude.{Ok}
use Rattle.std.proofs.Common.{refl, arith, ◌∙◌, ap}
use Rattle.std.proofs.lemmas.Result.{err_from_is_err_and}
use Rattle.int_slots.proofs.Seeking.{hit_inside}
use Rattle.int_slots.proofs.Calls.{remove_hit, remove_gone, remove_refused}
use Rattle.int_slots.proofs.Lent.{map_probed, map_unprobed}
use Rattle.int_map.proofs.remove.Goals as goal

pub returns-in_err-lent : goal.returns-in_err-lent
returns-in_err-lent c =
    let p = err_from_is_err_and c.from_residual.result c.from_residual.ensures.1 in
    rw (p.1, p.2) (remove_refused _ _ (map_unprobed _ _ c.lent.ensures c.in_err-lent.was) refl)

pub returns-in_err-slot : goal.returns-in_err-slot
returns-in_err-slot c =
    let p = err_from_is_err_and c.from_residual-in_err-slot.result c.from_residual-in_err-slot.ensures.1 in
    rw (p.1, p.2) (remove_refused _ _ (map_probed _ _ c.lent.ensures c.in_ok-lent.was c.probe.ensures.found) c.in_err-slot.was)

pub offset_bounds-values-slot : goal.offset_bounds-values-slot
offset_bounds-values-slot c = omega (arith, hit_inside _ _ (map_probed _ _ c.lent.ensures c.in_ok-lent.was c.probe.ensures.found) (c.in_ok-slot.was ∙ ap Ok c.in-Hit.is))

pub bounds-values-slot : goal.bounds-values-slot
bounds-values-slot c = (hit_inside _ _ (map_probed _ _ c.lent.ensures c.in_ok-lent.was c.probe.ensures.found) (c.in_ok-slot.was ∙ ap Ok c.in-Hit.is)).2

pub bounds-marks-slot : goal.bounds-marks-slot
bounds-marks-slot c = (hit_inside _ _ (map_probed _ _ c.lent.ensures c.in_ok-lent.was c.probe.ensures.found) (c.in_ok-slot.was ∙ ap Ok c.in-Hit.is)).0

pub offset_bounds-keys-slot : goal.offset_bounds-keys-slot
offset_bounds-keys-slot c = omega (arith, hit_inside _ _ (map_probed _ _ c.lent.ensures c.in_ok-lent.was c.probe.ensures.found) (c.in_ok-slot.was ∙ ap Ok c.in-Hit.is))

pub bounds-keys-slot : goal.bounds-keys-slot
bounds-keys-slot c = (hit_inside _ _ (map_probed _ _ c.lent.ensures c.in_ok-lent.was c.probe.ensures.found) (c.in_ok-slot.was ∙ ap Ok c.in-Hit.is)).1

pub offset_bounds-values-slot-in-Hit : goal.offset_bounds-values-slot-in-Hit
offset_bounds-values-slot-in-Hit c = omega (arith, hit_inside _ _ (map_probed _ _ c.lent.ensures c.in_ok-lent.was c.probe.ensures.found) (c.in_ok-slot.was ∙ ap Ok c.in-Hit.is))

pub bounds-values-slot-in-Hit : goal.bounds-values-slot-in-Hit
bounds-values-slot-in-Hit c = (hit_inside _ _ (map_probed _ _ c.lent.ensures c.in_ok-lent.was c.probe.ensures.found) (c.in_ok-slot.was ∙ ap Ok c.in-Hit.is)).2

pub returns-in-Hit : goal.returns-in-Hit
returns-in-Hit c = remove_hit _ _ (map_probed _ _ c.lent.ensures c.in_ok-lent.was c.probe.ensures.found) c.in_ok-slot.was c.in-Hit.is

pub returns-in-Free : goal.returns-in-Free
returns-in-Free c = remove_gone _ _ (map_probed _ _ c.lent.ensures c.in_ok-lent.was c.probe.ensures.found) c.in_ok-slot.was c.in-Free.is

pub returns-in-Free-2 : goal.returns-in-Free-2
returns-in-Free-2 c = remove_gone _ _ (map_probed _ _ c.lent.ensures c.in_ok-lent.was c.probe.ensures.found) c.in_ok-slot.was c.in-Free.is
