-- `int_set::insert` meets its contract: the first free slot takes a key that is not there.
use Rattle.std.specs.Prelude.{Ok}
use Rattle.std.proofs.Common.{refl, arith, ◌∙◌, ap}
use Rattle.std.proofs.lemmas.Result.{err_from_is_err_and}
use Rattle.int_slots.proofs.Bridge.{free_slot}
use Rattle.int_slots.proofs.Calls.{set_insert_hit, set_insert_free, set_insert_full, set_insert_refused}
use Rattle.int_slots.proofs.Lent.{set_probed, set_unprobed}
use Rattle.int_set.proofs.insert.Goals as goal

pub returns-in_err-lent : goal.returns-in_err-lent
returns-in_err-lent c =
    let p = err_from_is_err_and c.from_residual.result c.from_residual.ensures.1 in
    rw (p.1, p.2) (set_insert_refused _ _ _ (set_unprobed _ _ c.lent.ensures c.in_err-lent.was) refl)

pub returns-in_err-slot : goal.returns-in_err-slot
returns-in_err-slot c =
    let p = err_from_is_err_and c.from_residual-in_err-slot.result c.from_residual-in_err-slot.ensures.1 in
    rw (p.1, p.2) (set_insert_refused _ _ _ (set_probed _ _ c.lent.ensures c.in_ok-lent.was c.probe.ensures.found) c.in_err-slot.was)

pub returns-in-Hit : goal.returns-in-Hit
returns-in-Hit c = set_insert_hit _ _ _ (set_probed _ _ c.lent.ensures c.in_ok-lent.was c.probe.ensures.found) c.in_ok-slot.was c.in-Hit.is

pub bounds-marks-slot : goal.bounds-marks-slot
bounds-marks-slot c = (free_slot _ _ _ (set_probed _ _ c.lent.ensures c.in_ok-lent.was c.probe.ensures.found) (c.in_ok-slot.was ∙ ap Ok c.in-Free.is)).0

pub offset_bounds-keys-slot : goal.offset_bounds-keys-slot
offset_bounds-keys-slot c = omega (arith, free_slot _ _ _ (set_probed _ _ c.lent.ensures c.in_ok-lent.was c.probe.ensures.found) (c.in_ok-slot.was ∙ ap Ok c.in-Free.is))

pub bounds-keys-slot : goal.bounds-keys-slot
bounds-keys-slot c = omega (arith, free_slot _ _ _ (set_probed _ _ c.lent.ensures c.in_ok-lent.was c.probe.ensures.found) (c.in_ok-slot.was ∙ ap Ok c.in-Free.is))

pub returns-in-Free : goal.returns-in-Free
returns-in-Free c = set_insert_free _ _ _ (set_probed _ _ c.lent.ensures c.in_ok-lent.was c.probe.ensures.found) c.in_ok-slot.was c.in-Free.is

pub returns-in-Full : goal.returns-in-Full
returns-in-Full c = set_insert_full _ _ _ (set_probed _ _ c.lent.ensures c.in_ok-lent.was c.probe.ensures.found) c.in_ok-slot.was (_, c.in-Full.is)
