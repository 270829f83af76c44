-- `int_map_reads::get` meets its contract: by what the probing of the lent table found.
use Rattle.std.specs.Prelude.{Ok}
use Rattle.std.proofs.Common.{refl, ◌∙◌, ap}
use Rattle.std.proofs.lemmas.Result.{err_from_is_err_and}
use Rattle.int_slots.specs.Maps.{maps}
use Rattle.tables.proofs.Calls.{lent_ok}
use Rattle.int_slots.proofs.Lent.{map_probed, map_unprobed}
use Rattle.int_slots.proofs.Seeking.{hit_inside}
use Rattle.int_slots.proofs.Calls.{get_hit, get_gone, get_refused}
use Rattle.int_map_reads.proofs.get.Goals as goal

pub returns-in_err-map : goal.returns-in_err-map
returns-in_err-map c =
    let p = err_from_is_err_and c.from_residual.result c.from_residual.ensures.1 in
    rw (p.1, p.2) (get_refused _ _ (map_unprobed _ _ c.lent.ensures c.in_err-map.was) refl)

pub returns-in_err-slot : goal.returns-in_err-slot
returns-in_err-slot c =
    let p = err_from_is_err_and c.from_residual-in_err-slot.result c.from_residual-in_err-slot.ensures.1 in
    rw (p.1, p.2) (get_refused _ _ (map_probed _ _ c.lent.ensures c.in_ok-map.was c.probe.ensures.found) c.in_err-slot.was)

pub value-requires : goal.value-requires
value-requires c =
    let q = lent_ok maps _ c.lent.ensures c.in_ok-map.was in
    rw q.1 (hit_inside _ _ (map_probed _ _ c.lent.ensures c.in_ok-map.was c.probe.ensures.found) (c.in_ok-slot.was ∙ ap Ok c.in-Hit.is)).0

pub returns-in-Hit : goal.returns-in-Hit
returns-in-Hit c =
    let q = lent_ok maps _ c.lent.ensures c.in_ok-map.was in
    rw (c.value.ensures, q.1) (get_hit _ _ (map_probed _ _ c.lent.ensures c.in_ok-map.was c.probe.ensures.found) c.in_ok-slot.was c.in-Hit.is)

pub returns-in-Free : goal.returns-in-Free
returns-in-Free c = get_gone _ _ (map_probed _ _ c.lent.ensures c.in_ok-map.was c.probe.ensures.found) c.in_ok-slot.was c.in-Free.is

pub returns-in-Free-2 : goal.returns-in-Free-2
returns-in-Free-2 c = get_gone _ _ (map_probed _ _ c.lent.ensures c.in_ok-map.was c.probe.ensures.found) c.in_ok-slot.was c.in-Free.is
