-- `Occupied::remove` meets its contract: a good handle's slot is one of the table's, and is freed.
use Rattle.std.proofs.Common.{refl, rules, arith}
use Rattle.std.proofs.lemmas.Result.{err_from_is_err_and}
use Rattle.int_map_occupied.proofs.Values.{held_slot, value_lent, value_unlent, remove_done, remove_refused}
use Rattle.int_map_occupied.proofs.Occupied.remove.Goals as goal

pub returns-in_err-lent : goal.returns-in_err-lent
returns-in_err-lent c =
    let p = err_from_is_err_and c.from_residual.result c.from_residual.ensures.1 in
    rw (p.1, p.2) (remove_refused _ _ _ _ _ (value_unlent _ _ _ c.lent.ensures c.in_err-lent.was) refl)

pub returns-in_err-value : goal.returns-in_err-value
returns-in_err-value c =
    let p = err_from_is_err_and c.from_residual-in_err-value.result c.from_residual-in_err-value.ensures.1 in
    rw (p.1, p.2) (remove_refused _ _ _ _ _ (value_lent _ _ _ c.lent.ensures c.in_ok-lent.was c.value_of.ensures) c.in_err-value.was)

pub bounds-marks-slot : goal.bounds-marks-slot
bounds-marks-slot c = let (a, b, d) = held_slot _ _ _ _ _ (value_lent _ _ _ c.lent.ensures c.in_ok-lent.was c.value_of.ensures) c.in_ok-value.was in omega arith

pub offset_bounds-keys-slot : goal.offset_bounds-keys-slot
offset_bounds-keys-slot c = let (a, b, d) = held_slot _ _ _ _ _ (value_lent _ _ _ c.lent.ensures c.in_ok-lent.was c.value_of.ensures) c.in_ok-value.was in search rules

pub bounds-keys-slot : goal.bounds-keys-slot
bounds-keys-slot c = let (a, b, d) = held_slot _ _ _ _ _ (value_lent _ _ _ c.lent.ensures c.in_ok-lent.was c.value_of.ensures) c.in_ok-value.was in omega arith

pub offset_bounds-values-slot : goal.offset_bounds-values-slot
offset_bounds-values-slot c = let (a, b, d) = held_slot _ _ _ _ _ (value_lent _ _ _ c.lent.ensures c.in_ok-lent.was c.value_of.ensures) c.in_ok-value.was in search rules

pub bounds-values-slot : goal.bounds-values-slot
bounds-values-slot c = let (a, b, d) = held_slot _ _ _ _ _ (value_lent _ _ _ c.lent.ensures c.in_ok-lent.was c.value_of.ensures) c.in_ok-value.was in omega arith

pub returns : goal.returns
returns c = remove_done _ _ _ _ _ (value_lent _ _ _ c.lent.ensures c.in_ok-lent.was c.value_of.ensures) c.in_ok-value.was
