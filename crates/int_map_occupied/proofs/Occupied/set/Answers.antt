-- `Occupied::set` meets its contract: a good handle's slot is one of the table's, and its value changes.
use Rattle.std.proofs.Common.{refl, rules, arith}
use Rattle.std.proofs.lemmas.Result.{err_from_is_err_and}
use Rattle.int_map_occupied.proofs.Values.{held_slot, value_lent, value_unlent, set_done, set_refused}
use Rattle.int_map_occupied.proofs.Occupied.set.Goals as goal

pub returns-in_err-lent : goal.returns-in_err-lent
returns-in_err-lent c =
    let p = err_from_is_err_and c.from_residual.result c.from_residual.ensures.1 in
    rw (p.1, p.2) (set_refused _ _ _ _ _ (value_unlent _ _ _ c.lent.ensures c.in_err-lent.was) _ refl)

pub returns-in_err-old : goal.returns-in_err-old
returns-in_err-old c =
    let p = err_from_is_err_and c.from_residual-in_err-old.result c.from_residual-in_err-old.ensures.1 in
    rw (p.1, p.2) (set_refused _ _ _ _ _ (value_lent _ _ _ c.lent.ensures c.in_ok-lent.was c.value_of.ensures) _ c.in_err-old.was)

pub offset_bounds-values-slot : goal.offset_bounds-values-slot
offset_bounds-values-slot c = let (a, b, d) = held_slot _ _ _ _ _ (value_lent _ _ _ c.lent.ensures c.in_ok-lent.was c.value_of.ensures) c.in_ok-old.was in search rules

pub bounds-values-slot : goal.bounds-values-slot
bounds-values-slot c = let (a, b, d) = held_slot _ _ _ _ _ (value_lent _ _ _ c.lent.ensures c.in_ok-lent.was c.value_of.ensures) c.in_ok-old.was in omega arith

pub returns : goal.returns
returns c = set_done _ _ _ _ _ (value_lent _ _ _ c.lent.ensures c.in_ok-lent.was c.value_of.ensures) _ c.in_ok-old.was
