-- `Occupied::get` meets its contract: what the handle holds in the lent table, or refusal 1.
use Rattle.std.proofs.lemmas.Result.{err_from_is_err_and}
use Rattle.int_map_occupied.proofs.Values.{value_lent, value_unlent}
use Rattle.int_map_occupied.proofs.Occupied.get.Goals as goal

pub returns-in_err-lent : goal.returns-in_err-lent
returns-in_err-lent c =
    let p = err_from_is_err_and c.from_residual.result c.from_residual.ensures.1 in
    rw (p.1, p.2) (value_unlent _ _ _ c.lent.ensures c.in_err-lent.was)

pub returns : goal.returns
returns c = value_lent _ _ _ c.lent.ensures c.in_ok-lent.was c.value_of.ensures
