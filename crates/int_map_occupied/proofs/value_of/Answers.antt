-- `int_map_occupied::value_of` meets its contract: a slot of the table by the look at it.
use Rattle.std.specs.Prelude.{Ok}
use Rattle.std.proofs.Common.{arith, ◌∙◌, ap}
use Rattle.std.proofs.lemmas.Result.{err_from_is_err_and}
use Rattle.int_map_occupied.proofs.Values.{value_beyond, value_same, value_other, value_bad}
use Rattle.int_map_occupied.proofs.value_of.Goals as goal

pub returns-then-size-slot : goal.returns-then-size-slot
returns-then-size-slot c = value_beyond _ _ _ c.size.ensures.sized (omega (arith, c.size.ensures.slots))

pub returns-in_err-look : goal.returns-in_err-look
returns-in_err-look c =
    let p = err_from_is_err_and c.from_residual.result c.from_residual.ensures.1 in
    rw (p.1, p.2) (value_bad _ _ _ c.size.ensures.sized (omega (arith, c.size.ensures.slots)) c.look.ensures c.in_err-look.was)

pub returns-in-Same : goal.returns-in-Same
returns-in-Same c = rw c.value.ensures (value_same _ _ _ c.size.ensures.sized (omega (arith, c.size.ensures.slots)) c.look.ensures (c.in_ok-look.was ∙ ap Ok c.in-Same.is))

pub returns-in_default : goal.returns-in_default
returns-in_default c = value_other _ _ _ c.size.ensures.sized (omega (arith, c.size.ensures.slots)) c.look.ensures _ c.in_ok-look.was c.in_default.not-Same
