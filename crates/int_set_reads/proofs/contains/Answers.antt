-- `int_set_reads::contains` meets its contract: whether the lent table has the key, or refusal 1.
use Rattle.std.proofs.lemmas.Result.{err_from_is_err_and}
use Rattle.kinds.proofs.Sizing.{contains_unsized}
use Rattle.int_slots.specs.Sets.{sets}
use Rattle.tables.proofs.Calls.{lent_ok, lent_err}
use Rattle.int_set_reads.proofs.contains.Goals as goal

pub returns-in_err-lent : goal.returns-in_err-lent
returns-in_err-lent c =
    let p = err_from_is_err_and c.from_residual.result c.from_residual.ensures.1 in
    let q = lent_err sets _ c.lent.ensures c.in_err-lent.was in
    rw (p.1, p.2, q.1) (contains_unsized sets _ q.0 _)

pub returns : goal.returns
returns c = let q = lent_ok sets _ c.lent.ensures c.in_ok-lent.was in rw q.1 at c.contains.ensures
