-- `int_map::make` meets its contract: where the sizes are right, every mark and word 0.
use Rattle.std.proofs.lemmas.Result.{err_from_is_err_and}
use Rattle.kinds.proofs.Sizing.{make_sized, make_unsized}
use Rattle.int_slots.specs.Maps.{maps}
use Rattle.tables.proofs.Calls.{lent_ok, lent_err}
use Rattle.int_map.proofs.make.Goals as goal

pub returns-in_err-lent : goal.returns-in_err-lent
returns-in_err-lent c =
    let p = err_from_is_err_and c.from_residual.result c.from_residual.ensures.1 in
    let q = lent_err maps _ c.lent.ensures c.in_err-lent.was in
    rw (p.1, p.2, q.1) (make_unsized maps _ q.0)

pub returns : goal.returns
returns c = make_sized maps _ (lent_ok maps _ c.lent.ensures c.in_ok-lent.was).0 (rw (c.fill.ensures.after (λ y e. e), c.fill-2.ensures.after (λ y e. e), c.fill-3.ensures.after (λ y e. e)))
