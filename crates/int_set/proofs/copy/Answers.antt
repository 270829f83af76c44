-- `int_set::copy` meets its contract: where both sizes are right and equal, both arrays are copied.
use Rattle.std.proofs.Common.{length, sym, ap, ◌∙◌}
use Rattle.std.proofs.lemmas.Result.{err_from_is_err_and}
use Rattle.kinds.proofs.Copying.{copy_unsized, copy_from_unsized, copy_slots}
use Rattle.int_slots.specs.Sets.{sets}
use Rattle.tables.proofs.Calls.{lent_ok, lent_err}
use Rattle.int_set.proofs.Laws.{copy_done}
use Rattle.int_set.proofs.copy.Goals as goal

pub returns-in_err-lent : goal.returns-in_err-lent
returns-in_err-lent c =
    let p = err_from_is_err_and c.from_residual.result c.from_residual.ensures.1 in
    let q = lent_err sets _ c.lent.ensures c.in_err-lent.was in
    rw (p.1, p.2, q.1) (copy_unsized sets _ _ q.0)

pub returns-in_err-from : goal.returns-in_err-from
returns-in_err-from c =
    let p = err_from_is_err_and c.from_residual-in_err-from.result c.from_residual-in_err-from.ensures.1 in
    let q = lent_err sets _ c.lent-2.ensures c.in_err-from.was in
    rw (p.1, p.2, q.1) (copy_from_unsized sets _ _ (lent_ok sets _ c.lent.ensures c.in_ok-lent.was).0 q.0)

pub returns-then-to_marks-size : goal.returns-then-to_marks-size
returns-then-to_marks-size c = copy_slots sets _ _ (lent_ok sets _ c.lent.ensures c.in_ok-lent.was).0 (lent_ok sets _ c.lent-2.ensures c.in_ok-from.was).0 (λ h. c.if-to_marks-size.true (h ∙ sym (c.size.ensures.slots ∙ ap (λ m. length m.marks) (lent_ok sets _ c.lent-2.ensures c.in_ok-from.was).1)))

pub returns : goal.returns
returns c = copy_done _ _ (lent_ok sets _ c.lent.ensures c.in_ok-lent.was).0 (lent_ok sets _ c.lent-2.ensures c.in_ok-from.was).0 (c.if-to_marks-size.false ∙ c.size.ensures.slots ∙ ap (λ m. length m.marks) (lent_ok sets _ c.lent-2.ensures c.in_ok-from.was).1) c.copy.ensures c.copy-2.ensures
