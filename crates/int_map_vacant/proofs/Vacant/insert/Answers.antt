-- `Vacant::insert` meets its contract: a good handle's slot is one of the table's, and takes the pair.
use Rattle.std.proofs.Common.{refl, rules, arith}
use Rattle.std.proofs.lemmas.Result.{err_from_is_err_and}
use Rattle.int_map_vacant.proofs.Vacancies.{vacancy_slot, vacancy_lent, vacancy_unlent, insert_done, insert_refused}
use Rattle.int_map_vacant.proofs.Vacant.insert.Goals as goal

pub returns-in_err-lent : goal.returns-in_err-lent
returns-in_err-lent c =
    let p = err_from_is_err_and c.from_residual.result c.from_residual.ensures.1 in
    rw (p.1, p.2) (insert_refused _ _ _ _ _ (vacancy_unlent _ _ _ c.lent.ensures c.in_err-lent.was) _ refl)

pub returns-in_err-vacancy_at : goal.returns-in_err-vacancy_at
returns-in_err-vacancy_at c =
    let p = err_from_is_err_and c.from_residual-in_err-vacancy_at.result c.from_residual-in_err-vacancy_at.ensures.1 in
    rw (p.1, p.2) (insert_refused _ _ _ _ _ (vacancy_lent _ _ _ c.lent.ensures c.in_ok-lent.was c.vacancy_at.ensures) _ c.in_err-vacancy_at.was)

pub bounds-marks-slot : goal.bounds-marks-slot
bounds-marks-slot c = let (a, b, d) = vacancy_slot _ _ _ _ _ (vacancy_lent _ _ _ c.lent.ensures c.in_ok-lent.was c.vacancy_at.ensures) c.in_ok-vacancy_at.was in omega arith

pub offset_bounds-keys-slot : goal.offset_bounds-keys-slot
offset_bounds-keys-slot c = let (a, b, d) = vacancy_slot _ _ _ _ _ (vacancy_lent _ _ _ c.lent.ensures c.in_ok-lent.was c.vacancy_at.ensures) c.in_ok-vacancy_at.was in search rules

pub bounds-keys-slot : goal.bounds-keys-slot
bounds-keys-slot c = let (a, b, d) = vacancy_slot _ _ _ _ _ (vacancy_lent _ _ _ c.lent.ensures c.in_ok-lent.was c.vacancy_at.ensures) c.in_ok-vacancy_at.was in omega arith

pub offset_bounds-values-slot : goal.offset_bounds-values-slot
offset_bounds-values-slot c = let (a, b, d) = vacancy_slot _ _ _ _ _ (vacancy_lent _ _ _ c.lent.ensures c.in_ok-lent.was c.vacancy_at.ensures) c.in_ok-vacancy_at.was in search rules

pub bounds-values-slot : goal.bounds-values-slot
bounds-values-slot c = let (a, b, d) = vacancy_slot _ _ _ _ _ (vacancy_lent _ _ _ c.lent.ensures c.in_ok-lent.was c.vacancy_at.ensures) c.in_ok-vacancy_at.was in omega arith

pub returns : goal.returns
returns c = insert_done _ _ _ _ _ (vacancy_lent _ _ _ c.lent.ensures c.in_ok-lent.was c.vacancy_at.ensures) _ c.in_ok-vacancy_at.was
