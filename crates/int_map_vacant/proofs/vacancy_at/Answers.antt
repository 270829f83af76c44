-- `int_map_vacant::vacancy_at` meets its contract: by what the probing found.
use Rattle.std.proofs.Common.{rules}
use Rattle.std.proofs.lemmas.Result.{err_from_is_err_and}
use Rattle.int_slots.proofs.Lent.{map_probing}
use Rattle.int_map_vacant.proofs.Vacancies.{vacancy_free, vacancy_other, vacancy_none, vacancy_refused}
use Rattle.int_map_vacant.proofs.vacancy_at.Goals as goal

pub returns-in_err-free : goal.returns-in_err-free
returns-in_err-free c =
    let p = err_from_is_err_and c.from_residual.result c.from_residual.ensures.1 in
    rw (p.1, p.2) (vacancy_refused _ _ (map_probing _ _ c.probe.ensures.sized c.probe.ensures.found) _ c.in_err-free.was)

pub returns-in-Free : goal.returns-in-Free
returns-in-Free c = let h = vacancy_free _ _ (map_probing _ _ c.probe.ensures.sized c.probe.ensures.found) c.args.slot c.in_ok-free.was c.in-Free.is in search rules

pub returns-in_default : goal.returns-in_default
returns-in_default c = let h = vacancy_other _ _ (map_probing _ _ c.probe.ensures.sized c.probe.ensures.found) c.args.slot c.in_ok-free.was c.in-Free.is in search rules

pub returns-in_default-2 : goal.returns-in_default-2
returns-in_default-2 c = let h = vacancy_none _ _ (map_probing _ _ c.probe.ensures.sized c.probe.ensures.found) c.args.slot _ c.in_ok-free.was in search rules
