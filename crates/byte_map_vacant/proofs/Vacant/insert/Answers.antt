-- `Vacant::insert` meets its contract: a good handle's slot takes the pair, a refusal leaves all.
use Rattle.std.proofs.Common.{rules}
use Rattle.byte_map_vacant.proofs.Vacancies.{vacancy_fillable, vacancy_inside, insert_done, insert_refused}
use Rattle.byte_map_vacant.proofs.Vacant.insert.Goals as goal

pub offset_bounds-values-slot : goal.offset_bounds-values-slot
offset_bounds-values-slot c = let a = vacancy_inside _ _ _ c.lent.ensures c.in_ok-map.was c.keys.ensures c.plan_insert.ensures c.vacancy_by.ensures c.in_ok-used.was in search rules

pub bounds-values-slot : goal.bounds-values-slot
bounds-values-slot c = vacancy_inside _ _ _ c.lent.ensures c.in_ok-map.was c.keys.ensures c.plan_insert.ensures c.vacancy_by.ensures c.in_ok-used.was

pub fill-requires : goal.fill-requires
fill-requires c = vacancy_fillable _ _ _ c.lent.ensures c.in_ok-map.was c.keys.ensures c.plan_insert.ensures c.vacancy_by.ensures c.in_ok-used.was

pub returns : goal.returns
returns c = insert_done _ _ _ c.lent.ensures c.in_ok-map.was c.keys.ensures c.plan_insert.ensures c.vacancy_by.ensures _ c.in_ok-used.was c.fill.ensures

pub returns-in_err-used : goal.returns-in_err-used
returns-in_err-used c = let z = insert_refused _ _ _ c.lent.ensures c.in_ok-map.was c.keys.ensures c.plan_insert.ensures c.vacancy_by.ensures c.args.value c.in_err-used.was in search rules
