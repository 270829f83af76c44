-- `byte_set::insert` meets its contract: the first free slot takes a key that is not there, its bytes the offset `used`.
use Rattle.std.proofs.Common.{Ok, rules, refl, ap, ◌∙◌}
use Rattle.model.specs.Calls.{stored_by}
use Rattle.answers.specs.Numbers.{joined_numbers}
use Rattle.answers.specs.Said.{joined_said}
use Rattle.byte_slots.proofs.Calls.{set_insert_says}
use Rattle.byte_slots.proofs.Views.{lent_insert, unlent_insert}
use Rattle.byte_arena.proofs.Plans.{plan_fillable}
use Rattle.byte_set.proofs.Laws.{insert_fresh}
use Rattle.byte_set.proofs.insert.Goals as goal

pub fill-requires : goal.fill-requires
fill-requires c = plan_fillable _ _ (lent_insert _ _ c.lent.ensures c.in_ok-lent.was c.plan_insert.ensures) (c.in_ok-plan.was ∙ ap Ok c.in-Free.is)

pub returns-in-Hit : goal.returns-in-Hit
unfolding joined_numbers joined_said stored_by
returns-in-Hit c = set_insert_says _ _ (lent_insert _ _ c.lent.ensures c.in_ok-lent.was c.plan_insert.ensures) (c.in_ok-plan.was ∙ ap Ok c.in-Hit.is)

pub returns-in-Free : goal.returns-in-Free
returns-in-Free c = insert_fresh _ _ (lent_insert _ _ c.lent.ensures c.in_ok-lent.was c.plan_insert.ensures) (c.in_ok-plan.was ∙ ap Ok c.in-Free.is) c.fill.ensures

pub returns-in_err-plan : goal.returns-in_err-plan
unfolding joined_numbers joined_said stored_by
returns-in_err-plan c = let z = set_insert_says _ _ (lent_insert _ _ c.lent.ensures c.in_ok-lent.was c.plan_insert.ensures) c.in_err-plan.was in search rules

pub returns-in_err-lent : goal.returns-in_err-lent
unfolding joined_numbers joined_said stored_by
returns-in_err-lent c = let z = set_insert_says _ _ (unlent_insert _ c.args.key.now c.lent.ensures c.in_err-lent.was) refl in search rules
