-- `byte_set::remove` meets its contract: the found slot is freed, and the gap in the arena closed.
use Rattle.std.proofs.Common.{Ok, rules, refl, ap, ◌∙◌}
use Rattle.model.specs.Calls.{removed_by}
use Rattle.answers.specs.Numbers.{dropped_numbers}
use Rattle.answers.specs.Said.{dropped_said}
use Rattle.byte_slots.proofs.Calls.{set_remove_says}
use Rattle.byte_slots.proofs.Views.{lent_remove, unlent_remove}
use Rattle.byte_arena.proofs.Plans.{plan_freeable}
use Rattle.byte_set.proofs.Laws.{remove_hit}
use Rattle.byte_set.proofs.remove.Goals as goal

pub free-requires : goal.free-requires
free-requires c = plan_freeable _ _ (lent_remove _ _ c.lent.ensures c.in_ok-lent.was c.plan_remove.ensures) (c.in_ok-plan.was ∙ ap Ok c.in-Hit.is)

pub returns-in-Hit : goal.returns-in-Hit
returns-in-Hit c = remove_hit _ _ (lent_remove _ _ c.lent.ensures c.in_ok-lent.was c.plan_remove.ensures) (c.in_ok-plan.was ∙ ap Ok c.in-Hit.is) c.free.ensures

pub returns-in-Absent : goal.returns-in-Absent
unfolding dropped_numbers dropped_said removed_by
returns-in-Absent c = set_remove_says _ _ (lent_remove _ _ c.lent.ensures c.in_ok-lent.was c.plan_remove.ensures) (c.in_ok-plan.was ∙ ap Ok c.in-Absent.is)

pub returns-in_err-plan : goal.returns-in_err-plan
unfolding dropped_numbers dropped_said removed_by
returns-in_err-plan c = let z = set_remove_says _ _ (lent_remove _ _ c.lent.ensures c.in_ok-lent.was c.plan_remove.ensures) c.in_err-plan.was in search rules

pub returns-in_err-lent : goal.returns-in_err-lent
unfolding dropped_numbers dropped_said removed_by
returns-in_err-lent c = let z = set_remove_says _ _ (unlent_remove _ c.args.key.now c.lent.ensures c.in_err-lent.was) refl in search rules
