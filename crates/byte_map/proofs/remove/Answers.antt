-- `byte_map::remove` meets its contract: the found slot is freed, its words become 0, its gap is closed.
use Rattle.std.proofs.Common.{Ok, rules, arith, refl, ap, ◌∙◌}
use Rattle.model.specs.Calls.{removed_by}
use Rattle.answers.specs.Numbers.{removed_numbers}
use Rattle.answers.specs.Said.{removed_said}
use Rattle.byte_slots.proofs.Calls.{remove_says}
use Rattle.byte_slots.proofs.Views.{lent_map_remove, unlent_map_remove}
use Rattle.byte_arena.proofs.Plans.{map_plan_remove_hit}
use Rattle.byte_map.proofs.Laws.{remove_hit}
use Rattle.byte_map.proofs.remove.Goals as goal

pub offset_bounds-values-slot : goal.offset_bounds-values-slot
offset_bounds-values-slot c = omega (arith, (map_plan_remove_hit _ _ (lent_map_remove _ _ c.lent.ensures c.in_ok-lent.was (rw c.keys.ensures at c.plan_remove.ensures)) (c.in_ok-plan.was ∙ ap Ok c.in-Hit.is)).1)

pub bounds-values-slot : goal.bounds-values-slot
bounds-values-slot c = (map_plan_remove_hit _ _ (lent_map_remove _ _ c.lent.ensures c.in_ok-lent.was (rw c.keys.ensures at c.plan_remove.ensures)) (c.in_ok-plan.was ∙ ap Ok c.in-Hit.is)).1

pub free-requires : goal.free-requires
free-requires c = (map_plan_remove_hit _ _ (lent_map_remove _ _ c.lent.ensures c.in_ok-lent.was (rw c.keys.ensures at c.plan_remove.ensures)) (c.in_ok-plan.was ∙ ap Ok c.in-Hit.is)).0

pub offset_bounds-values-slot-in-Hit : goal.offset_bounds-values-slot-in-Hit
offset_bounds-values-slot-in-Hit c = omega (arith, (map_plan_remove_hit _ _ (lent_map_remove _ _ c.lent.ensures c.in_ok-lent.was (rw c.keys.ensures at c.plan_remove.ensures)) (c.in_ok-plan.was ∙ ap Ok c.in-Hit.is)).1)

pub bounds-values-slot-in-Hit : goal.bounds-values-slot-in-Hit
bounds-values-slot-in-Hit c = (map_plan_remove_hit _ _ (lent_map_remove _ _ c.lent.ensures c.in_ok-lent.was (rw c.keys.ensures at c.plan_remove.ensures)) (c.in_ok-plan.was ∙ ap Ok c.in-Hit.is)).1

pub returns-in-Hit : goal.returns-in-Hit
returns-in-Hit c = remove_hit _ _ (lent_map_remove _ _ c.lent.ensures c.in_ok-lent.was (rw c.keys.ensures at c.plan_remove.ensures)) (c.in_ok-plan.was ∙ ap Ok c.in-Hit.is) c.free.ensures

pub returns-in-Absent : goal.returns-in-Absent
unfolding removed_numbers removed_said removed_by
returns-in-Absent c = remove_says _ _ (lent_map_remove _ _ c.lent.ensures c.in_ok-lent.was (rw c.keys.ensures at c.plan_remove.ensures)) (c.in_ok-plan.was ∙ ap Ok c.in-Absent.is)

pub returns-in_err-plan : goal.returns-in_err-plan
unfolding removed_numbers removed_said removed_by
returns-in_err-plan c = let z = remove_says _ _ (lent_map_remove _ _ c.lent.ensures c.in_ok-lent.was (rw c.keys.ensures at c.plan_remove.ensures)) c.in_err-plan.was in search rules

pub returns-in_err-lent : goal.returns-in_err-lent
unfolding removed_numbers removed_said removed_by
returns-in_err-lent c = let z = remove_says _ _ (unlent_map_remove _ c.args.key.now c.lent.ensures c.in_err-lent.was) refl in search rules
