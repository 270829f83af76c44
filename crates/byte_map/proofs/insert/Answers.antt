-- `byte_map::insert` meets its contract: the value changes in the key's slot, or the first free slot takes the key.
use Rattle.std.proofs.Common.{Ok, rules, arith, refl, ap, ◌∙◌}
use Rattle.model.specs.Calls.{stored_by}
use Rattle.answers.specs.Numbers.{stored_numbers}
use Rattle.answers.specs.Said.{stored_said}
use Rattle.byte_slots.proofs.Calls.{insert_says}
use Rattle.byte_slots.proofs.Planning.{map_plan_insert_inside}
use Rattle.byte_slots.proofs.Views.{lent_map_insert, unlent_map_insert}
use Rattle.byte_arena.proofs.Plans.{map_plan_insert_free}
use Rattle.byte_map.proofs.Laws.{insert_fresh}
use Rattle.byte_map.proofs.insert.Goals as goal

pub offset_bounds-values-slot : goal.offset_bounds-values-slot
offset_bounds-values-slot c = omega (arith, map_plan_insert_inside _ _ (lent_map_insert _ _ c.lent.ensures c.in_ok-lent.was (rw c.keys.ensures at c.plan_insert.ensures)) (c.in_ok-plan.was ∙ ap Ok c.in-Hit.is))

pub bounds-values-slot : goal.bounds-values-slot
bounds-values-slot c = map_plan_insert_inside _ _ (lent_map_insert _ _ c.lent.ensures c.in_ok-lent.was (rw c.keys.ensures at c.plan_insert.ensures)) (c.in_ok-plan.was ∙ ap Ok c.in-Hit.is)

pub offset_bounds-values-slot-in-Hit : goal.offset_bounds-values-slot-in-Hit
offset_bounds-values-slot-in-Hit c = omega (arith, map_plan_insert_inside _ _ (lent_map_insert _ _ c.lent.ensures c.in_ok-lent.was (rw c.keys.ensures at c.plan_insert.ensures)) (c.in_ok-plan.was ∙ ap Ok c.in-Hit.is))

pub bounds-values-slot-in-Hit : goal.bounds-values-slot-in-Hit
bounds-values-slot-in-Hit c = map_plan_insert_inside _ _ (lent_map_insert _ _ c.lent.ensures c.in_ok-lent.was (rw c.keys.ensures at c.plan_insert.ensures)) (c.in_ok-plan.was ∙ ap Ok c.in-Hit.is)

pub fill-requires : goal.fill-requires
fill-requires c = (map_plan_insert_free _ _ (lent_map_insert _ _ c.lent.ensures c.in_ok-lent.was (rw c.keys.ensures at c.plan_insert.ensures)) (c.in_ok-plan.was ∙ ap Ok c.in-Free.is)).0

pub offset_bounds-values-slot-in-Free : goal.offset_bounds-values-slot-in-Free
offset_bounds-values-slot-in-Free c = omega (arith, (map_plan_insert_free _ _ (lent_map_insert _ _ c.lent.ensures c.in_ok-lent.was (rw c.keys.ensures at c.plan_insert.ensures)) (c.in_ok-plan.was ∙ ap Ok c.in-Free.is)).1)

pub bounds-values-slot-in-Free : goal.bounds-values-slot-in-Free
bounds-values-slot-in-Free c = (map_plan_insert_free _ _ (lent_map_insert _ _ c.lent.ensures c.in_ok-lent.was (rw c.keys.ensures at c.plan_insert.ensures)) (c.in_ok-plan.was ∙ ap Ok c.in-Free.is)).1

pub returns-in-Hit : goal.returns-in-Hit
unfolding stored_numbers stored_said stored_by
returns-in-Hit c = insert_says _ _ (lent_map_insert _ _ c.lent.ensures c.in_ok-lent.was (rw c.keys.ensures at c.plan_insert.ensures)) (c.in_ok-plan.was ∙ ap Ok c.in-Hit.is) _

pub returns-in-Free : goal.returns-in-Free
returns-in-Free c = insert_fresh _ _ _ (lent_map_insert _ _ c.lent.ensures c.in_ok-lent.was (rw c.keys.ensures at c.plan_insert.ensures)) (c.in_ok-plan.was ∙ ap Ok c.in-Free.is) c.fill.ensures

pub returns-in_err-plan : goal.returns-in_err-plan
unfolding stored_numbers stored_said stored_by
returns-in_err-plan c = let z = insert_says _ _ (lent_map_insert _ _ c.lent.ensures c.in_ok-lent.was (rw c.keys.ensures at c.plan_insert.ensures)) c.in_err-plan.was c.args.value in search rules

pub returns-in_err-lent : goal.returns-in_err-lent
unfolding stored_numbers stored_said stored_by
returns-in_err-lent c = let z = insert_says _ _ (unlent_map_insert _ c.args.key.now c.lent.ensures c.in_err-lent.was) refl c.args.value in search rules
