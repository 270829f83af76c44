-- `byte_map_entry::entry` meets its contract: each way in which the plan ends is an answer.
use Rattle.answers.specs.Said.{entered_said}
use Rattle.byte_slots.proofs.Calls.{entry_says}
use Rattle.byte_slots.specs.Kinds.{maps}
use Rattle.byte_slots.proofs.Views.{lent_map_insert, lent_map_inside, unlent_map_insert}
use Rattle.tables.proofs.Calls.{lent_ok}
use Rattle.std.proofs.Common.{Result, Ok, ◌≡◌, refl, sym, ◌∙◌, ap}
use Rattle.answers.specs.declared.Refusal.{Refusal}
use Rattle.byte_slots.specs.declared.InsertPlan.{InsertPlan}
use Rattle.byte_map_entry.specs.Numbers.{entered_numbers}
use Rattle.byte_map_entry.proofs.entry.Goals as goal

-- the plan, from the two steps of its pattern
planned : {r : Result InsertPlan Refusal} {p q : InsertPlan} → r ≡ Ok p → p ≡ q → r ≡ Ok q
planned e d = e ∙ ap Ok d

pub value-requires : goal.value-requires
value-requires c = lent_map_inside _ c.args.key.now c.lent.ensures c.in-Ok.is (rw c.keys.ensures at c.plan_insert.ensures) (planned c.in-Ok-Hit.is c.in-Ok-Hit.field-0-is)

pub returns-in-Ok-Hit : goal.returns-in-Ok-Hit
unfolding entered_numbers entered_said
returns-in-Ok-Hit c = rw (c.value.ensures, (lent_ok maps _ c.lent.ensures c.in-Ok.is).1) (entry_says _ _ (lent_map_insert _ c.args.key.now c.lent.ensures c.in-Ok.is (rw c.keys.ensures at c.plan_insert.ensures)) (planned c.in-Ok-Hit.is c.in-Ok-Hit.field-0-is))

pub returns-in-Ok-Free : goal.returns-in-Ok-Free
unfolding entered_numbers entered_said
returns-in-Ok-Free c = entry_says _ _ (lent_map_insert _ c.args.key.now c.lent.ensures c.in-Ok.is (rw c.keys.ensures at c.plan_insert.ensures)) (planned c.in-Ok-Free.is c.in-Ok-Free.field-0-is)

pub returns-in-Err-plan_insert : goal.returns-in-Err-plan_insert
unfolding entered_numbers entered_said
returns-in-Err-plan_insert c = entry_says _ _ (lent_map_insert _ c.args.key.now c.lent.ensures c.in-Ok.is (rw c.keys.ensures at c.plan_insert.ensures)) c.in-Err-plan_insert.is

pub returns-in-Err : goal.returns-in-Err
unfolding entered_numbers entered_said
returns-in-Err c = entry_says _ _ (unlent_map_insert _ c.args.key.now c.lent.ensures c.in-Err.is) refl
