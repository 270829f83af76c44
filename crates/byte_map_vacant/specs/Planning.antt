-- The plan of a vacant handle's insert, by insert's own plan.
use Rattle.std.specs.Prelude.{ℕ, cond, eqb}
use Rattle.answers.specs.declared.Refusal.{Refusal}
use Rattle.answers.specs.declared.Refusal.TheVariants.{Sizes, LongKey, NoBudget, WalkBeyond, Damaged, BadHandle, NoSlot, NoBytes}
use Rattle.std.specs.Prelude.{Result, Ok, Err}
use Rattle.byte_slots.specs.declared.InsertPlan.{InsertPlan}
use Rattle.byte_slots.specs.declared.InsertPlan.TheVariants.{Hit, Free}

-- A vacant handle's refusal by that of insert's plan: refusals 7 and 8 become 6.
unfoldable pub handle_refusal : Refusal → Refusal
handle_refusal Sizes = Sizes
handle_refusal LongKey = LongKey
handle_refusal NoBudget = NoBudget
handle_refusal WalkBeyond = WalkBeyond
handle_refusal Damaged = Damaged
handle_refusal BadHandle = BadHandle
handle_refusal NoSlot = BadHandle
handle_refusal NoBytes = BadHandle

-- What a vacant handle of the slot i makes of insert's plan: refusals 1, 2 and 5 stay, and anything that insert would not do at that very slot is refused 6.
unfoldable pub vacancy_by : ℕ → Result InsertPlan Refusal → Result ℕ Refusal
vacancy_by i (Ok (Hit x e)) = Err BadHandle
vacancy_by i (Ok (Free x e u)) = cond (eqb i x) (Ok u) (Err BadHandle)
vacancy_by i (Err r) = Err (handle_refusal r)
