-- The paper's numbers tell refusals and answers apart: refusals are numbered 1 to 8, equal numbers are equal refusals,
-- and equal answers of the home slot. Assumes nothing.
use mathlib.Core.Path.{◌≡◌, refl, ap}
use mathlib.Core.List.{[], ◌∷◌}
use mathlib.Core.Bool.{false}
use Prim.Native.Nat.{ℕ, ◌-◌, ◌≤◌}
use native.Mathlib.Omega.{arith}
use borrow.Author.Tests.{eqb-false}
use lib.Dec.{eqb}
use lib.ListN.{get_or}
use Rattle.answers.specs.Cases.{DONE}
use Rattle.answers.specs.declared.Refusal.{Refusal}
use Rattle.answers.specs.declared.Refusal.TheVariants.{Sizes, LongKey, NoBudget, WalkBeyond, Damaged, BadHandle, NoSlot, NoBytes}
use Rattle.answers.specs.declared.Numbers.{Numbers}
use Rattle.answers.specs.Refusals.{number_of}
use Rattle.answers.specs.Numbers.{homed_numbers}
use Rattle.std.specs.Prelude.{Result, Ok, Err}

-- The refusal that a number stands for.
refusal_of : ℕ → Refusal
refusal_of n =
    get_or (Sizes ∷ LongKey ∷ NoBudget ∷ WalkBeyond ∷ Damaged ∷ BadHandle ∷ NoSlot ∷ NoBytes ∷ []) (n - 1) Sizes

back : (r : Refusal) → refusal_of (number_of r) ≡ r
unfolding refusal_of
back Sizes = refl
back LongKey = refl
back NoBudget = refl
back WalkBeyond = refl
back Damaged = refl
back BadHandle = refl
back NoSlot = refl
back NoBytes = refl

-- A refusal's number is 1 to 8.
pub number_of_range : (r : Refusal) → (1 ≤ number_of r) × (number_of r ≤ 8)
number_of_range Sizes = omega arith
number_of_range LongKey = omega arith
number_of_range NoBudget = omega arith
number_of_range WalkBeyond = omega arith
number_of_range Damaged = omega arith
number_of_range BadHandle = omega arith
number_of_range NoSlot = omega arith
number_of_range NoBytes = omega arith

-- Equal numbers are equal refusals.
pub number_of_injective : (r s : Refusal) → number_of r ≡ number_of s → r ≡ s
number_of_injective r s e = cc (back r, back s, ap refusal_of e)

-- Equal numbers have equal cases.
pub other_case : {A : Type 0} {m n : Numbers} → m ≡ n → eqb m.case n.case ≡ false → A
other_case {A} {m} {n} q e = absurd (eqb-false m.case n.case e (ap (λ x. x.case) q))

-- Equal numbers are equal answers of the home slot.
pub homed_numbers_injective : (a b : Result ℕ Refusal) → homed_numbers a ≡ homed_numbers b → a ≡ b
homed_numbers_injective (Ok s) (Ok t) e = ap Ok (ap (λ n. n.slot) e)
homed_numbers_injective (Ok s) (Err r) e = other_case e refl
homed_numbers_injective (Err r) (Ok s) e = other_case e refl
homed_numbers_injective (Err r) (Err s) e = ap Err (number_of_injective r s (ap (λ n. n.refusal) e))

-- The home slot is told as case 1 with the slot.
pub homed_slot : (s : ℕ) → ((homed_numbers (Ok s)).refusal ≡ 0) × ((homed_numbers (Ok s)).case ≡ DONE) × ((homed_numbers (Ok s)).slot ≡ s)
homed_slot s = (refl, refl, refl)

-- A refusal is told by its number.
pub homed_refusal : (r : Refusal)
    → ((homed_numbers (Err r)).refusal ≡ number_of r) × ((homed_numbers (Err r)).case ≡ 0) × ((homed_numbers (Err r)).slot ≡ 0)
homed_refusal r = (refl, refl, refl)

-- All other numbers are 0, whatever the answer of the home slot.
pub homed_zeros : (a : Result ℕ Refusal) → ((homed_numbers a).key ≡ 0) × ((homed_numbers a).value ≡ 0) × ((homed_numbers a).examined ≡ 0)
    × ((homed_numbers a).walk ≡ 0) × ((homed_numbers a).offset ≡ 0) × ((homed_numbers a).length ≡ 0)
homed_zeros (Ok s) = (refl, refl, refl, refl, refl, refl)
homed_zeros (Err r) = (refl, refl, refl, refl, refl, refl)
