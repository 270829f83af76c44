-- Case splits that keep the test's equation.
use Prim.Native.Nat.{ℕ, ◌<◌, ◌≤◌}
use mathlib.Core.Bool.{Bool, true, false, ◌&&◌, cond}
use mathlib.Core.Path.{◌≡◌, refl}
use native.Mathlib.Omega.{arith}
use borrow.Author.Tests.{ltb-true, ltb-false, eqb-true, eqb-false}
use lib.Dec.{ltb, eqb}
use Rattle.model.specs.Slots.{Keys}

-- zero is not one
pub clash {ℓ} : {A : Type ℓ} → ◌≡◌ {A = ℕ} 0 1 → A
clash e = absurd (omega arith)

-- a test is true or false
pub by_bool {ℓ} : {A : Type ℓ} (b : Bool) → (b ≡ true → A) → (b ≡ false → A) → A
by_bool true yes-case no-case = yes-case refl
by_bool false yes-case no-case = no-case refl

-- a < b or b ≤ a, each with its test
pub by_lt {ℓ} : {A : Type ℓ} (a b : ℕ) → (a < b → ltb a b ≡ true → A) → (b ≤ a → ltb a b ≡ false → A) → A
by_lt a b below above = by_bool (ltb a b) (λ e. below (ltb-true a b e) e) (λ e. above (ltb-false a b e) e)

-- a ≡ b or not, each with its test
pub by_eq {ℓ} : {A : Type ℓ} (a b : ℕ) → (a ≡ b → eqb a b ≡ true → A) → ((a ≡ b → ⊥) → eqb a b ≡ false → A) → A
by_eq a b equal apart = by_bool (eqb a b) (λ e. equal (eqb-true a b e) e) (λ e. apart (eqb-false a b e) e)

-- a is the key k or not, each with its test
pub by_same {ℓ} : {A : Type ℓ} {K : Type 0} (E : Keys K) (a k : K) → (a ≡ k → E.same a k ≡ true → A) → (E.same a k ≡ false → A) → A
by_same E a k equal apart = by_bool (E.same a k) (λ e. equal (E.right a k e) e) apart

-- Two tests that pass together pass each.
pub both : (a b : Bool) → (a && b) ≡ true → (a ≡ true) × (b ≡ true)
both true b e = (refl, e)
both false b e = clash cc

-- Where neither of two tests passes, each fails.
pub neither : (a b : Bool) → cond a true b ≡ false → (a ≡ false) × (b ≡ false)
neither true b e = clash cc
neither false b e = (refl, e)
