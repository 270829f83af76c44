-- Two numbers compared: one of the two orders holds.
-- Assumes nothing.
use mathlib.Core.Path.{◌≡◌, refl}
use mathlib.Core.Bool.{Bool, true, false}
use mathlib.Core.Logic.{◌⊎◌, inl, inr}
use Prim.Native.Nat.{ℕ, ◌≤◌, ◌<◌}
use borrow.Author.Tests.{leb-true, leb-false}
use lib.Dec.{leb}

tested : {A B : Type 0} (t : Bool) → (t ≡ true → A) → (t ≡ false → B) → A ⊎ B
tested true f g = inl (f refl)
tested false f g = inr (g refl)

-- A number is at most another, or above it.
pub at_most : (a b : ℕ) → (a ≤ b) ⊎ (b < a)
at_most a b = tested (leb a b) (leb-true a b) (leb-false a b)
