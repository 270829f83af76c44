-- The equality of byte keys.
use Rattle.std.specs.Prelude.{ℕ, Bool, true, false, ◌&&◌, List, [], ◌∷◌, ◌≡◌, refl, eqb}
use Rattle.std.proofs.Common.{ap₂, arith, eqb-true, eq-eqb}
use Rattle.model.specs.Slots.{Keys}
use Rattle.model.proofs.Cases.{both, clash}

-- Whether two byte strings are equal, byte by byte.
unfoldable pub same_bytes : List ℕ → List ℕ → Bool
same_bytes [] [] = true
same_bytes [] (y ∷ ys) = false
same_bytes (x ∷ xs) [] = false
same_bytes (x ∷ xs) (y ∷ ys) = eqb x y && same_bytes xs ys

-- Equal by that test is equal, and equal is equal by that test.
pub same_right : (xs ys : List ℕ) → same_bytes ys xs ≡ true → xs ≡ ys
unfolding same_bytes
same_right [] [] e = refl
same_right [] (y ∷ ys) e = clash cc
same_right (x ∷ xs) [] e = clash cc
same_right (x ∷ xs) (y ∷ ys) e =
    let (p, q) = both (eqb y x) (same_bytes ys xs) e in
    let z : x ≡ y = omega (arith, eqb-true y x p) in
    ap₂ {C = List ℕ} (λ a as'. a ∷ as') z (same_right xs ys q)

pub same_self : (xs : List ℕ) → same_bytes xs xs ≡ true
unfolding same_bytes
same_self [] = refl
same_self (x ∷ xs) = rw (eq-eqb x x refl, same_self xs)

-- Byte strings as keys.
abbrev pub byte_keys : Keys (List ℕ)
byte_keys = record { same = λ a b. same_bytes b a; right = same_right; self = same_self }
