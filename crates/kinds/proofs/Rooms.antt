-- The two tests of what is left, as the theory makes them.
use Prim.Native.Nat.{ℕ}
use mathlib.Core.Path.{◌≡◌, sym, ◌∙◌}
use lib.Dec.{leb}
use Rattle.model.specs.Calls.{Or, no, ok, need}
use Rattle.model.proofs.Cases.{by_bool, clash}
use Rattle.answers.specs.declared.Refusal.{Refusal}
use Rattle.answers.specs.Refusals.{number_of}
use Rattle.answers.specs.Numbers.{reserved_numbers}
use Rattle.answers.specs.Said.{room_said}
use Rattle.kinds.specs.Rooms.{reserved_by}
use Rattle.std.specs.Prelude.{Result, Ok, Err}

module _ (slots left n b : ℕ) {r : Result (Unit {0}) Refusal} (p : r ≡ reserved_by slots left n b) {A : Type 0} (a : Or A) where
  -- room: both tests pass
  pub room_passes : r ≡ Ok tt → need (leb n slots) 7 (need (leb b left) 8 a) ≡ a
  unfolding reserved_by need
  room_passes q = by_bool (leb n slots)
      (λ s. by_bool (leb b left) (λ t. rw (s, t)) (λ t. clash (cc (rw (s, t) at (sym p ∙ q)))))
      (λ s. clash (cc (rw s at (sym p ∙ q))))

  -- a refusal: the first that fails has its number
  pub no_room_refuses : {x : Refusal} → r ≡ Err x → need (leb n slots) 7 (need (leb b left) 8 a) ≡ no (number_of x)
  unfolding reserved_by need
  no_room_refuses q = by_bool (leb n slots)
      (λ s. by_bool (leb b left) (λ t. clash (cc (rw (s, t) at (sym p ∙ q)))) (λ t. rw (s, t) (cc (rw (s, t) at (sym p ∙ q)))))
      (λ s. rw s (cc (rw s at (sym p ∙ q))))

-- the numbers of such an answer are those of the theory's
pub reserved_said : (slots left n b : ℕ) {r : Result (Unit {0}) Refusal} → r ≡ reserved_by slots left n b → reserved_numbers r ≡ room_said (need (leb n slots) 7 (need (leb b left) 8 (ok (tt {0}))))
unfolding reserved_by reserved_numbers room_said need
reserved_said slots left n b p = by_bool (leb n slots)
    (λ s. by_bool (leb b left) (λ t. rw (p, s, t)) (λ t. rw (p, s, t)))
    (λ s. rw (p, s))
