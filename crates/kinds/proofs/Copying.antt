-- What the tests of copy say of its definition, at any store: copy onto m from n.
use mathlib.Core.Bool.{true, false}
use mathlib.Core.Path.{◌≡◌}
use borrow.Author.Tests.{eq-eqb, ne_eqb}
use lib.Dec.{eqb}
use Rattle.model.specs.Calls.{need, acted, copy, after_copy}
use Rattle.model.specs.Store.{Store}
use Rattle.model.proofs.Cases.{by_bool}
use Rattle.answers.specs.declared.Refusal.TheVariants.{Sizes}
use Rattle.answers.specs.Numbers.{outcome_numbers}
use Rattle.answers.specs.Said.{done_said}
use Rattle.kinds.specs.Told.{told}
use Rattle.kinds.specs.Calls.{copy_of}
use Rattle.std.specs.Prelude.{Ok, Err}

module _ {K W : Type 0} (M : Store K W) (m n : M.State) where
  -- arenas of other sizes are refused 1, whatever the other tests say
  pub copy_arena : (M.bytes m ≡ M.bytes n → ⊥) → told (outcome_numbers (Err Sizes)) m ≡ copy_of M m n
  unfolding copy_of copy after_copy acted need done_said outcome_numbers
  copy_arena h =
      by_bool (M.sized m)
      (λ a. by_bool (M.sized n)
      (λ b. by_bool (eqb (M.size m) (M.size n)) (λ c. rw (a, b, c, ne_eqb (M.bytes m) (M.bytes n) h)) (λ c. rw (a, b, c)))
      (λ b. rw (a, b)))
      (λ a. rw a)

  pub copy_unsized : M.sized m ≡ false → told (outcome_numbers (Err Sizes)) m ≡ copy_of M m n
  unfolding copy_of copy after_copy acted need done_said outcome_numbers
  copy_unsized a = rw a

  module _ (a : M.sized m ≡ true) where
    pub copy_from_unsized : M.sized n ≡ false → told (outcome_numbers (Err Sizes)) m ≡ copy_of M m n
    unfolding copy_of copy after_copy acted need done_said outcome_numbers
    copy_from_unsized b = rw (a, b)

    module _ (b : M.sized n ≡ true) where
      pub copy_slots : (M.size m ≡ M.size n → ⊥) → told (outcome_numbers (Err Sizes)) m ≡ copy_of M m n
      unfolding copy_of copy after_copy acted need done_said outcome_numbers
      copy_slots h = rw (a, b, ne_eqb (M.size m) (M.size n) h)

      pub copy_sized : M.size m ≡ M.size n → M.bytes m ≡ M.bytes n → {x : M.State} → x ≡ n → told (outcome_numbers (Ok tt)) x ≡ copy_of M m n
      unfolding copy_of copy after_copy acted need done_said outcome_numbers
      copy_sized e f g = rw (a, b, eq-eqb (M.size m) (M.size n) e, eq-eqb (M.bytes m) (M.bytes n) f, g)
