-- What the test of the sizes says of the calls that begin with it, at any store.
use Prim.Native.Nat.{ℕ}
use mathlib.Core.Bool.{Bool, true, false}
use mathlib.Core.Path.{◌≡◌, sym, ◌∙◌}
use Rattle.model.specs.Calls.{need, acted, capacity, length, reserve, get, after_make}
use Rattle.model.specs.Store.{Store, live_count, damaged_slots}
use Rattle.answers.specs.declared.Refusal.TheVariants.{Sizes, Damaged}
use Rattle.answers.specs.Numbers.{outcome_numbers, counted_numbers, emptiness_numbers, reserved_numbers, contained_numbers}
use Rattle.answers.specs.Said.{done_said, count_said, empty_said, room_said, contained_said}
use Rattle.kinds.specs.Told.{told}
use Rattle.kinds.specs.Calls.{sized_of, make_of, capacity_of, len_of, is_empty_of, reserve_of, contains_of}
use Rattle.std.specs.Prelude.{Ok, Err}

module _ {K W : Type 0} (M : Store K W) (m : M.State) where
  pub sized_as : {b : Bool} → b ≡ sized_of M m → {t : Bool} → b ≡ t → M.sized m ≡ t
  unfolding sized_of
  sized_as p q = sym p ∙ q

  -- wrong sizes: refusal 1
  module _ (e : M.sized m ≡ false) where
    pub make_unsized : told (outcome_numbers (Err Sizes)) m ≡ make_of M m
    unfolding make_of capacity after_make acted need done_said outcome_numbers
    make_unsized = rw e

    pub capacity_unsized : counted_numbers (Err Sizes) ≡ capacity_of M m
    unfolding capacity_of capacity need count_said counted_numbers
    capacity_unsized = rw e

    pub len_unsized : counted_numbers (Err Sizes) ≡ len_of M m
    unfolding len_of length need count_said counted_numbers
    len_unsized = rw e

    pub empty_unsized : emptiness_numbers (Err Sizes) ≡ is_empty_of M m
    unfolding is_empty_of length need empty_said emptiness_numbers
    empty_unsized = rw e

    pub reserve_unsized : (n b : ℕ) → reserved_numbers (Err Sizes) ≡ reserve_of M m n b
    unfolding reserve_of reserve need room_said reserved_numbers
    reserve_unsized n b = rw e

    pub contains_unsized : (k : K) → contained_numbers (Err Sizes) ≡ contains_of M m k
    unfolding contains_of get need contained_said contained_numbers
    contains_unsized k = rw e

  -- right sizes
  module _ (e : M.sized m ≡ true) where
    pub make_sized : {x : M.State} → x ≡ M.wipe m → told (outcome_numbers (Ok tt)) x ≡ make_of M m
    unfolding make_of capacity after_make acted need done_said outcome_numbers
    make_sized w = rw (e, w)

    pub capacity_sized : counted_numbers (Ok (M.size m)) ≡ capacity_of M m
    unfolding capacity_of capacity need count_said counted_numbers
    capacity_sized = rw e

    pub len_live : {n : ℕ} → damaged_slots M m ≡ false → live_count M m ≡ n → counted_numbers (Ok n) ≡ len_of M m
    unfolding len_of length need count_said counted_numbers
    len_live h l = rw (e, h, l)

    pub len_damaged : damaged_slots M m ≡ true → counted_numbers (Err Damaged) ≡ len_of M m
    unfolding len_of length need count_said counted_numbers
    len_damaged h = rw (e, h)
