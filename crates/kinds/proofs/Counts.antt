-- What the length that was counted says of is_empty and reserve, at any store.
use Prim.Native.Nat.{ℕ, ◌-◌, ◌≤◌, ◌<◌}
use mathlib.Core.Bool.{true, false}
use mathlib.Core.Path.{◌≡◌, sym, ap}
use native.Mathlib.Omega.{arith}
use borrow.Author.Tests.{ne_eqb, le-leb, lt-leb}
use lib.Dec.{eqb}
use Rattle.model.specs.Calls.{Or, no, ok, need, length, any_damage, reserve}
use Rattle.model.specs.Store.{Store, live_count, used, damaged_slots}
use Rattle.model.proofs.Cases.{by_bool, by_eq, clash}
use Rattle.model.proofs.Slots.{count_high}
use Rattle.answers.specs.declared.Refusal.{Refusal}
use Rattle.answers.specs.declared.Refusal.TheVariants.{NoSlot}
use Rattle.answers.specs.Refusals.{number_of}
use Rattle.answers.specs.Numbers.{counted_numbers, emptiness_numbers, reserved_numbers}
use Rattle.answers.specs.Said.{count_said, empty_said, room_said}
use Rattle.kinds.specs.Calls.{len_of, is_empty_of, reserve_of}
use Rattle.std.specs.Prelude.{Result, Ok, Err}

-- what a length says where it was counted, and where it was refused
count_ok : (x : Or ℕ) (n : ℕ) → counted_numbers (Ok n) ≡ count_said x → x ≡ ok n
unfolding counted_numbers count_said
count_ok (no i) n e = let z : ⊥ = omega (arith, ap (λ a. a.case) e) in absurd z
count_ok (ok y) n e = ap ok (sym (ap (λ a. a.value) e))

count_no : (x : Or ℕ) (r : Refusal) → counted_numbers (Err r) ≡ count_said x → x ≡ no (number_of r)
unfolding counted_numbers count_said
count_no (no i) r e = ap no (sym (ap (λ a. a.refusal) e))
count_no (ok y) r e = let z : ⊥ = omega (arith, ap (λ a. a.case) e) in absurd z

module _ {K W : Type 0} (M : Store K W) (m : M.State) where
  length_ok : {n : ℕ} → length M m ≡ ok n → (M.sized m ≡ true) × (damaged_slots M m ≡ false) × (live_count M m ≡ n)
  unfolding length need
  length_ok e = by_bool (M.sized m)
      (λ s. by_bool (damaged_slots M m)
      (λ h. clash (cc (rw (s, h) at e)))
      (λ h. (s, h, cc (rw (s, h) at e))))
      (λ s. clash (cc (rw s at e)))

  reserve_no : (n b : ℕ) {i : ℕ} → length M m ≡ no i → reserve M m n b ≡ no i
  unfolding length reserve need any_damage
  reserve_no n b e = by_bool (M.sized m)
      (λ s. by_bool (damaged_slots M m)
      (λ h. rw (s, h) (cc (rw (s, h) at e)))
      (λ h. clash (cc (rw (s, h) at e))))
      (λ s. rw s (cc (rw s at e)))

  module _ {r : Result ℕ Refusal} (p : counted_numbers r ≡ len_of M m) where
    counted_ok : {n : ℕ} → r ≡ Ok n → length M m ≡ ok n
    unfolding len_of
    counted_ok {n} q = count_ok (length M m) n (rw q at p)

    counted_no : {x : Refusal} → r ≡ Err x → length M m ≡ no (number_of x)
    unfolding len_of
    counted_no {x} q = count_no (length M m) x (rw q at p)

    -- is_empty
    pub empty_none : {n : ℕ} → r ≡ Ok n → n ≡ 0 → emptiness_numbers (Ok true) ≡ is_empty_of M m
    unfolding is_empty_of empty_said emptiness_numbers
    empty_none q e = rw (counted_ok q, e)

    pub empty_some : {n : ℕ} → r ≡ Ok n → (n ≡ 0 → ⊥) → emptiness_numbers (Ok false) ≡ is_empty_of M m
    unfolding is_empty_of empty_said emptiness_numbers
    empty_some {n} q h = rw (counted_ok q, ne_eqb n 0 h)

    pub empty_told : {n : ℕ} → r ≡ Ok n → emptiness_numbers (Ok (eqb n 0)) ≡ is_empty_of M m
    empty_told {n} q = by_eq n 0 (λ z e. rw e (empty_none q z)) (λ z e. rw e (empty_some q z))

    pub empty_not : {x : Refusal} → r ≡ Err x → emptiness_numbers (Err x) ≡ is_empty_of M m
    unfolding is_empty_of empty_said emptiness_numbers
    empty_not q = rw (counted_no q)

    -- reserve
    sound_count : {n : ℕ} → r ≡ Ok n → (M.sized m ≡ true) × (damaged_slots M m ≡ false) × (live_count M m ≡ n)
    sound_count q = length_ok (counted_ok q)

    pub count_within : {n : ℕ} → r ≡ Ok n → n ≤ M.size m
    unfolding live_count
    count_within q = let (a, b, l) = sound_count q in omega (arith, count_high (M.slots m) (M.size m))

    -- of a table whose keys have no bytes, and whose storing calls find no other damage
    module _ (h : M.damaged_fully m ≡ false) where
      pub reserve_room : {n asked : ℕ} → r ≡ Ok n → asked ≤ M.size m - n → reserved_numbers (Ok tt) ≡ reserve_of M m asked 0
      unfolding reserve_of reserve any_damage need room_said reserved_numbers
      reserve_room {n} {asked} q l = let (a, b, e) = sound_count q in rw (a, b, h, e, le-leb asked (M.size m - n) l, le-leb 0 (M.bytes m - used M m) (omega arith))

      pub reserve_none : {n asked : ℕ} → r ≡ Ok n → M.size m - n < asked → reserved_numbers (Err NoSlot) ≡ reserve_of M m asked 0
      unfolding reserve_of reserve any_damage need room_said reserved_numbers
      reserve_none {n} {asked} q l = let (a, b, e) = sound_count q in rw (a, b, h, e, lt-leb asked (M.size m - n) l)

    pub reserve_not : (n b : ℕ) {x : Refusal} → r ≡ Err x → reserved_numbers (Err x) ≡ reserve_of M m n b
    unfolding reserve_of room_said reserved_numbers
    reserve_not n b {x} q = rw (reserve_no n b (counted_no q))
