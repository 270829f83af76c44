-- Occupied handles: what the slot says, and what get, set, remove and remove_entry tell and leave by it.
use Prim.Native.Nat.{ℕ, zero, suc, ◌≤◌, ◌<◌}
use mathlib.Core.Bool.{true}
use mathlib.Core.List.{List}
use mathlib.Core.Path.{◌≡◌, refl, sym, ap}
use borrow.Author.Tests.{lt-ltb, le-ltb}
use lib.ListN.{length, get_or, set}
use Rattle.model.specs.Calls.{Or, no, ok, need, pass, held_on, held_at, occupied_get, after_set, occupied_remove, after_drop, acted}
use Rattle.model.proofs.Cases.{by_bool, by_lt, clash}
use Rattle.answers.proofs.Told.{other_case}
use Rattle.answers.specs.declared.Refusal.{Refusal}
use Rattle.answers.specs.declared.Refusal.TheVariants.{BadHandle}
use Rattle.answers.specs.declared.Numbers.{Numbers}
use Rattle.answers.specs.Refusals.{number_of}
use Rattle.kinds.specs.Marks.{cell}
use Rattle.kinds.specs.Columns.{values}
use Rattle.kinds.specs.Probing.{look_at}
use Rattle.kinds.specs.declared.Sight.{Sight}
use Rattle.kinds.specs.declared.Sight.TheVariants.{Never, Freed, Same, Other}
use Rattle.tables.specs.Reading.{lent_of}
use Rattle.tables.proofs.Calls.{lent_ok, lent_err}
use Rattle.int_slots.specs.Memory.{integers, memory}
use Rattle.int_slots.proofs.Lent.{sized_keys}
use Rattle.int_slots.proofs.MapSizes.{map_long}
use Rattle.int_map_occupied.specs.declared.Occupied.{Occupied}
use Rattle.int_slots.specs.Maps.{maps, MapMemory}
use Rattle.kinds.specs.Told.{told}
use Rattle.kinds.proofs.Told.{said, left, retold}
use Rattle.answers.specs.Said.{held_said, swapped_said, taken_said, taken_entry_said}
use Rattle.int_map_occupied.specs.Numbers.{held_numbers, swapped_numbers, taken_numbers, taken_entry_numbers}
use Rattle.int_slots.specs.Kinds.{remove_entry_of}
use Rattle.kinds.specs.Calls.{held_of, set_of, taken_of}
use Rattle.std.specs.Prelude.{Result, Ok, Err}

-- what the answer of a get says of the theory's
said_ok : (s : ℕ) {v : ℕ} {h : Occupied} {r : Result (ℕ × Occupied) Refusal} (x : Or ℕ) → held_numbers r ≡ held_said s x → r ≡ Ok (v, h) → x ≡ ok v
unfolding held_numbers held_said
said_ok s (no n) p q = other_case (rw q at p) refl
said_ok s (ok w) p q = ap ok (sym (ap (λ n. n.value) (rw q at p)))

said_no_law : (s : ℕ) {e : Refusal} {r : Result (ℕ × Occupied) Refusal} (x : Or ℕ) → held_numbers r ≡ held_said s x → r ≡ Err e → x ≡ no (number_of e)
unfolding held_numbers held_said
said_no_law s (no n) p q = ap no (sym (ap (λ n. n.refusal) (rw q at p)))
said_no_law s (ok w) p q = other_case (rw q at p) refl

taken_ok : {v : ℕ} {r : Result ℕ Refusal} (x : Or ℕ) → taken_numbers r ≡ taken_said x → r ≡ Ok v → x ≡ ok v
unfolding taken_numbers taken_said
taken_ok (no n) p q = other_case (rw q at p) refl
taken_ok (ok w) p q = ap ok (sym (ap (λ n. n.value) (rw q at p)))

taken_no : {e : Refusal} {r : Result ℕ Refusal} (x : Or ℕ) → taken_numbers r ≡ taken_said x → r ≡ Err e → x ≡ no (number_of e)
unfolding taken_numbers taken_said
taken_no (no n) p q = ap no (sym (ap (λ n. n.refusal) (rw q at p)))
taken_no (ok w) p q = other_case (rw q at p) refl

-- what a slot holds for a key, by the look at it
abbrev held_by : ℕ → Result Sight Refusal → Or ℕ
held_by v (Ok Same) = ok v
held_by v (Ok Other) = no 6
held_by v (Ok Never) = no 6
held_by v (Ok Freed) = no 6
held_by v (Err r) = no (number_of r)

held_look : (k a v mark : ℕ) → held_on maps k (cell mark a v) ≡ held_by v (look_at integers k (cell mark a v))
unfolding held_on look_at cell need
held_look k a v zero = refl
held_look k a v (suc zero) = by_bool (integers.same k a) (λ t. rw t) (λ t. rw t)
held_look k a v (suc (suc zero)) = refl
held_look k a v (suc (suc (suc n))) = refl

-- the handle's tests, one after the other
module _ (m : MapMemory) (s k : ℕ) where
  module _ (f : maps.sized m ≡ true) where
    pub value_beyond : length m.marks ≤ s → held_numbers (Err BadHandle) ≡ held_of maps m s k
    unfolding held_of occupied_get held_at need pass held_numbers held_said
    value_beyond l = rw (f, le-ltb s (length m.marks) l)

    module _ (l : s < length m.marks) {x : Result Sight Refusal} (p : x ≡ look_at integers k (maps.slots m s)) where
      value_by : held_of maps m s k ≡ held_said s (held_by (get_or m.words s 0) x)
      unfolding held_of occupied_get held_at need pass
      value_by = rw (f, lt-ltb s (length m.marks) l, p) (ap (λ a. held_said s a) (held_look k (get_or m.keys s 0) (get_or m.words s 0) (get_or m.marks s 0)))

      pub value_same : x ≡ Ok Same → held_numbers (Ok (get_or m.words s 0, (record { slot = s }))) ≡ held_of maps m s k
      unfolding held_numbers held_said
      value_same q = rw (value_by, q)

      pub value_other : (y : Sight) → x ≡ Ok y → (y ≡ Same → ⊥) → held_numbers (Err BadHandle) ≡ held_of maps m s k
      unfolding held_numbers held_said
      value_other Never q h = rw (value_by, q)
      value_other Freed q h = rw (value_by, q)
      value_other Other q h = rw (value_by, q)
      value_other Same q h = absurd (h refl)

      pub value_bad : {y : Refusal} → x ≡ Err y → held_numbers (Err y) ≡ held_of maps m s k
      unfolding held_numbers held_said
      value_bad q = rw (value_by, q)

  -- of lent arrays
  module _ {r : Result MapMemory Refusal} (p : r ≡ lent_of maps m) where
    pub value_lent : {n : MapMemory} → r ≡ Ok n → {a : Numbers} → a ≡ held_of maps n s k → a ≡ held_of maps m s k
    value_lent q h = rw (lent_ok maps m p q).1 at h

    pub value_unlent : {y : Refusal} → r ≡ Err y → held_numbers (Err y) ≡ held_of maps m s k
    unfolding held_of occupied_get need held_numbers held_said
    value_unlent q = let (f, e) = lent_err maps m p q in rw (e, f)

module _ (marks keys vs : List ℕ) where
  module _ (s k : ℕ) where
    -- a good handle's slot is one of the table's
    good_slot : {v : ℕ} → occupied_get maps (memory marks keys vs) s k ≡ ok v → (s < length marks) × (length keys ≡ length marks) × (length vs ≡ length marks)
    unfolding occupied_get held_at need pass
    good_slot e =
        by_bool (maps.sized (memory marks keys vs))
        (λ f. by_lt s (length marks)
        (λ l t. (l, sized_keys values (memory marks keys vs) f, map_long (memory marks keys vs) f))
        (λ l t. clash (cc (rw (f, t) at e))))
        (λ f. clash (cc (rw f at e)))

    -- a removal by handle makes the tests of a get
    remove_get : occupied_remove maps (memory marks keys vs) s k ≡ occupied_get maps (memory marks keys vs) s k
    unfolding occupied_remove occupied_get need pass
    remove_get = refl

    -- where a get answered r
    module _ {r : Result (ℕ × Occupied) Refusal} (p : held_numbers r ≡ held_of maps (memory marks keys vs) s k) where
      pub get_ok : {v : ℕ} {h : Occupied} → r ≡ Ok (v, h) → occupied_get maps (memory marks keys vs) s k ≡ ok v
      unfolding held_of
      get_ok q = said_ok s (occupied_get maps (memory marks keys vs) s k) p q

      pub get_no : {e : Refusal} → r ≡ Err e → occupied_get maps (memory marks keys vs) s k ≡ no (number_of e)
      unfolding held_of
      get_no q = said_no_law s (occupied_get maps (memory marks keys vs) s k) p q

      pub held_slot : {v : ℕ} {h : Occupied} → r ≡ Ok (v, h) → (s < length marks) × (length keys ≡ length marks) × (length vs ≡ length marks)
      held_slot q = good_slot (get_ok q)

      pub set_done : {old : ℕ} {h : Occupied} (v : ℕ) → r ≡ Ok (old, h) → told (swapped_numbers (Ok (old, (record { slot = s })))) (memory marks keys (set vs s v)) ≡ set_of maps (memory marks keys vs) s k v
      unfolding set_of after_set acted swapped_numbers swapped_said
      set_done v q = rw (get_ok q)

      pub set_refused : {e : Refusal} (v : ℕ) → r ≡ Err e → told (swapped_numbers (Err e)) (memory marks keys vs) ≡ set_of maps (memory marks keys vs) s k v
      unfolding set_of after_set acted swapped_numbers swapped_said
      set_refused v q = rw (get_no q)

      pub remove_done : {old : ℕ} {h : Occupied} → r ≡ Ok (old, h) → told (taken_numbers (Ok old)) (memory (set marks s 2) (set keys s 0) (set vs s 0)) ≡ taken_of maps (memory marks keys vs) s k
      unfolding taken_of after_drop acted taken_numbers taken_said
      remove_done q = rw (remove_get, get_ok q)

      pub remove_refused : {e : Refusal} → r ≡ Err e → told (taken_numbers (Err e)) (memory marks keys vs) ≡ taken_of maps (memory marks keys vs) s k
      unfolding taken_of after_drop acted taken_numbers taken_said
      remove_refused q = rw (remove_get, get_no q)

    -- where a remove answered r and left other lists
    module _ {r : Result ℕ Refusal} {marks' keys' vs' : List ℕ} (p : told (taken_numbers r) (memory marks' keys' vs') ≡ taken_of maps (memory marks keys vs) s k) where
      pub remove_entry_done : {old : ℕ} → r ≡ Ok old → told (taken_entry_numbers (Ok (k, old))) (memory marks' keys' vs') ≡ remove_entry_of (memory marks keys vs) s k
      unfolding taken_of remove_entry_of taken_entry_numbers taken_entry_said
      remove_entry_done q = retold (rw (taken_ok (occupied_remove maps (memory marks keys vs) s k) (said p) q)) (left p)

      pub remove_entry_refused : {e : Refusal} → r ≡ Err e → told (taken_entry_numbers (Err e)) (memory marks' keys' vs') ≡ remove_entry_of (memory marks keys vs) s k
      unfolding taken_of remove_entry_of taken_entry_numbers taken_entry_said
      remove_entry_refused q = retold (rw (taken_no (occupied_remove maps (memory marks keys vs) s k) (said p) q)) (left p)
