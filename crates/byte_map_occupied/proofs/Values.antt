-- Occupied handles: what the slot says, and what get, set, remove and remove_entry tell and leave by it.
use Rattle.std.proofs.Common.{ℕ, zero, suc, ◌<◌, ◌&&◌, List, ◌≡◌, refl, sym, ap, ◌∙◌, arith, eqb-true, eqb, length, get_or, set, Result, Ok, Err}
use Rattle.model.specs.Calls.{Or, no, ok, need, pass, held_on, held_at, occupied_get, after_set, acted}
use Rattle.model.proofs.Cases.{by_bool, by_lt, clash}
use Rattle.answers.specs.declared.Refusal.{Refusal}
use Rattle.answers.specs.Refusals.{number_of}
use Rattle.answers.specs.Said.{held_said, swapped_said}
use Rattle.kinds.specs.Calls.{sized_of, held_of, set_of}
use Rattle.kinds.specs.Columns.{values}
use Rattle.kinds.specs.Marks.{cell}
use Rattle.kinds.specs.Probing.{look_at, look_of}
use Rattle.kinds.specs.Told.{told}
use Rattle.byte_slots.specs.Keys.{same_bytes}
use Rattle.byte_slots.specs.Kinds.{MapMemory, maps}
use Rattle.byte_slots.specs.Marks.{mark_of}
use Rattle.byte_slots.specs.Memory.{ByteMemory, key_at, fitting, asked_of}
use Rattle.byte_slots.specs.Probing.{sight_at}
use Rattle.byte_slots.proofs.Bridge.{asked_no}
use Rattle.byte_slots.proofs.Marks.{slot_cell}
use Rattle.byte_slots.proofs.MapSizes.{same_long}
use Rattle.byte_map_occupied.specs.declared.Occupied.{Occupied}
use Rattle.byte_map_occupied.specs.Numbers.{held_numbers, swapped_numbers}
use Rattle.tables.specs.Reading.{lent_of}
use Rattle.tables.proofs.Calls.{lent_err, lent_ok}
use Rattle.byte_map_occupied.specs.Planning.{asking, held_by, value_in, value_for}
use Rattle.kinds.specs.declared.Sight.{Sight}
use Rattle.kinds.specs.declared.Sight.TheVariants.{Never, Freed, Same, Other}

-- What a handle's test says in the theory's words.
abbrev pub value_of : Result (ℕ × Occupied) Refusal → Or ℕ
value_of (Ok (v, h)) = ok v
value_of (Err r) = no (number_of r)

-- what a slot with this mark and key says to the handle is what it says to the path
value_cell : (i : ℕ) (a k : List ℕ) (v m : ℕ) → held_on maps k (cell m a v) ≡ value_of (held_by i v (look_of maps.keys k m a))
unfolding held_on cell look_of look_at held_by need
value_cell i a k v zero = refl
value_cell i a k v (suc zero) = by_bool (same_bytes a k) (λ e. rw e) (λ e. rw e)
value_cell i a k v (suc (suc zero)) = refl
value_cell i a k v (suc (suc (suc m))) = refl

-- a handle's test answers with the handle itself
held_slot : (i v w : ℕ) {h : Occupied} (s : Result Sight Refusal) → held_by i v s ≡ Ok (w, h) → h.slot ≡ i
unfolding held_by
held_slot i v w (Ok Never) e = clash cc
held_slot i v w (Ok Freed) e = clash cc
held_slot i v w (Err r) e = clash cc
held_slot i v w {h} (Ok Same) e = let z : ◌≡◌ {A = ℕ × Occupied} (v, record { slot = i }) (w, h) = cc in sym (ap (λ p. p.1.slot) z)
held_slot i v w (Ok Other) e = clash cc

module _ (m : ByteMemory values) (i : ℕ) (k : List ℕ) where
  -- the handle's test in the theory
  pub grip_value : held_at maps m i k ≡ value_of (value_in m i k)
  unfolding held_at value_in need sight_at
  grip_value = by_lt i (length m.spans.marks)
      (λ l e. rw (e, slot_cell m.spans (λ j. get_or m.words j 0) i) (value_cell i (key_at m.spans i) k (get_or m.words i 0) (mark_of m.spans i)))
      (λ l e. rw e)

  -- an occupied handle's get, by its plan
  get_value : occupied_get maps m i k ≡ value_of (value_for m i k)
  unfolding occupied_get value_for asking sized_of need pass
  get_value = by_bool (fitting m.spans && eqb (length m.spans.marks) (length m.words))
      (λ f. rw f (by_bool (eqb (asked_of k) 0)
      (λ a. rw (a, eqb-true (asked_of k) 0 a) grip_value)
      (λ a. rw (a, asked_no k a))))
      (λ f. rw f)

  -- a good handle's slot is one of the table's, and is the handle's own
  good_in : {v : ℕ} {h : Occupied} → value_in m i k ≡ Ok (v, h) → (i < length m.spans.marks) × (h.slot ≡ i)
  unfolding value_in
  good_in {v} q = by_lt i (length m.spans.marks)
      (λ l e. (l, held_slot i (get_or m.words i 0) v (sight_at m.spans k i) (rw e at q)))
      (λ l e. clash (cc (rw e at q)))

  good_value : {v : ℕ} {h : Occupied} → value_for m i k ≡ Ok (v, h) → (length m.words ≡ length m.spans.marks) × (i < length m.spans.marks) × (h.slot ≡ i)
  unfolding value_for asking
  good_value q = by_bool (sized_of maps m)
      (λ f. by_bool (eqb (asked_of k) 0)
      (λ a. let (x, y) = good_in (rw (f, a) at q) in ((same_long m (sym f) refl).2, x, y))
      (λ a. clash (cc (rw (f, a) at q))))
      (λ f. clash (cc (rw f at q)))

  -- wrong sizes, by what was lent
  unlent : {l : Result MapMemory Refusal} {x : Refusal} → l ≡ lent_of maps m → l ≡ Err x → Err x ≡ value_for m i k
  unfolding value_for sized_of
  unlent l q = let (f, e) = lent_err maps m l q in rw (f, e)

  -- where the plan of what was lent answered r
  module _ {l : Result MapMemory Refusal} {n : MapMemory} (o : l ≡ lent_of maps m) (j : l ≡ Ok n) {r : Result (ℕ × Occupied) Refusal} (w : r ≡ asking n i k) where
    p : r ≡ value_for m i k
    unfolding value_for sized_of
    p = let (f, e) = lent_ok maps m o j in rw (w, e, f)

    get_ok : {v : ℕ} {h : Occupied} → r ≡ Ok (v, h) → occupied_get maps m i k ≡ ok v
    get_ok q = rw (get_value, ← p, q)

    get_no : {x : Refusal} → r ≡ Err x → occupied_get maps m i k ≡ no (number_of x)
    get_no q = rw (get_value, ← p, q)

    pub held_inside : {v : ℕ} {h : Occupied} → r ≡ Ok (v, h) → i < length m.words
    held_inside q = let (a, b, c) = good_value (sym p ∙ q) in omega arith

    pub get_held : held_numbers r ≡ held_of maps m i k
    unfolding held_of held_numbers held_said
    get_held = go r refl
      where
        go : (x : Result (ℕ × Occupied) Refusal) → r ≡ x → held_numbers x ≡ held_said i (occupied_get maps m i k)
        go (Ok (v, h)) q = let (a, b, c) = good_value (sym p ∙ q) in rw (get_ok q, c)
        go (Err x) q = rw (get_no q)

    pub set_done : {old : ℕ} {h : Occupied} (v : ℕ) → r ≡ Ok (old, h) → told (swapped_numbers (Ok (old, (record { slot = i })))) (record { spans = m.spans; words = set m.words i v }) ≡ set_of maps m i k v
    unfolding set_of after_set acted swapped_numbers swapped_said
    set_done v q = rw (get_ok q)

    pub set_refused : {x : Refusal} (v : ℕ) → r ≡ Err x → told (swapped_numbers (Err x)) m ≡ set_of maps m i k v
    unfolding set_of after_set acted swapped_numbers swapped_said
    set_refused v q = rw (get_no q)

  -- the same, where the sizes are wrong
  module _ {l : Result MapMemory Refusal} {x : Refusal} (o : l ≡ lent_of maps m) (j : l ≡ Err x) where
    refused : occupied_get maps m i k ≡ no (number_of x)
    refused = rw (get_value, ← unlent o j)

    pub get_unlent : held_numbers (Err x) ≡ held_of maps m i k
    unfolding held_of held_numbers held_said
    get_unlent = rw refused

    pub set_unlent : (v : ℕ) → told (swapped_numbers (Err x)) m ≡ set_of maps m i k v
    unfolding set_of after_set acted swapped_numbers swapped_said
    set_unlent v = rw refused
