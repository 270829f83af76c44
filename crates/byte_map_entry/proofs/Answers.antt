-- The entry answer's own calls, by the occupied case taken out first and everything else as vacant.
use Rattle.std.proofs.Common.{ℕ, List, ◌≡◌, refl, sym, ap, length, Result, Ok, Err}
use Rattle.model.specs.Calls.{Or, no, ok, give, on_occupied, on_vacant, occupied_get, or_insert, after_or_insert, insert_entry, after_insert_entry}
use Rattle.answers.proofs.Told.{other_case}
use Rattle.answers.specs.declared.Refusal.{Refusal}
use Rattle.answers.specs.declared.Numbers.{Numbers}
use Rattle.answers.specs.Refusals.{number_of}
use Rattle.answers.specs.Said.{held_said, swapped_said, in_slot_said}
use Rattle.kinds.specs.Calls.{held_of, set_of, vacant_insert_of, slot_of, or_insert_of, insert_entry_of}
use Rattle.kinds.specs.Columns.{values}
use Rattle.kinds.specs.Told.{told}
use Rattle.kinds.proofs.Told.{said, left, retold}
use Rattle.byte_slots.specs.Kinds.{maps}
use Rattle.byte_slots.specs.Memory.{ByteMemory}
use Rattle.byte_map_occupied.specs.declared.Occupied.{Occupied}
use Rattle.byte_map_occupied.specs.Numbers.{held_numbers, swapped_numbers}
use Rattle.byte_map_vacant.specs.Numbers.{in_slot_numbers}
use Rattle.byte_map_entry.specs.declared.Entered.{Entered}
use Rattle.byte_map_entry.specs.declared.Entered.TheVariants as entered
use Rattle.byte_map_entry.specs.Calls.{vacant_slot_of, handle_of}

-- an answer that is not occupied is a vacant handle
not_occupied : (S : ℕ) (a : Entered) → ((h : Occupied) (v e : ℕ) → a ≡ entered.Occupied h v e → ⊥) → handle_of S a ≡ on_vacant (vacant_slot_of S a)
unfolding handle_of vacant_slot_of
not_occupied S (entered.Occupied h v e) t = absurd (t h v e refl)
not_occupied S (entered.Vacant h e) t = refl
not_occupied S (entered.Refused r) t = refl

-- what the answer of a get or a set says of the theory's
held_ok : (s : ℕ) {v : ℕ} {h : Occupied} {r : Result (ℕ × Occupied) Refusal} (x : Or ℕ) → held_numbers r ≡ held_said s x → r ≡ Ok (v, h) → x ≡ ok v
unfolding held_numbers held_said
held_ok s (no n) p q = other_case (rw q at p) refl
held_ok s (ok w) p q = ap ok (sym (ap (λ n. n.value) (rw q at p)))

held_no : (s : ℕ) {e : Refusal} {r : Result (ℕ × Occupied) Refusal} (x : Or ℕ) → held_numbers r ≡ held_said s x → r ≡ Err e → x ≡ no (number_of e)
unfolding held_numbers held_said
held_no s (no n) p q = ap no (sym (ap (λ n. n.refusal) (rw q at p)))
held_no s (ok w) p q = other_case (rw q at p) refl

swapped_ok : (s : ℕ) {v : ℕ} {h : Occupied} {r : Result (ℕ × Occupied) Refusal} (x : Or ℕ) → swapped_numbers r ≡ swapped_said s x → r ≡ Ok (v, h) → x ≡ ok v
unfolding swapped_numbers swapped_said
swapped_ok s (no n) p q = other_case (rw q at p) refl
swapped_ok s (ok w) p q = ap ok (sym (ap (λ n. n.value) (rw q at p)))

swapped_no : (s : ℕ) {e : Refusal} {r : Result (ℕ × Occupied) Refusal} (x : Or ℕ) → swapped_numbers r ≡ swapped_said s x → r ≡ Err e → x ≡ no (number_of e)
unfolding swapped_numbers swapped_said
swapped_no s (no n) p q = ap no (sym (ap (λ n. n.refusal) (rw q at p)))
swapped_no s (ok w) p q = other_case (rw q at p) refl

module _ (m : ByteMemory values) (k : List ℕ) (v : ℕ) (a : Entered) where
  -- everything but occupied: the vacant handle's insert
  module _ {s : ℕ} {n : Numbers} {m' : ByteMemory values} (t : (h : Occupied) (v e : ℕ) → a ≡ entered.Occupied h v e → ⊥) (p : s ≡ vacant_slot_of (length m.spans.marks) a) (q : told n m' ≡ vacant_insert_of maps m s k v) where
    pub or_insert_vacant : told n m' ≡ or_insert_of maps m (handle_of (length m.spans.marks) a) k v
    unfolding or_insert_of vacant_insert_of or_insert after_or_insert slot_of
    or_insert_vacant = rw (not_occupied (length m.spans.marks) a t, ← p) q

    pub insert_entry_vacant : told n m' ≡ insert_entry_of maps m (handle_of (length m.spans.marks) a) k v
    unfolding insert_entry_of vacant_insert_of insert_entry after_insert_entry slot_of
    insert_entry_vacant = rw (not_occupied (length m.spans.marks) a t, ← p) q

  module _ {h : Occupied} {w e : ℕ} (o : a ≡ entered.Occupied h w e) where
    on : handle_of (length m.spans.marks) a ≡ on_occupied h.slot
    unfolding handle_of
    on = rw o

    -- occupied: the handle's get
    module _ {r : Result (ℕ × Occupied) Refusal} (p : held_numbers r ≡ held_of maps m h.slot k) where
      pub or_insert_kept : {x : ℕ} {g : Occupied} → r ≡ Ok (x, g) → told (in_slot_numbers (Ok (h, x))) m ≡ or_insert_of maps m (handle_of (length m.spans.marks) a) k v
      unfolding held_of or_insert_of or_insert after_or_insert slot_of in_slot_numbers in_slot_said
      or_insert_kept q = rw (on, held_ok h.slot (occupied_get maps m h.slot k) p q)

      pub or_insert_refused : {x : Refusal} → r ≡ Err x → told (in_slot_numbers (Err x)) m ≡ or_insert_of maps m (handle_of (length m.spans.marks) a) k v
      unfolding held_of or_insert_of or_insert after_or_insert slot_of in_slot_numbers in_slot_said
      or_insert_refused q = rw (on, held_no h.slot (occupied_get maps m h.slot k) p q)

    -- or its set
    module _ {r : Result (ℕ × Occupied) Refusal} {m' : ByteMemory values} (p : told (swapped_numbers r) m' ≡ set_of maps m h.slot k v) where
      pub insert_entry_set : {x : ℕ} {g : Occupied} → r ≡ Ok (x, g) → told (in_slot_numbers (Ok (h, v))) m' ≡ insert_entry_of maps m (handle_of (length m.spans.marks) a) k v
      unfolding set_of insert_entry_of insert_entry after_insert_entry slot_of give in_slot_numbers in_slot_said
      insert_entry_set q = rw on (retold (rw (swapped_ok h.slot (occupied_get maps m h.slot k) (said p) q)) (left p))

      pub insert_entry_refused : {x : Refusal} → r ≡ Err x → told (in_slot_numbers (Err x)) m' ≡ insert_entry_of maps m (handle_of (length m.spans.marks) a) k v
      unfolding set_of insert_entry_of insert_entry after_insert_entry slot_of give in_slot_numbers in_slot_said
      insert_entry_refused q = rw on (retold (rw (swapped_no h.slot (occupied_get maps m h.slot k) (said p) q)) (left p))
