-- What the calls that read tell of a byte table of right sizes, by the survey and by what a key's path found.
use Rattle.std.proofs.Common.{ℕ, ◌-◌, ◌<◌, Bool, true, false, List, ◌≡◌, sym, ◌∙◌, ap, ◌⊎◌, inl, inr, eqb, length, get_or, Ok, Err, Result}
use Rattle.model.specs.Calls.{get, need, pass, reserve, no}
use Rattle.model.specs.Store.{live_count, used}
use Rattle.model.proofs.Cases.{both}
use Rattle.answers.specs.Numbers.{contained_numbers, got_numbers, reserved_numbers, spanned_numbers}
use Rattle.answers.specs.Said.{contained_said, got_said, room_said, spanned_said}
use Rattle.answers.specs.declared.Lookup.TheVariants.{Found, Absent}
use Rattle.answers.specs.declared.Refusal.{Refusal}
use Rattle.answers.specs.declared.Refusal.TheVariants.{LongKey}
use Rattle.answers.specs.declared.Span.{Span}
use Rattle.digest.proofs.Bounds.{home_below}
use Rattle.kinds.specs.Calls.{contains_of, get_of, reserve_of}
use Rattle.kinds.specs.Columns.{Column, nothing, values}
use Rattle.kinds.specs.Rooms.{reserved_by}
use Rattle.kinds.specs.declared.Probed.{Probed}
use Rattle.kinds.specs.declared.Probed.TheVariants.{Hit, Free, Full}
use Rattle.kinds.proofs.Bridge.{seen_of}
use Rattle.kinds.proofs.Rooms.{reserved_said}
use Rattle.tables.specs.Reading.{lent_of, probing}
use Rattle.tables.proofs.Calls as tables
use Rattle.byte_slots.specs.Kinds.{maps, sets, set_get_of}
use Rattle.byte_slots.specs.Memory.{ByteMemory, asked_of, byte_store, fitting, key_at, length_of, offset_of}
use Rattle.byte_slots.specs.Marks.{mark_of}
use Rattle.byte_slots.specs.Scanning.{live_marks}
use Rattle.byte_slots.specs.Surveying.{surveying}
use Rattle.byte_slots.proofs.Beside.{beside_set}
use Rattle.byte_slots.proofs.Bridge.{any_damage_is, asked_no, used_is}
use Rattle.byte_slots.proofs.Held.{unharmed_whole}
use Rattle.byte_slots.proofs.Lives.{marks_count}
use Rattle.byte_slots.proofs.Marks.{slots_cells}
use Rattle.byte_slots.proofs.Plans.{surveyed_bad, surveyed_used}
use Rattle.byte_slots.proofs.Sizes.{fitting_says}

module _ {W : Type 0} (C : Column W) (m : ByteMemory C) (sized : (byte_store C).sized m ≡ true) where
  parts : (fitting m.spans ≡ true) × (C.long m.words (length m.spans.marks) ≡ true)
  parts = both (fitting m.spans) (C.long m.words (length m.spans.marks)) sized

  -- reserve, by the survey
  module _ {r : Result ℕ Refusal} (t : r ≡ surveying m.spans) (keys bytes : ℕ) where
    pub reserve_bad : {y : Refusal} → r ≡ Err y → reserved_numbers (Err y) ≡ reserve_of (byte_store C) m keys bytes
    unfolding reserve_of reserve need room_said reserved_numbers
    reserve_bad u = let (h, e) = surveyed_bad m.spans t u in rw (sized, any_damage_is C m, h, e)

    pub reserve_room : {u n : ℕ} {a : Result (Unit {0}) Refusal} → r ≡ Ok u → n ≡ length m.spans.marks - live_marks m.spans.marks (length m.spans.marks) → a ≡ reserved_by n (length m.spans.arena - u) keys bytes → reserved_numbers a ≡ reserve_of (byte_store C) m keys bytes
    unfolding reserve_of reserve need live_count
    reserve_room {u} {n} e l o =
        let (h, v) = surveyed_used m.spans t e in
        let c : live_count (byte_store C) m ≡ live_marks m.spans.marks (length m.spans.marks) = (beside_set C m parts.1).lives ∙ marks_count m.spans (length m.spans.marks) (unharmed_whole m.spans h) in
        let w : used (byte_store C) m ≡ u = used_is C m ∙ sym v in
        rw (sized, any_damage_is C m, h, c, w, ← l) (reserved_said n (length m.spans.arena - u) keys bytes o)

  module _ (k : List ℕ) where
    -- a key that may not be asked for
    module _ {b : Bool} (p : b ≡ eqb (asked_of k) 0) (q : b ≡ false) where
      pub get_long : get (byte_store C) m k ≡ no 2
      unfolding get need pass
      get_long = rw (sized, asked_no k (sym p ∙ q))

      pub contains_long : contained_numbers (Err LongKey) ≡ contains_of (byte_store C) m k
      unfolding contains_of contained_numbers contained_said
      contains_long = rw get_long

    -- one that may, by what its path found
    module _ {r : Result Probed Refusal} (p : r ≡ probing (byte_store C) m k) where
      pub hit_inside : {f : Probed} {i e : ℕ} → r ≡ Ok f → f ≡ Hit i e → i < length m.spans.marks
      hit_inside q z = tables.found_inside (byte_store C) m k (home_below 0 (length m.spans.marks) k (fitting_says m.spans parts.0).some) p (q ∙ ap Ok z)

      pub get_sees : {x : Result Probed Refusal} → asked_of k ≡ 0 → r ≡ x → get (byte_store C) m k ≡ seen_of (C.read m.words) x
      get_sees may q = tables.get_told (byte_store C) m (mark_of m.spans) (key_at m.spans) (C.read m.words) (slots_cells m.spans (C.read m.words)) k sized may p q

-- a get of arrays of wrong sizes
pub set_get_refused : (m : ByteMemory nothing) (k : List ℕ) {r : Result (ByteMemory nothing) Refusal} {y : Refusal} → r ≡ lent_of sets m → r ≡ Err y → spanned_numbers (Err y) ≡ set_get_of m k
unfolding set_get_of spanned_numbers spanned_said
set_get_refused m k p q = rw (tables.get_refused sets m p q k)

pub map_get_refused : (m : ByteMemory values) (k : List ℕ) {r : Result (ByteMemory values) Refusal} {y : Refusal} → r ≡ lent_of maps m → r ≡ Err y → got_numbers (Err y) ≡ get_of maps m k
unfolding get_of got_numbers got_said
map_get_refused m k p q = rw (tables.get_refused maps m p q k)

-- a set's get tells the found key's span
module _ (m : ByteMemory nothing) (sized : sets.sized m ≡ true) (k : List ℕ) where
  pub set_get_long : {b : Bool} → b ≡ eqb (asked_of k) 0 → b ≡ false → spanned_numbers (Err LongKey) ≡ set_get_of m k
  unfolding set_get_of spanned_numbers spanned_said
  set_get_long p q = rw (get_long nothing m sized k p q)

  module _ (may : asked_of k ≡ 0) {r : Result Probed Refusal} (p : r ≡ probing sets m k) where
    set_sees : {x : Result Probed Refusal} → r ≡ x → spanned_said (offset_of m.spans) (length_of m.spans) (seen_of {W = Unit {0}} (λ i. tt) x) ≡ set_get_of m k
    unfolding set_get_of
    set_sees q = rw (get_sees nothing m sized k p may q)

    pub set_get_hit : {i e : ℕ} (s : Span) → r ≡ Ok (Hit i e) → s.offset ≡ get_or m.spans.offsets i 0 → s.length ≡ get_or m.spans.lengths i 0 → spanned_numbers (Ok (Found s i e)) ≡ set_get_of m k
    unfolding spanned_numbers spanned_said
    set_get_hit s q o l = rw (o, l) (set_sees q)

    pub set_get_absent : {f : Probed} {e : ℕ} → r ≡ Ok f → ((a : ℕ) × (f ≡ Free a e)) ⊎ (f ≡ Full e) → spanned_numbers (Ok (Absent e)) ≡ set_get_of m k
    unfolding spanned_numbers spanned_said
    set_get_absent q (inl (a, z)) = set_sees (q ∙ ap Ok z)
    set_get_absent q (inr z) = set_sees (q ∙ ap Ok z)

    pub set_get_bad : {y : Refusal} → r ≡ Err y → spanned_numbers (Err y) ≡ set_get_of m k
    unfolding spanned_numbers spanned_said
    set_get_bad q = set_sees q

-- a map's get tells the value
module _ (m : ByteMemory values) (sized : maps.sized m ≡ true) (k : List ℕ) where
  pub map_get_long : {b : Bool} → b ≡ eqb (asked_of k) 0 → b ≡ false → got_numbers (Err LongKey) ≡ get_of maps m k
  unfolding get_of got_numbers got_said
  map_get_long p q = rw (get_long values m sized k p q)

  module _ (may : asked_of k ≡ 0) {r : Result Probed Refusal} (p : r ≡ probing maps m k) where
    map_sees : {x : Result Probed Refusal} → r ≡ x → got_said (seen_of (λ i. get_or m.words i 0) x) ≡ get_of maps m k
    unfolding get_of
    map_sees q = rw (get_sees values m sized k p may q)

    pub map_get_hit : {i e v : ℕ} → r ≡ Ok (Hit i e) → v ≡ get_or m.words i 0 → got_numbers (Ok (Found v i e)) ≡ get_of maps m k
    unfolding got_numbers got_said
    map_get_hit q z = rw z (map_sees q)

    pub map_get_absent : {f : Probed} {e : ℕ} → r ≡ Ok f → ((a : ℕ) × (f ≡ Free a e)) ⊎ (f ≡ Full e) → got_numbers (Ok (Absent e)) ≡ get_of maps m k
    unfolding got_numbers got_said
    map_get_absent q (inl (a, z)) = map_sees (q ∙ ap Ok z)
    map_get_absent q (inr z) = map_sees (q ∙ ap Ok z)

    pub map_get_bad : {y : Refusal} → r ≡ Err y → got_numbers (Err y) ≡ get_of maps m k
    unfolding got_numbers got_said
    map_get_bad q = map_sees q
