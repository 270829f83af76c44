-- What the calls of integer maps and integer sets tell and leave, by what the probing found: one law a call.
use Prim.Native.Nat.{ℕ}
use mathlib.Core.List.{List}
use mathlib.Core.Logic.{◌⊎◌}
use mathlib.Core.Path.{◌≡◌, refl, ◌∙◌, ap}
use lib.ListN.{get_or}
use Rattle.model.specs.Calls.{stored_by, after_insert, removed_by, after_remove}
use Rattle.answers.specs.Numbers.{got_numbers, member_numbers, inserted_numbers, added_numbers, removed_numbers, dropped_numbers}
use Rattle.answers.specs.Said.{got_said, member_said, inserted_said, added_said, removed_said, dropped_said, entered_said}
use Rattle.kinds.specs.Columns.{values, nothing}
use Rattle.kinds.specs.Told.{told}
use Rattle.kinds.specs.Calls.{get_of, remove_of, dropped_of, entry_of}
use Rattle.kinds.proofs.Bridge.{seen_of, spot_of, absent_by}
use Rattle.int_slots.specs.Memory.{IntMemory}
use Rattle.int_slots.specs.Probing.{probing}
use Rattle.int_slots.specs.Seeking.{probing_map}
use Rattle.int_slots.specs.Maps.{maps}
use Rattle.int_slots.specs.Sets.{sets, memory}
use Rattle.int_slots.specs.Kinds.{insert_of, set_insert_of, set_get_of}
use Rattle.int_slots.proofs.Bridge.{get_probing, remove_probing, entry_probing}
use Rattle.int_slots.proofs.Seeking.{get_probed, remove_probed, entry_probed}
use Rattle.std.specs.Prelude.{Result, Ok, Err}
use Rattle.answers.specs.declared.Lookup.TheVariants.{Found, Absent}
use Rattle.answers.specs.declared.Inserted.TheVariants as inserted
use Rattle.answers.specs.declared.Refusal.TheVariants.{NoSlot}
use Rattle.answers.specs.declared.Refusal.{Refusal}
use Rattle.kinds.specs.declared.Probed.{Probed}
use Rattle.kinds.specs.declared.Probed.TheVariants.{Hit, Free, Full}

-- a map's calls
module _ (m : IntMemory values) (k : ℕ) {r : Result Probed Refusal} (p : r ≡ probing_map m k) {x : Result Probed Refusal} (q : r ≡ x) where
  pub get_says : got_said (seen_of (λ i. get_or m.words i 0) x) ≡ get_of maps m k
  unfolding get_of probing_map
  get_says = rw (get_probed values m k, ← q, p)

  pub remove_says : told (removed_said (seen_of (λ i. get_or m.words i 0) x)) (removed_by maps m (seen_of (λ i. get_or m.words i 0) x)) ≡ remove_of maps m k
  unfolding remove_of after_remove probing_map
  remove_says = rw (remove_probed values m k, ← q, p)

  pub entry_says : entered_said (spot_of (λ i. get_or m.words i 0) x) ≡ entry_of maps m k
  unfolding entry_of probing_map
  entry_says = rw (entry_probed values m k, ← q, p)

  pub insert_says : (v : ℕ) → told (inserted_said (spot_of (λ i. get_or m.words i 0) x)) (stored_by maps m k v (spot_of (λ i. get_or m.words i 0) x)) ≡ insert_of m k v
  unfolding insert_of after_insert probing_map
  insert_says v = rw (entry_probed values m k, ← q, p)

-- the same by each of its ends, as the code meets them
module _ (m : IntMemory values) (k : ℕ) {r : Result Probed Refusal} (p : r ≡ probing_map m k) where
  pub get_hit : {y : Probed} {s e : ℕ} → r ≡ Ok y → y ≡ Hit s e → got_numbers (Ok (Found (get_or m.words s 0) s e)) ≡ get_of maps m k
  unfolding got_numbers got_said
  get_hit q h = get_says m k p (q ∙ ap Ok h)

  pub get_gone : {y : Probed} {e : ℕ} → r ≡ Ok y → ((x : ℕ) × (y ≡ Free x e)) ⊎ (y ≡ Full e) → got_numbers (Ok (Absent e)) ≡ get_of maps m k
  unfolding got_numbers got_said
  get_gone q h = rw (absent_by _ h) at (get_says m k p q)

  pub get_refused : {x : Refusal} → r ≡ Err x → got_numbers (Err x) ≡ get_of maps m k
  unfolding got_numbers got_said
  get_refused q = get_says m k p q

  pub remove_gone : {y : Probed} {e : ℕ} → r ≡ Ok y → ((x : ℕ) × (y ≡ Free x e)) ⊎ (y ≡ Full e) → told (removed_numbers (Ok (Absent e))) m ≡ remove_of maps m k
  unfolding removed_numbers removed_said removed_by
  remove_gone q h = rw (absent_by _ h) at (remove_says m k p q)

  pub remove_refused : {x : Refusal} → r ≡ Err x → told (removed_numbers (Err x)) m ≡ remove_of maps m k
  unfolding removed_numbers removed_said removed_by
  remove_refused q = remove_says m k p q

  pub remove_hit : {y : Probed} {s e : ℕ} → r ≡ Ok y → y ≡ Hit s e → told (removed_numbers (Ok (Found (get_or m.words s 0) s e))) (maps.free m s) ≡ remove_of maps m k
  unfolding removed_numbers removed_said removed_by
  remove_hit q h = remove_says m k p (q ∙ ap Ok h)

  module _ (v : ℕ) where
    pub insert_hit : {y : Probed} {s e : ℕ} → r ≡ Ok y → y ≡ Hit s e → told (inserted_numbers (Ok (inserted.Replaced (get_or m.words s 0) s e))) (maps.over m s v) ≡ insert_of m k v
    unfolding inserted_numbers inserted_said stored_by
    insert_hit q h = insert_says m k p (q ∙ ap Ok h) v

    pub insert_free : {y : Probed} {s e : ℕ} → r ≡ Ok y → y ≡ Free s e → told (inserted_numbers (Ok (inserted.Fresh s e))) (maps.fill m s k v) ≡ insert_of m k v
    unfolding inserted_numbers inserted_said stored_by
    insert_free q h = insert_says m k p (q ∙ ap Ok h) v

    pub insert_full : {y : Probed} → r ≡ Ok y → ((e : ℕ) × (y ≡ Full e)) → told (inserted_numbers (Err NoSlot)) m ≡ insert_of m k v
    unfolding inserted_numbers inserted_said stored_by
    insert_full q h = insert_says m k p (q ∙ ap Ok h.1) v

    pub insert_refused : {x : Refusal} → r ≡ Err x → told (inserted_numbers (Err x)) m ≡ insert_of m k v
    unfolding inserted_numbers inserted_said stored_by
    insert_refused q = insert_says m k p q v

-- a set's calls
module _ (marks keys : List ℕ) (k : ℕ) {r : Result Probed Refusal} (p : r ≡ probing marks keys k) {x : Result Probed Refusal} (q : r ≡ x) where
  pub set_get_says : member_said k (seen_of {W = Unit {0}} (λ i. tt) x) ≡ set_get_of (memory marks keys) k
  unfolding set_get_of
  set_get_says = rw (get_probing nothing (memory marks keys) k p q refl)

  pub set_remove_says : told (dropped_said (seen_of {W = Unit {0}} (λ i. tt) x)) (removed_by sets (memory marks keys) (seen_of (λ i. tt) x)) ≡ dropped_of sets (memory marks keys) k
  unfolding dropped_of after_remove
  set_remove_says = rw (remove_probing nothing (memory marks keys) k p q refl)

  pub set_insert_says : told (added_said (spot_of {W = Unit {0}} (λ i. tt) x)) (stored_by sets (memory marks keys) k tt (spot_of (λ i. tt) x)) ≡ set_insert_of (memory marks keys) k
  unfolding set_insert_of after_insert
  set_insert_says = rw (entry_probing nothing (memory marks keys) k p q refl)

module _ (marks keys : List ℕ) (k : ℕ) {r : Result Probed Refusal} (p : r ≡ probing marks keys k) where
  pub set_get_hit : {y : Probed} {s e : ℕ} → r ≡ Ok y → y ≡ Hit s e → member_numbers (Ok (Found k s e)) ≡ set_get_of (memory marks keys) k
  unfolding member_numbers member_said
  set_get_hit q h = set_get_says marks keys k p (q ∙ ap Ok h)

  pub set_get_gone : {y : Probed} {e : ℕ} → r ≡ Ok y → ((x : ℕ) × (y ≡ Free x e)) ⊎ (y ≡ Full e) → member_numbers (Ok (Absent e)) ≡ set_get_of (memory marks keys) k
  unfolding member_numbers member_said
  set_get_gone q h = rw (absent_by _ h) at (set_get_says marks keys k p q)

  pub set_get_refused : {x : Refusal} → r ≡ Err x → member_numbers (Err x) ≡ set_get_of (memory marks keys) k
  unfolding member_numbers member_said
  set_get_refused q = set_get_says marks keys k p q

  pub set_remove_gone : {y : Probed} {e : ℕ} → r ≡ Ok y → ((x : ℕ) × (y ≡ Free x e)) ⊎ (y ≡ Full e) → told (dropped_numbers (Ok (Absent e))) (memory marks keys) ≡ dropped_of sets (memory marks keys) k
  unfolding dropped_numbers dropped_said removed_by
  set_remove_gone q h = rw (absent_by _ h) at (set_remove_says marks keys k p q)

  pub set_remove_refused : {x : Refusal} → r ≡ Err x → told (dropped_numbers (Err x)) (memory marks keys) ≡ dropped_of sets (memory marks keys) k
  unfolding dropped_numbers dropped_said removed_by
  set_remove_refused q = set_remove_says marks keys k p q

  pub set_remove_hit : {y : Probed} {s e : ℕ} → r ≡ Ok y → y ≡ Hit s e → told (dropped_numbers (Ok (Found tt s e))) (sets.free (memory marks keys) s) ≡ dropped_of sets (memory marks keys) k
  unfolding dropped_numbers dropped_said removed_by
  set_remove_hit q h = set_remove_says marks keys k p (q ∙ ap Ok h)

  pub set_insert_hit : {y : Probed} {s e : ℕ} → r ≡ Ok y → y ≡ Hit s e → told (added_numbers (Ok (inserted.Replaced tt s e))) (memory marks keys) ≡ set_insert_of (memory marks keys) k
  unfolding added_numbers added_said stored_by
  set_insert_hit q h = set_insert_says marks keys k p (q ∙ ap Ok h)

  pub set_insert_free : {y : Probed} {s e : ℕ} → r ≡ Ok y → y ≡ Free s e → told (added_numbers (Ok (inserted.Fresh s e))) (sets.fill (memory marks keys) s k tt) ≡ set_insert_of (memory marks keys) k
  unfolding added_numbers added_said stored_by
  set_insert_free q h = set_insert_says marks keys k p (q ∙ ap Ok h)

  pub set_insert_full : {y : Probed} → r ≡ Ok y → ((e : ℕ) × (y ≡ Full e)) → told (added_numbers (Err NoSlot)) (memory marks keys) ≡ set_insert_of (memory marks keys) k
  unfolding added_numbers added_said stored_by
  set_insert_full q h = set_insert_says marks keys k p (q ∙ ap Ok h.1)

  pub set_insert_refused : {x : Refusal} → r ≡ Err x → told (added_numbers (Err x)) (memory marks keys) ≡ set_insert_of (memory marks keys) k
  unfolding added_numbers added_said stored_by
  set_insert_refused q = set_insert_says marks keys k p q
