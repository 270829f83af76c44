-- What the calls of byte maps and byte sets tell and leave, by what the probing or the plan found: one law a call.
use Rattle.std.proofs.Common.{ℕ, List, ◌≡◌, refl, get_or, Result}
use Rattle.model.specs.Calls.{stored_by, after_insert, removed_by, after_remove}
use Rattle.answers.specs.Said.{got_said, spanned_said, stored_said, joined_said, removed_said, dropped_said, entered_said}
use Rattle.kinds.specs.Columns.{values, nothing}
use Rattle.kinds.specs.Told.{told}
use Rattle.kinds.specs.Calls.{get_of, remove_of, dropped_of, entry_of}
use Rattle.kinds.proofs.Bridge.{seen_of}
use Rattle.byte_slots.specs.Memory.{Spans, ByteMemory, used_of, offset_of, length_of}
use Rattle.byte_slots.specs.Kinds.{maps, sets, insert_of, set_insert_of, set_get_of, as_set}
use Rattle.byte_slots.specs.Planning.{planning_insert, planning_map_insert, planning_remove, planning_map_remove}
use Rattle.byte_slots.specs.Probing.{probing}
use Rattle.byte_slots.specs.Seeking.{probing_map}
use Rattle.byte_slots.proofs.Bridge.{spot_of, lost_of, get_probing, remove_planning, entry_planning}
use Rattle.byte_slots.proofs.Planning.{entry_planned, remove_planned}
use Rattle.byte_slots.proofs.Seeking.{get_probed}
use Rattle.answers.specs.declared.Refusal.{Refusal}
use Rattle.kinds.specs.declared.Probed.{Probed}
use Rattle.byte_slots.specs.declared.InsertPlan.{InsertPlan}
use Rattle.byte_slots.specs.declared.RemovePlan.{RemovePlan}

-- a map's calls
module _ (m : ByteMemory values) (k : List ℕ) where
  pub get_says : {r : Result Probed Refusal} → r ≡ probing_map m k → {x : Result Probed Refusal} → r ≡ x → got_said (seen_of (λ i. get_or m.words i 0) x) ≡ get_of maps m k
  unfolding get_of
  get_says p q = rw (get_probed m k, ← p, q)

  pub remove_says : {r : Result RemovePlan Refusal} → r ≡ planning_map_remove m k → {x : Result RemovePlan Refusal} → r ≡ x → told (removed_said (lost_of (λ i. get_or m.words i 0) x)) (removed_by maps m (lost_of (λ i. get_or m.words i 0) x)) ≡ remove_of maps m k
  unfolding remove_of after_remove
  remove_says p q = rw (remove_planned m k, ← p, q)

  module _ {r : Result InsertPlan Refusal} (p : r ≡ planning_map_insert m k) {x : Result InsertPlan Refusal} (q : r ≡ x) where
    pub entry_says : entered_said (spot_of (λ i. get_or m.words i 0) x) ≡ entry_of maps m k
    unfolding entry_of
    entry_says = rw (entry_planned m k, ← p, q)

    pub insert_says : (v : ℕ) → told (stored_said (used_of m.spans) (spot_of (λ i. get_or m.words i 0) x)) (stored_by maps m k v (spot_of (λ i. get_or m.words i 0) x)) ≡ insert_of m k v
    unfolding insert_of after_insert
    insert_says v = rw (entry_planned m k, ← p, q)

-- a set's calls
module _ (s : Spans) (k : List ℕ) where
  module _ {r : Result Probed Refusal} (p : r ≡ probing s k) {x : Result Probed Refusal} (q : r ≡ x) where
    pub set_get_says : spanned_said (offset_of s) (length_of s) (seen_of {W = Unit {0}} (λ i. tt) x) ≡ set_get_of (as_set s) k
    unfolding set_get_of
    set_get_says = rw (get_probing nothing (as_set s) k refl, ← p, q)

  pub set_remove_says : {r : Result RemovePlan Refusal} → r ≡ planning_remove s k → {x : Result RemovePlan Refusal} → r ≡ x → told (dropped_said (lost_of {W = Unit {0}} (λ i. tt) x)) (removed_by sets (as_set s) (lost_of (λ i. tt) x)) ≡ dropped_of sets (as_set s) k
  unfolding dropped_of after_remove
  set_remove_says p q = rw (remove_planning nothing (as_set s) k refl, ← p, q)

  pub set_insert_says : {r : Result InsertPlan Refusal} → r ≡ planning_insert s k → {x : Result InsertPlan Refusal} → r ≡ x → told (joined_said (used_of s) (spot_of {W = Unit {0}} (λ i. tt) x)) (stored_by sets (as_set s) k tt (spot_of (λ i. tt) x)) ≡ set_insert_of (as_set s) k
  unfolding set_insert_of after_insert
  set_insert_says p q = rw (entry_planning nothing (as_set s) k refl, ← p, q)
