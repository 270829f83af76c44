-- What the right needs of the left, slot by slot.
use Prim.Native.Nat.{ℕ, zero, suc, ◌+◌, ◌≤◌, ◌<◌}
use mathlib.Core.Bool.{true, cond}
use mathlib.Core.List.{List}
use mathlib.Core.Path.{◌≡◌, refl, sym, ◌∙◌}
use native.Mathlib.Numerals.{add-one}
use native.Mathlib.Omega.{arith}
use lib.ListN.{length, get_or}
use Rattle.model.specs.Slots.{weigh, total}
use Rattle.model.specs.Calls.{lacking}
use Rattle.model.proofs.Cases.{by_bool}
use Rattle.answers.specs.declared.Refusal.{Refusal}
use Rattle.kinds.specs.Columns.{values}
use Rattle.kinds.specs.Marks.{cell}
use Rattle.kinds.specs.Calls.{sized_of}
use Rattle.int_slots.specs.Memory.{IntMemory, memory}
use Rattle.int_slots.specs.Seeking.{probing_map}
use Rattle.int_slots.specs.Maps.{maps}
use Rattle.int_map_union.specs.Calls.{slot_needs, table_needs}
use Rattle.int_slots.proofs.Seeking.{path_probed}
use Rattle.kinds.specs.Probing.{missed_of}
use Rattle.kinds.proofs.Uniting.{lacking_probed, weigh_idle}
use Rattle.std.specs.Prelude.{Result, Ok, Err}
use Rattle.kinds.specs.declared.Probed.{Probed}
use Rattle.kinds.specs.declared.Probed.TheVariants.{Hit, Free, Full}

-- a slot that is not live needs nothing
pub slot_needs_idle : (l : IntMemory values) (mark key : ℕ) → (mark ≡ 1 → ⊥) → 0 ≡ slot_needs l mark key
unfolding slot_needs
slot_needs_idle l mark key h = sym (weigh_idle (λ k. cond (lacking maps l k) 1 0) mark key (tt {0}) h)

-- a live one by what the probing of its key found in the left
module _ (marks keys vs : List ℕ) (mark k : ℕ) {r : Result Probed Refusal} (f : sized_of maps (memory marks keys vs) ≡ true) (one : mark ≡ 1) (p : r ≡ probing_map (memory marks keys vs) k) where
  slot_needs_live : slot_needs (memory marks keys vs) mark k ≡ cond (missed_of r) 1 0
  unfolding slot_needs cell weigh sized_of probing_map
  slot_needs_live = rw (one, lacking_probed maps (memory marks keys vs) k (p ∙ path_probed values (memory marks keys vs) k f))

  pub slot_needs_hit : {s e : ℕ} → r ≡ Ok (Hit s e) → 0 ≡ slot_needs (memory marks keys vs) mark k
  slot_needs_hit q = rw (slot_needs_live, q)

  pub slot_needs_free : {s e : ℕ} → r ≡ Ok (Free s e) → 1 ≡ slot_needs (memory marks keys vs) mark k
  slot_needs_free q = rw (slot_needs_live, q)

  pub slot_needs_full : {e : ℕ} → r ≡ Ok (Full e) → 1 ≡ slot_needs (memory marks keys vs) mark k
  slot_needs_full q = rw (slot_needs_live, q)

  pub slot_needs_refused : {x : Refusal} → r ≡ Err x → 1 ≡ slot_needs (memory marks keys vs) mark k
  slot_needs_refused q = rw (slot_needs_live, q)

-- a slot needs one at most
pub slot_needs_low : (l : IntMemory values) (mark key : ℕ) {x : ℕ} → x ≡ slot_needs l mark key → x ≤ 1
unfolding slot_needs cell weigh
slot_needs_low l mark key e = omega (arith, e, low mark)
  where
    low : (mark : ℕ) → slot_needs l mark key ≤ 1
    low zero = omega arith
    low (suc zero) = by_bool (lacking maps l key) (λ t. rw t (omega arith)) (λ t. rw t (omega arith))
    low (suc (suc zero)) = omega arith
    low (suc (suc (suc n))) = omega arith

weigh_cell : (g : ℕ → ℕ) (a v : ℕ) (mark : ℕ) → weigh g (cell mark a v) ≡ weigh g (cell mark a (tt {0}))
unfolding weigh cell
weigh_cell g a v zero = refl
weigh_cell g a v (suc zero) = refl
weigh_cell g a v (suc (suc zero)) = refl
weigh_cell g a v (suc (suc (suc n))) = refl

-- the count's state: the needs of the first i slots
pub record Needing (l r : IntMemory values) (sum i : ℕ) : Type 0 where
  pub within : i ≤ length r.marks
  pub low : sum ≤ i
  pub is : sum ≡ table_needs l r i

pub need_start : (l r : IntMemory values) → Needing l r 0 0
unfolding table_needs total
need_start l r = record { within = omega arith; low = omega arith; is = refl }

module _ {l r : IntMemory values} {sum i : ℕ} (w : Needing l r sum i) where
  pub need_more : {x : ℕ} → i < length r.marks → x ≡ slot_needs l (get_or r.marks i 0) (get_or r.keys i 0) → Needing l r (sum + x) (i + 1)
  unfolding table_needs slot_needs total
  need_more {x} b e = record {
    within = omega arith;
    low = omega (arith, slot_needs_low l (get_or r.marks i 0) (get_or r.keys i 0) e);
    is = rw (add-one, weigh_cell (λ k. cond (lacking maps l k) 1 0) (get_or r.keys i 0) (get_or r.words i 0) (get_or r.marks i 0), ← e, w.is);
  }

  pub need_end : length r.marks ≤ i → sum ≡ table_needs l r (length r.marks)
  need_end b = let e : length r.marks ≡ i = omega arith in rw e w.is
