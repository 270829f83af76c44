-- What the right needs of the left, slot by slot.
use Rattle.std.proofs.Common.{ℕ, ◌+◌, ◌*◌, ◌≤◌, ◌<◌, true, List, ◌≡◌, refl, ◌∙◌, add-one, arith, length, get_or, Result, Ok}
use Rattle.model.specs.Slots.{weigh, total}
use Rattle.model.proofs.Cases.{by_bool}
use Rattle.digest.specs.Home.{key_limit}
use Rattle.kinds.specs.Marks.{cell, mark_read}
use Rattle.kinds.specs.declared.Mark.{Mark}
use Rattle.kinds.specs.declared.Mark.TheVariants.{Live}
use Rattle.kinds.specs.Probing.{missed_of}
use Rattle.kinds.proofs.Uniting.{weigh_idle}
use Rattle.byte_slots.specs.Memory.{Spans, part, key_at, fitting}
use Rattle.byte_slots.specs.Marks.{mark_of}
use Rattle.byte_slots.specs.Probing.{path_of, probing}
use Rattle.byte_slots.proofs.Marks.{slot_cell}
use Rattle.byte_slots.proofs.Sizes.{probing_short}
use Rattle.byte_store.proofs.Marks.{mark_live, mark_idle}
use Rattle.byte_map_union.specs.declared.Needed.{Needed}
use Rattle.byte_map_union.specs.Needs.{needed_by, lack_of, slot_needs, table_needs}
use Rattle.answers.specs.declared.Refusal.{Refusal}
use Rattle.kinds.specs.declared.Probed.{Probed}

abbrev nothing : Needed
nothing = record { slots = 0; bytes = 0 }

-- what a slot needs, and that it is little
abbrev pub NeededAt : Spans → Spans → ℕ → Needed → Type 0
NeededAt l r i x = (x ≡ slot_needs l r i) × (x.slots ≤ 1) × (x.bytes ≤ key_limit)

module _ (l r : Spans) (i : ℕ) {m : Result Mark Refusal} (p : m ≡ mark_read (mark_of r i)) where
  -- a slot that is not live needs nothing
  pub slot_needs_none : (m ≡ Ok Live → ⊥) → NeededAt l r i nothing
  unfolding slot_needs
  slot_needs_none h = (rw (slot_cell r (λ j. tt {0}) i, weigh_idle (lack_of l (λ k. 1)) (mark_of r i) (key_at r i) (tt {0}) (mark_idle r i p h), weigh_idle (lack_of l length) (mark_of r i) (key_at r i) (tt {0}) (mark_idle r i p h)), omega arith, omega arith)

  -- a live one by the path of its key
  pub slot_needs_key : {k : List ℕ} {s : Result Probed Refusal} {x : Needed} → m ≡ Ok Live → (k ≡ part r.arena (get_or r.offsets i 0) (get_or r.lengths i 0)) × (length k ≤ key_limit) → fitting l ≡ true → s ≡ probing l k → x ≡ needed_by s (length k) → NeededAt l r i x
  unfolding slot_needs lack_of weigh cell needed_by key_at
  slot_needs_key {k} {s} {x} one (q, b) f e d =
      let y : s ≡ path_of l k = e ∙ probing_short l k f b in
      rw d (rw (slot_cell r (λ j. tt {0}) i, mark_live r i p one, ← q, ← y), by_bool (missed_of s) (λ t. rw t (omega arith)) (λ t. rw t (omega arith)), by_bool (missed_of s) (λ t. rw t (omega arith)) (λ t. rw t (omega arith)))

-- the count's state: the needs of the first i slots
pub record Needing (l r : Spans) (slots bytes i : ℕ) : Type 0 where
  pub within : i ≤ length r.marks
  pub few : slots ≤ i
  pub little : bytes ≤ key_limit * i
  pub slots_are : slots ≡ (table_needs l r i).slots
  pub bytes_are : bytes ≡ (table_needs l r i).bytes

pub need_start : (l r : Spans) → Needing l r 0 0 0
unfolding table_needs total
need_start l r = record { within = omega arith; few = omega arith; little = omega arith; slots_are = refl; bytes_are = refl }

module _ {l r : Spans} {slots bytes i : ℕ} (w : Needing l r slots bytes i) where
  pub need_more : {x : Needed} → i < length r.marks → NeededAt l r i x → Needing l r (slots + x.slots) (bytes + x.bytes) (i + 1)
  unfolding table_needs slot_needs total
  need_more {x} b (e, s, t) = record {
    within = omega arith;
    few = omega (arith, w.few);
    little = omega (arith, w.little);
    slots_are = rw (add-one, e, w.slots_are);
    bytes_are = rw (add-one, e, w.bytes_are);
  }
