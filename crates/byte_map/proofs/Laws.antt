-- What the acts of the storing calls leave is what their definitions say.
use Rattle.std.proofs.Common.{ℕ, Bool, true, List, ◌≡◌, sym, ◌∙◌, length, get_or, set, replicate, Ok, Result}
use Rattle.model.specs.Calls.{stored_by, removed_by}
use Rattle.answers.specs.Numbers.{outcome_numbers, stored_numbers, removed_numbers}
use Rattle.answers.specs.Said.{stored_said, removed_said}
use Rattle.arrays.specs.Whole.{copied}
use Rattle.arrays.proofs.Below.{copied_whole}
use Rattle.kinds.specs.Columns.{values}
use Rattle.kinds.specs.Told.{told}
use Rattle.kinds.specs.Calls.{sized_of, make_of, copy_of, remove_of}
use Rattle.kinds.proofs.Sizing.{sized_as, make_sized}
use Rattle.tables.specs.Reading.{lent_of}
use Rattle.tables.proofs.Calls.{lent_ok}
use Rattle.tables.proofs.Lent.{copy_lent}
use Rattle.byte_slots.specs.Memory.{Spans, ByteMemory, filled, emptied, wiped}
use Rattle.byte_slots.specs.Kinds.{MapMemory, maps, map_memory, insert_of}
use Rattle.byte_slots.specs.Planning.{planning_map_insert, planning_map_remove}
use Rattle.byte_slots.proofs.Calls.{insert_says, remove_says}
use Rattle.byte_slots.proofs.Views.{lent_long}
use Rattle.byte_arena.proofs.Copies.{spans_copied}
use Rattle.byte_arena.proofs.Plans.{map_plan_insert_free}
use Rattle.answers.specs.declared.Stored.TheVariants as stored
use Rattle.answers.specs.declared.Lookup.TheVariants.{Found}
use Rattle.answers.specs.declared.Refusal.{Refusal}
use Rattle.byte_slots.specs.declared.InsertPlan.{InsertPlan}
use Rattle.byte_slots.specs.declared.InsertPlan.TheVariants.{Hit, Free}
use Rattle.byte_slots.specs.declared.RemovePlan.{RemovePlan}
use Rattle.byte_slots.specs.declared.RemovePlan.TheVariants.{Hit}

module _ (m : ByteMemory values) where
  -- make and clear, by the test of the sizes
  pub make_done : {b : Bool} → b ≡ sized_of maps m → b ≡ true → {s : Spans} {ws : List ℕ} → s ≡ wiped m.spans → ws ≡ replicate (length m.words) 0 → told (outcome_numbers (Ok tt)) (record { spans = s; words = ws }) ≡ make_of maps m
  make_done p q x y = make_sized maps m (sized_as maps m p q) (rw (x, y))

  -- copy onto this map from another
  pub copy_done : (n : MapMemory) {g h : Result MapMemory Refusal} {o u : MapMemory} → g ≡ lent_of maps m → g ≡ Ok o → h ≡ lent_of maps n → h ≡ Ok u → {i : ℕ} → i ≡ length u.spans.marks → length m.spans.marks ≡ i → length m.spans.arena ≡ length n.spans.arena → {x y z v w : List ℕ} → x ≡ copied m.spans.marks n.spans.marks → y ≡ copied m.spans.offsets n.spans.offsets → z ≡ copied m.spans.lengths n.spans.lengths → v ≡ copied m.words n.words → w ≡ copied m.spans.arena n.spans.arena → told (outcome_numbers (Ok tt)) (map_memory x y z v w) ≡ copy_of maps m n
  copy_done n p q r s j t f x y z v w =
      let e : length m.spans.marks ≡ length n.spans.marks = rw (j, (lent_ok maps n r s).1) at t in
      let (a, b) = lent_long m p q in
      let (c, d) = lent_long n r s in
      copy_lent maps m p n q r s j t f (rw (spans_copied m.spans n.spans a c e f x y z w, copied_whole m.words n.words (b ∙ e ∙ sym d) v))

  -- a fresh key, and a removed one
  pub insert_fresh : (k : List ℕ) (v : ℕ) {r : Result InsertPlan Refusal} → r ≡ planning_map_insert m k → {i e u : ℕ} {s : Spans} → r ≡ Ok (Free i e u) → s ≡ filled m.spans i k → told (stored_numbers (Ok (stored.Fresh i u e))) (record { spans = s; words = set m.words i v }) ≡ insert_of m k v
  unfolding stored_numbers stored_said stored_by
  insert_fresh k v p q x = rw (x, (map_plan_insert_free m k p q).0.used) (insert_says m k p q v)

  pub remove_hit : (k : List ℕ) {r : Result RemovePlan Refusal} → r ≡ planning_map_remove m k → {i e u : ℕ} {s : Spans} → r ≡ Ok (Hit i e u) → s ≡ emptied m.spans i → told (removed_numbers (Ok (Found (get_or m.words i 0) i e))) (record { spans = s; words = set m.words i 0 }) ≡ remove_of maps m k
  unfolding removed_numbers removed_said removed_by
  remove_hit k p q x = rw x (remove_says m k p q)
