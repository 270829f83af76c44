-- What the acts of the storing calls leave is what their definitions say.
use Rattle.std.proofs.Common.{ℕ, Bool, true, List, ◌≡◌, sym, ◌∙◌, length, Ok, Result}
use Rattle.model.specs.Calls.{stored_by, removed_by}
use Rattle.answers.specs.Numbers.{outcome_numbers, joined_numbers, dropped_numbers}
use Rattle.answers.specs.Said.{joined_said, dropped_said}
use Rattle.arrays.specs.Whole.{copied}
use Rattle.kinds.specs.Calls.{make_of, copy_of, dropped_of}
use Rattle.kinds.proofs.Sizing.{make_sized}
use Rattle.kinds.specs.Told.{told}
use Rattle.tables.specs.Reading.{lent_of}
use Rattle.tables.proofs.Calls.{lent_ok}
use Rattle.tables.proofs.Lent.{copy_lent}
use Rattle.byte_slots.specs.Memory.{Spans, spans_of, fitting, filled, emptied, wiped}
use Rattle.byte_slots.specs.Kinds.{SetMemory, sets, set_insert_of, as_set}
use Rattle.byte_slots.specs.Planning.{planning_insert, planning_remove}
use Rattle.byte_slots.proofs.Calls.{set_insert_says, set_remove_says}
use Rattle.byte_slots.proofs.Sets.{fit}
use Rattle.byte_slots.proofs.Views.{lent_fits}
use Rattle.byte_arena.proofs.Copies.{spans_copied}
use Rattle.byte_arena.proofs.Plans.{plan_fillable}
use Rattle.answers.specs.declared.Stored.TheVariants as stored
use Rattle.answers.specs.declared.Lookup.TheVariants.{Found}
use Rattle.answers.specs.declared.Refusal.{Refusal}
use Rattle.byte_slots.specs.declared.InsertPlan.{InsertPlan}
use Rattle.byte_slots.specs.declared.InsertPlan.TheVariants.{Hit, Free}
use Rattle.byte_slots.specs.declared.RemovePlan.{RemovePlan}
use Rattle.byte_slots.specs.declared.RemovePlan.TheVariants.{Hit}

module _ (s : Spans) where
  -- make and clear, by the test of the sizes
  pub make_done : {b : Bool} → b ≡ fitting s → b ≡ true → {t : Spans} → t ≡ wiped s → told (outcome_numbers (Ok tt)) (as_set t) ≡ make_of sets (as_set s)
  make_done p q x = make_sized sets (as_set s) (fit s p q) (rw x)

  -- copy from another set
  pub copy_done : (t : Spans) {x y : Result SetMemory Refusal} {n o : SetMemory} → x ≡ lent_of sets (as_set s) → x ≡ Ok n → y ≡ lent_of sets (as_set t) → y ≡ Ok o → {z : ℕ} → z ≡ length o.spans.marks → length s.marks ≡ z → length s.arena ≡ length t.arena → {a b c d : List ℕ} → a ≡ copied s.marks t.marks → b ≡ copied s.offsets t.offsets → c ≡ copied s.lengths t.lengths → d ≡ copied s.arena t.arena → told (outcome_numbers (Ok tt)) (as_set (spans_of a b c d)) ≡ copy_of sets (as_set s) (as_set t)
  copy_done t p q r h w y f a b c d = let e : length s.marks ≡ length t.marks = rw (w, (lent_ok sets (as_set t) r h).1) at y in copy_lent sets (as_set s) p (as_set t) q r h w y f (rw (spans_copied s t (lent_fits (as_set s) p q) (lent_fits (as_set t) r h) e f a b c d))

  -- a fresh key, and a removed one
  pub insert_fresh : (k : List ℕ) {r : Result InsertPlan Refusal} → r ≡ planning_insert s k → {i e u : ℕ} {t : Spans} → r ≡ Ok (Free i e u) → t ≡ filled s i k → told (joined_numbers (Ok (stored.Fresh i u e))) (as_set t) ≡ set_insert_of (as_set s) k
  unfolding joined_numbers joined_said stored_by
  insert_fresh k p q x = rw (x, (plan_fillable s k p q).used) (set_insert_says s k p q)

  pub remove_hit : (k : List ℕ) {r : Result RemovePlan Refusal} → r ≡ planning_remove s k → {i e u : ℕ} {t : Spans} → r ≡ Ok (Hit i e u) → t ≡ emptied s i → told (dropped_numbers (Ok (Found tt i e))) (as_set t) ≡ dropped_of sets (as_set s) k
  unfolding dropped_numbers dropped_said removed_by
  remove_hit k p q x = rw x (set_remove_says s k p q)
