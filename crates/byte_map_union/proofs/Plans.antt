-- The union's tests over the spans are those of its definition.
use Rattle.std.proofs.Common.{ℕ, Bool, true, false, cond, List, ◌≡◌, refl, sym, ◌∙◌, length, Err}
use mathlib.Core.Path.{fun_ext}
use Rattle.model.specs.Slots.{total, count}
use Rattle.model.specs.Store.{live_count}
use Rattle.model.specs.Calls.{Or, need, pass, give, lacking, needs, union}
use Rattle.answers.specs.declared.Refusal.TheVariants.{Sizes}
use Rattle.kinds.specs.Calls.{sized_of}
use Rattle.kinds.specs.Columns.{values}
use Rattle.kinds.proofs.Alike.{total_alike}
use Rattle.kinds.specs.Probing.{missed_of}
use Rattle.byte_slots.specs.Memory.{Spans, ByteMemory, key_at, slots_of, bare}
use Rattle.byte_slots.specs.Marks.{mark_of}
use Rattle.byte_slots.specs.Kinds.{maps}
use Rattle.byte_slots.specs.Probing.{path_of}
use Rattle.byte_slots.proofs.Bridge.{any_damage_is, used_is, lacking_is}
use Rattle.byte_slots.proofs.Marks.{slots_cells}
use Rattle.byte_map_union.specs.Needs.{lack_of, table_needs, room_of, planned, plan_of}

-- sums over the slots are the same without the values
total_bare : (g : List ℕ → ℕ) (s : Spans) (read : ℕ → ℕ) (n : ℕ) → total g (slots_of s read) n ≡ total g (bare s) n
total_bare g s read n = rw (slots_cells s read, slots_cells s (λ i. tt {0})) (total_alike (mark_of s) (key_at s) read (λ i. tt) g n)

-- what the union needs, over the spans
needs_are : (g : List ℕ → ℕ) (l r : ByteMemory values) → needs maps g l r ≡ total (lack_of l.spans g) (bare r.spans) (length r.spans.marks)
unfolding needs lack_of
needs_are g l r =
    let e : ◌≡◌ {A = List ℕ → ℕ} (λ k. cond (lacking maps l k) (g k) 0) (λ k. cond (missed_of (path_of l.spans k)) (g k) 0) = fun_ext (λ k. rw (lacking_is values l k)) in
    rw e (total_bare (λ k. cond (missed_of (path_of l.spans k)) (g k) 0) r.spans (values.read r.words) (length r.spans.marks))

live_is : (m : ByteMemory values) → live_count maps m ≡ count (bare m.spans) (length m.spans.marks)
unfolding live_count
live_is m = total_bare (λ k. 1) m.spans (values.read m.words) (length m.spans.marks)

-- an answer's value behind a test
give_need : {A B : Type 0} (v : B) (b : Bool) (n : ℕ) (a : Or A) → give v (need b n a) ≡ need b n (give v a)
unfolding give need
give_need v true n a = refl
give_need v false n a = refl

module _ (l r : ByteMemory values) {b : Bool} (p : b ≡ sized_of maps l) where
  -- sizes
  pub left_unfit : b ≡ false → planned (Err Sizes) ≡ plan_of l r
  unfolding planned plan_of union need pass give sized_of
  left_unfit q = rw (sym p ∙ q)

  module _ (q : b ≡ true) {c : Bool} (s : c ≡ sized_of maps r) where
    pub right_unfit : c ≡ false → planned (Err Sizes) ≡ plan_of l r
    unfolding planned plan_of union need pass give sized_of
    right_unfit t = rw (sym p ∙ q, sym s ∙ t)

    -- the rest of the tests
    pub room_plan : {o : Or ℕ} → c ≡ true → o ≡ room_of l.spans r.spans → o ≡ plan_of l r
    unfolding plan_of room_of table_needs union need pass give sized_of
    room_plan t e = e ∙ (rw (sym p ∙ q, sym s ∙ t, any_damage_is values l, any_damage_is values r, needs_are (λ k. 1) l r, needs_are length l r, live_is l, used_is values l, give_need, give_need, give_need, give_need))
