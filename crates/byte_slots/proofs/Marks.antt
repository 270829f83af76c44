-- The mark of a slot as calls see it, and the slots by it.
use Rattle.std.proofs.Common.{ℕ, zero, suc, ◌+◌, ◌-◌, ◌≤◌, ◌<◌, Bool, true, false, List, ◌⊎◌, inl, inr, ◌≡◌, refl, sym, ◌∙◌, arith, le-leb, leb-true, leb, length, get_or, take, drop, length-drop, length-take-le}
use mathlib.Core.Path.{fun_ext}
use borrow.Author.Tests.{lt-leb}
use lib.ListN.{get_or-eq_default}
use Rattle.lists.proofs.Parts.{length_part}
use Rattle.digest.specs.Home.{key_limit}
use Rattle.model.proofs.Cases.{clash}
use Rattle.kinds.specs.declared.Mark.{Mark}
use Rattle.kinds.specs.declared.Mark.TheVariants.{Never, Live, Freed}
use Rattle.kinds.specs.Marks.{cell, cells_of}
use Rattle.byte_slots.specs.Memory.{Spans, part, end_at, key_at, spanned, slots_of}
use Rattle.byte_slots.specs.Marks.{shown, mark_of}

shown_other : (b : Bool) (x : ℕ) → (x ≡ 1 → ⊥) → x ≡ shown b x
unfolding shown
shown_other b zero k = refl
shown_other b (suc zero) k = absurd (k refl)
shown_other b (suc (suc x)) k = refl

module _ (s : Spans) (i : ℕ) {m : ℕ} (p : m ≡ get_or s.marks i 0) where
  -- a live span past the arena
  pub mark_past : {n : ℕ} → m ≡ 1 → n ≡ get_or s.lengths i 0 → length s.arena < get_or s.offsets i 0 + n → 3 ≡ mark_of s i
  unfolding mark_of end_at shown
  mark_past {n} q d l = let z : get_or s.marks i 0 ≡ 1 = sym p ∙ q in rw (z, ← d, lt-leb (get_or s.offsets i 0 + n) (length s.arena) l)

  -- a live span in it
  pub mark_within : {n : ℕ} → m ≡ 1 → n ≡ get_or s.lengths i 0 → get_or s.offsets i 0 + n ≤ length s.arena → 1 ≡ mark_of s i
  unfolding mark_of end_at shown
  mark_within {n} q d l = let z : get_or s.marks i 0 ≡ 1 = sym p ∙ q in rw (z, ← d, le-leb (get_or s.offsets i 0 + n) (length s.arena) l)

  -- any other mark is shown as it is
  pub mark_other : (m ≡ 1 → ⊥) → m ≡ mark_of s i
  unfolding mark_of
  mark_other h = p ∙ shown_other (leb (end_at s i) (length s.arena)) (get_or s.marks i 0) (λ e. h (p ∙ e))

-- beyond the marks every mark is 0
pub marks_beyond : (s : Spans) (j : ℕ) → length s.marks ≤ j → mark_of s j ≡ 0
unfolding mark_of shown
marks_beyond s j l = rw (get_or-eq_default s.marks 0 l)

-- a mark that is no damage is shown as it is
shown_raw : (b : Bool) (m : ℕ) → shown b m ≤ 2 → shown b m ≡ m
unfolding shown
shown_raw b zero l = refl
shown_raw true (suc zero) l = refl
shown_raw false (suc zero) l = let z : ⊥ = omega arith in absurd z
shown_raw b (suc (suc m)) l = refl

pub mark_raw : (s : Spans) (i : ℕ) → mark_of s i ≤ 2 → mark_of s i ≡ get_or s.marks i 0
unfolding mark_of
mark_raw s i l = shown_raw (leb (end_at s i) (length s.arena)) (get_or s.marks i 0) l

-- the slots are those of the marks as calls see them
module _ {W : Type 0} where
  spanned_cell : (b : Bool) (m : ℕ) (k : List ℕ) (v : W) → spanned b m k v ≡ cell (shown b m) k v
  unfolding spanned shown cell
  spanned_cell b zero k v = refl
  spanned_cell true (suc zero) k v = refl
  spanned_cell false (suc zero) k v = refl
  spanned_cell b (suc (suc zero)) k v = refl
  spanned_cell b (suc (suc (suc m))) k v = refl

  pub slot_cell : (s : Spans) (read : ℕ → W) (i : ℕ) → slots_of s read i ≡ cell (mark_of s i) (key_at s i) (read i)
  unfolding slots_of mark_of
  slot_cell s read i = spanned_cell (leb (end_at s i) (length s.arena)) (get_or s.marks i 0) (key_at s i) (read i)

  pub slots_cells : (s : Spans) (read : ℕ → W) → slots_of s read ≡ cells_of (mark_of s) (key_at s) read
  slots_cells s read = fun_ext (λ i. slot_cell s read i)

-- a live mark is shown only where its span is in the arena
shown_live : (b : Bool) (m : ℕ) → shown b m ≡ 1 → b ≡ true
unfolding shown
shown_live true m e = refl
shown_live false zero e = absurd (omega arith)
shown_live false (suc zero) e = absurd (omega arith)
shown_live false (suc (suc m)) e = absurd (omega arith)

pub live_within : (s : Spans) (i : ℕ) → mark_of s i ≡ 1 → end_at s i ≤ length s.arena
unfolding mark_of
live_within s i e = leb-true (end_at s i) (length s.arena) (shown_live (leb (end_at s i) (length s.arena)) (get_or s.marks i 0) e)

-- a mark of a slot that is free is no live one
pub not_live : {k : Mark} → (k ≡ Never) ⊎ (k ≡ Freed) → k ≡ Live → ⊥
not_live (inl e) z = clash cc
not_live (inr e) z = clash cc

-- by its words
pub span_within : (s : Spans) (i : ℕ) {m : ℕ} → m ≡ mark_of s i → m ≡ 1 → get_or s.offsets i 0 + get_or s.lengths i 0 ≤ length s.arena
unfolding end_at
span_within s i p one = live_within s i (sym p ∙ one)

-- a part by its words, as code takes it
pub span_part : (arena : List ℕ) {o n a l : ℕ} → o ≡ a → (n ≡ l) × (n ≤ key_limit) → a + l ≤ length arena → (take (o + n - o) (drop o arena) ≡ part arena a l) × (length (take (o + n - o) (drop o arena)) ≤ key_limit)
unfolding part
span_part arena {o} {n} {a} {l} p (q, b) h = let z : o + n - o ≡ l = omega arith in rw (z, p) (refl, omega (arith, length_part arena a l h))

-- and so its key has as many bytes as its length says
pub live_key : (s : Spans) (i : ℕ) → mark_of s i ≡ 1 → length (key_at s i) ≡ get_or s.lengths i 0
unfolding key_at part end_at
live_key s i e = length-take-le (get_or s.lengths i 0) (drop (get_or s.offsets i 0) s.arena) (simp length-drop (omega (arith, live_within s i e)))
