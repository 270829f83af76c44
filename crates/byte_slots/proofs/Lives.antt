-- The live slots counted by their marks, where none is damaged.
use Rattle.std.proofs.Common.{ℕ, zero, suc, ◌+◌, ◌≤◌, true, false, List, ◌≡◌, refl, add-one, arith, length, get_or}
use Rattle.model.specs.Slots.{is_damaged, total, count, any_damaged}
use Rattle.model.proofs.Cases.{by_bool, by_lt, clash}
use Rattle.kinds.specs.Marks.{counted}
use Rattle.kinds.proofs.Scanning.{cell_bad, counted_low, counted_weighs}
use Rattle.byte_slots.specs.Memory.{Spans, key_at, bare}
use Rattle.byte_slots.specs.Marks.{mark_of}
use Rattle.byte_slots.specs.Scanning.{live_marks}
use Rattle.byte_slots.proofs.Marks.{mark_raw, slot_cell}

-- a slot that is not damaged shows its mark
whole_mark : (s : Spans) (i : ℕ) → is_damaged (bare s i) ≡ false → mark_of s i ≡ get_or s.marks i 0
unfolding is_damaged
whole_mark s i h = by_lt 2 (mark_of s i)
    (λ l e. let z : true ≡ false = rw (slot_cell s (λ j. tt {0}) i, cell_bad (mark_of s i) (key_at s i) (tt {0}) l) at h in clash cc)
    (λ l e. mark_raw s i l)

-- so where none is damaged, the marks count the live slots
pub marks_count : (s : Spans) (n : ℕ) → any_damaged (bare s) n ≡ false → count (bare s) n ≡ live_marks s.marks n
unfolding total any_damaged live_marks
marks_count s zero h = refl
marks_count s (suc n) h = by_bool (is_damaged (bare s n))
    (λ e. let z : true ≡ false = rw e at h in clash cc)
    (λ e. rw (marks_count s n (rw e at h), slot_cell s (λ j. tt {0}) n, ← counted_weighs (mark_of s n) (key_at s n) (tt {0}), whole_mark s n e))

-- so many live marks were counted below i
pub record Counting (marks : List ℕ) (live i : ℕ) : Type 0 where
  pub low : live ≤ i
  pub lives : live ≡ live_marks marks i

pub count_start : (marks : List ℕ) → Counting marks 0 0
unfolding live_marks
count_start marks = record { low = omega arith; lives = refl }

pub count_more : {marks : List ℕ} {live i r : ℕ} → Counting marks live i → r ≡ counted (get_or marks i 0) → Counting marks (live + r) (i + 1)
unfolding live_marks
count_more {marks} {live} {i} w e = record { low = omega (arith, w.low, counted_low (get_or marks i 0) e); lives = rw (add-one, e, w.lives) }

live_marks_low : (marks : List ℕ) (n : ℕ) → live_marks marks n ≤ n
unfolding live_marks
live_marks_low marks zero = omega arith
live_marks_low marks (suc n) = omega (arith, live_marks_low marks n, counted_low (get_or marks n 0) refl)

pub live_marks_within : (marks : List ℕ) {n : ℕ} → n ≡ live_marks marks (length marks) → n ≤ length marks
live_marks_within marks e = omega (arith, live_marks_low marks (length marks))
