-- The survey of all slots, one slot at a time.
use Rattle.std.proofs.Common.{ℕ, zero, suc, ◌+◌, ◌*◌, ◌≤◌, ◌<◌, true, false, cond, ◌&&◌, List, ◌≡◌, refl, sym, ◌∙◌, add-one, arith, lt-ltb, le-ltb, ltb-true, eqb-true, ne_eqb, ltb, eqb, length, get_or, Ok, Err}
use Rattle.model.specs.Slots.{is_damaged, weigh, total, any_damaged}
use Rattle.model.proofs.Cases.{both, by_bool, by_lt, clash}
use Rattle.model.proofs.Slots.{damaged_bad}
use Rattle.digest.specs.Home.{key_limit}
use Rattle.kinds.specs.Marks.{cell}
use Rattle.kinds.proofs.Scanning.{cell_bad, cell_sound}
use Rattle.byte_slots.specs.Memory.{Spans, end_at, key_at, bare, used_of, beyond, full_damage, fitting}
use Rattle.byte_slots.specs.Marks.{mark_of}
use Rattle.byte_slots.specs.Surveying.{higher_end, surveying}
use Rattle.byte_slots.proofs.Marks.{mark_past, mark_within, mark_other, slot_cell, live_key}
use Rattle.byte_slots.proofs.Sizes.{Sized, fitting_says}
use Rattle.answers.specs.declared.Refusal.TheVariants as refusal

-- the largest end so far tells whether a live span ends beyond u
higher_tells : (u e top : ℕ) → cond (ltb u e) true (ltb u top) ≡ ltb u (higher_end e top)
unfolding higher_end
higher_tells u e top = by_lt top e
    (λ l p. rw p (by_lt u e (λ a r. rw r) (λ a r. rw (r, le-ltb u top (omega arith)))))
    (λ l p. rw p (by_lt u e (λ a r. rw (r, lt-ltb u top (omega arith))) (λ a r. rw r)))

-- it is no less than either
higher_both : (e top : ℕ) {t n : ℕ} → t ≡ higher_end e top → t ≤ n → (e ≤ n) × (top ≤ n)
unfolding higher_end
higher_both e top p l = by_lt top e
    (λ a q. let z : _ ≡ e = p ∙ rw q in (omega arith, omega arith))
    (λ a q. let z : _ ≡ top = p ∙ rw q in (omega arith, omega arith))

-- a slot that is neither live nor damaged weighs nothing
passed_cell : (m : ℕ) (k : List ℕ) → m ≤ 2 → (m ≡ 1 → ⊥) → weigh length (cell m k (tt {0})) ≡ 0
unfolding weigh cell
passed_cell zero k l h = refl
passed_cell (suc zero) k l h = absurd (h refl)
passed_cell (suc (suc zero)) k l h = refl
passed_cell (suc (suc (suc m))) k l h = let z : ⊥ = omega arith in absurd z

end_is : (s : Spans) (i : ℕ) → end_at s i ≡ get_or s.offsets i 0 + get_or s.lengths i 0
unfolding end_at
end_is s i = refl

-- a live span past the arena is a damaged slot
past_damaged : (s : Spans) (n : ℕ) → beyond s (length s.arena) n ≡ true → any_damaged (bare s) n ≡ true
unfolding beyond any_damaged is_damaged
past_damaged s zero h = clash cc
past_damaged s (suc n) h = by_bool (eqb (get_or s.marks n 0) 1 && ltb (length s.arena) (end_at s n))
    (λ e. let (a, b) = both (eqb (get_or s.marks n 0) 1) (ltb (length s.arena) (end_at s n)) e in
    let m : 3 ≡ mark_of s n = mark_past s n refl (eqb-true (get_or s.marks n 0) 1 a) refl (omega (arith, end_is s n, ltb-true (length s.arena) (end_at s n) b)) in
    rw (slot_cell s (λ j. tt {0}) n, cell_bad (mark_of s n) (key_at s n) (tt {0}) (omega arith)))
    (λ e. let z : beyond s (length s.arena) n ≡ true = rw e at h in by_bool (is_damaged (bare s n)) (λ q. rw q) (λ q. rw q (past_damaged s n z)))

-- the survey's state: no mark above 2 among the first i slots, their sum and their largest end; where that is in the arena, no damage
pub record Surveying (s : Spans) (used top i : ℕ) : Type 0 where
  pub sized : Sized s
  pub within : i ≤ length s.marks
  pub low : used ≤ key_limit * i
  pub ends : (u : ℕ) → beyond s u i ≡ ltb u top
  pub sound : top ≤ length s.arena → (used ≡ total length (bare s) i) × (any_damaged (bare s) i ≡ false)

pub survey_start : (s : Spans) → fitting s ≡ true → Surveying s 0 0 0
unfolding total any_damaged beyond
survey_start s f = record { sized = fitting_says s f; within = omega arith; low = omega arith; ends = λ u. sym (le-ltb u 0 (omega arith)); sound = λ l. (refl, refl) }

module _ {s : Spans} {used top i : ℕ} (w : Surveying s used top i) where
  -- the next slot's mark, as it was read
  module _ {m : ℕ} (l : i < length s.marks) (p : m ≡ get_or s.marks i 0) where
    pub survey_bad : 2 < m → (m ≡ 1 → ⊥) → Err refusal.Damaged ≡ surveying s
    unfolding surveying full_damage
    survey_bad h k = rw (damaged_bad (bare s) (length s.marks) i l (slot_cell s (λ j. tt {0}) i ∙ cell_bad (mark_of s i) (key_at s i) (tt {0}) (omega (arith, mark_other s i p k))))

    -- a live one
    pub survey_live : {n d u t : ℕ} → m ≡ 1 → (n ≡ get_or s.lengths i 0) × (n ≤ key_limit) → d ≡ get_or s.offsets i 0 + n → u ≡ used + n → t ≡ higher_end d top → Surveying s u t (i + 1)
    unfolding total weigh cell any_damaged beyond is_damaged
    survey_live {n} {d} {u} {t} h (q, few) r b e =
        let raw : get_or s.marks i 0 ≡ 1 = omega arith in
        let a : d ≡ get_or s.offsets i 0 + get_or s.lengths i 0 = omega arith in
        record {
          sized = w.sized;
          within = omega arith;
          low = omega arith;
          ends = λ x. rw (add-one, raw, end_is s i, ← a, w.ends x, e) (higher_tells x d top);
          sound = λ fit.
              let (y, z) = higher_both d top e fit in
              let (f, g) = w.sound z in
              let one : mark_of s i ≡ 1 = sym (mark_within s i p h q (omega arith)) in
              let long : length (key_at s i) ≡ get_or s.lengths i 0 = live_key s i one in
              (rw (add-one, slot_cell s (λ j. tt {0}) i, one) (omega arith), rw (add-one, slot_cell s (λ j. tt {0}) i, one) g);
        }

    -- another
    pub survey_pass : {u t : ℕ} → m ≤ 2 → (m ≡ 1 → ⊥) → u ≡ used → t ≡ top → Surveying s u t (i + 1)
    unfolding total any_damaged beyond
    survey_pass {u} {t} h k a b =
        let shows : m ≡ mark_of s i = mark_other s i p k in
        let none : weigh length (cell (mark_of s i) (key_at s i) (tt {0})) ≡ 0 = passed_cell (mark_of s i) (key_at s i) (omega arith) (λ z. k (omega arith)) in
        record {
          sized = w.sized;
          within = omega arith;
          low = omega arith;
          ends = λ x. rw (add-one, ne_eqb (get_or s.marks i 0) 1 (λ z. k (omega arith)), b) (w.ends x);
          sound = λ fit.
              let (f, g) = w.sound (omega arith) in
              (rw (add-one, slot_cell s (λ j. tt {0}) i) (omega arith), rw (add-one, slot_cell s (λ j. tt {0}) i, cell_sound (mark_of s i) (key_at s i) (tt {0}) (omega arith)) g);
        }

  -- all slots were seen
  module _ (l : length s.marks ≤ i) where
    all_seen : length s.marks ≡ i
    all_seen = omega (arith, w.within)

    -- an end past the arena is damage
    past_harms : length s.arena < top → full_damage s ≡ true
    unfolding full_damage
    past_harms h = rw (all_seen, past_damaged s i (w.ends (length s.arena) ∙ lt-ltb (length s.arena) top h))

    -- else the sum and the largest end tell it
    harm_is : top ≤ length s.arena → full_damage s ≡ cond (ltb (length s.arena) used) true (ltb used top)
    unfolding full_damage used_of
    harm_is h = let (a, b) = w.sound h in rw (all_seen, b, ← a, w.ends used)

    pub survey_over : length s.arena < used → (Err refusal.Damaged) ≡ surveying s
    unfolding surveying
    survey_over h = by_lt (length s.arena) top
        (λ a e. rw (past_harms a))
        (λ a e. rw (harm_is a, lt-ltb (length s.arena) used h))

    pub survey_beyond : used ≤ length s.arena → used < top → (Err refusal.Damaged) ≡ surveying s
    unfolding surveying
    survey_beyond k h = by_lt (length s.arena) top
        (λ a e. rw (past_harms a))
        (λ a e. rw (harm_is a, le-ltb (length s.arena) used k, lt-ltb used top h))

    pub survey_end : used ≤ length s.arena → top ≤ used → Ok used ≡ surveying s
    unfolding surveying used_of
    survey_end k h =
        let fit : top ≤ length s.arena = omega arith in
        let (a, b) = w.sound fit in
        rw (harm_is fit, le-ltb (length s.arena) used k, le-ltb used top h, all_seen, ← a)
