-- What a mark says of its slot, the scan of all slots, and the first live slot of a stretch, one mark at a time.
use Prim.Native.Nat.{ℕ, zero, suc, ◌+◌, ◌-◌, ◌≤◌, ◌<◌}
use mathlib.Core.Bool.{false}
use mathlib.Core.Path.{◌≡◌, refl, sym, ◌∙◌}
use native.Mathlib.Numerals.{add-one}
use native.Mathlib.Omega.{arith}
use borrow.Author.Tests.{lt-ltb, le-ltb, ne_eqb}
use lib.Dec.{eqb}
use Rattle.model.specs.Slots.{damaged, is_damaged, weigh, total, count, any_damaged}
use Rattle.model.specs.Path.{from}
use Rattle.model.specs.Walk.{halts}
use Rattle.model.proofs.Cases.{by_bool, clash}
use Rattle.model.proofs.Slots.{damaged_bad}
use Rattle.kinds.specs.declared.Mark.{Mark}
use Rattle.kinds.specs.declared.Mark.TheVariants.{Live}
use Rattle.kinds.specs.Marks.{cell, marks_only, counted, mark_read}
use Rattle.kinds.specs.Scanning.{scanning_of, next_at, nexting_of}
use Rattle.std.specs.Prelude.{Ok, Err, Result, Option, Some, None}
use Rattle.answers.specs.declared.Refusal.TheVariants as refusal
use Rattle.answers.specs.declared.Refusal.{Refusal}

module _ {K W : Type 0} where
  -- a mark above 2 is damage
  pub cell_bad : (m : ℕ) (k : K) (v : W) → 2 < m → cell m k v ≡ damaged
  unfolding cell
  cell_bad zero k v l = let z : ⊥ = omega arith in absurd z
  cell_bad (suc zero) k v l = let z : ⊥ = omega arith in absurd z
  cell_bad (suc (suc zero)) k v l = let z : ⊥ = omega arith in absurd z
  cell_bad (suc (suc (suc m))) k v l = refl

  -- others are none
  pub cell_sound : (m : ℕ) (k : K) (v : W) → m ≤ 2 → is_damaged (cell m k v) ≡ false
  unfolding cell is_damaged
  cell_sound zero k v l = refl
  cell_sound (suc zero) k v l = refl
  cell_sound (suc (suc zero)) k v l = refl
  cell_sound (suc (suc (suc m))) k v l = let z : ⊥ = omega arith in absurd z

  -- a mark that is 0 or 2 halts no step
  cell_passed : (m : ℕ) (k : K) (v : W) → m ≤ 2 → (m ≡ 1 → ⊥) → halts (cell m k v) ≡ false
  unfolding cell halts
  cell_passed zero k v l h = refl
  cell_passed (suc zero) k v l h = absurd (h refl)
  cell_passed (suc (suc zero)) k v l h = refl
  cell_passed (suc (suc (suc m))) k v l h = let z : ⊥ = omega arith in absurd z

  -- a mark counts what its slot weighs
  pub counted_weighs : (m : ℕ) (k : K) (v : W) → counted m ≡ weigh (λ x. 1) (cell m k v)
  unfolding counted cell weigh
  counted_weighs zero k v = refl
  counted_weighs (suc zero) k v = refl
  counted_weighs (suc (suc zero)) k v = refl
  counted_weighs (suc (suc (suc m))) k v = rw (ne_eqb (suc (suc (suc m))) 1 (omega arith))

-- a mark adds at most one
pub counted_low : (m : ℕ) {r : ℕ} → r ≡ counted m → r ≤ 1
unfolding counted
counted_low m p = by_bool (eqb m 1) (λ e. omega (arith, rw e at p)) (λ e. omega (arith, rw e at p))

-- what a mark was read as: damage above 2, live at 1, else 0 or 2
pub read_bad : (m : ℕ) {y : Refusal} → mark_read m ≡ Err y → (2 < m) × (y ≡ refusal.Damaged)
unfolding mark_read
read_bad zero e = clash cc
read_bad (suc zero) e = clash cc
read_bad (suc (suc zero)) e = clash cc
read_bad (suc (suc (suc m))) e = (omega arith, cc)

pub read_live : (m : ℕ) → mark_read m ≡ Ok Live → m ≡ 1
unfolding mark_read
read_live zero e = clash cc
read_live (suc zero) e = refl
read_live (suc (suc zero)) e = clash cc
read_live (suc (suc (suc m))) e = clash cc

pub read_other : (m : ℕ) {k : Mark} → mark_read m ≡ Ok k → (k ≡ Live → ⊥) → (m ≤ 2) × (m ≡ 1 → ⊥)
unfolding mark_read
read_other zero e h = (omega arith, λ z. omega arith)
read_other (suc zero) {k} e h = let z : k ≡ Live = cc in absurd (h z)
read_other (suc (suc zero)) e h = (omega arith, λ z. omega arith)
read_other (suc (suc (suc m))) e h = clash cc

-- the scan's state: no damage among the first i slots, and so many live
pub record Scanning (mark : ℕ → ℕ) (S live i : ℕ) : Type 0 where
  pub within : i ≤ S
  pub low : live ≤ i
  pub lives : live ≡ count (marks_only mark) i
  pub sound : any_damaged (marks_only mark) i ≡ false

pub scan_start : (mark : ℕ → ℕ) (S : ℕ) → Scanning mark S 0 0
unfolding total any_damaged
scan_start mark S = record { within = omega arith; low = omega arith; lives = refl; sound = refl }

module _ {mark : ℕ → ℕ} {S live i : ℕ} (w : Scanning mark S live i) where
  -- the next slot's mark, as it was read
  module _ {m : ℕ} {x : Result Mark Refusal} (l : i < S) (p : m ≡ mark i) (read : x ≡ mark_read m) where
    pub scan_bad : {y : Refusal} → x ≡ Err y → Err y ≡ scanning_of mark S
    unfolding scanning_of
    scan_bad q =
        let (h, e) = read_bad m (sym read ∙ q) in
        rw (damaged_bad (marks_only mark) S i l (cell_bad (mark i) tt tt (rw p at h)), e)

    onwards : {r : ℕ} → m ≤ 2 → r ≡ counted m → Scanning mark S (live + r) (i + 1)
    unfolding total any_damaged
    onwards {r} h e = record {
      within = omega arith;
      low = omega (arith, counted_low m e);
      lives = rw (add-one, e, p, counted_weighs (mark i) (tt {0}) (tt {0}), w.lives);
      sound = rw (add-one, cell_sound (mark i) (tt {0}) (tt {0}) (rw p at h)) w.sound;
    }

    pub scan_live : x ≡ Ok Live → Scanning mark S (live + 1) (i + 1)
    unfolding counted
    scan_live q = let e = read_live m (sym read ∙ q) in onwards (omega arith) (rw e)

    pub scan_other : {k : Mark} → x ≡ Ok k → (k ≡ Live → ⊥) → Scanning mark S live (i + 1)
    unfolding counted
    scan_other q h =
        let (a, b) = read_other m (sym read ∙ q) h in
        let z : live + 0 ≡ live = omega arith in
        let on : Scanning mark S (live + 0) (i + 1) = onwards {r = 0} a (rw (ne_eqb m 1 b)) in
        rw z at on

  pub scan_end : S ≤ i → Ok live ≡ scanning_of mark S
  unfolding scanning_of
  scan_end l = let e : S ≡ i = omega arith in rw (e, w.sound, w.lives)

-- the look ahead's state: the rest of the stretch gives the whole answer, and beyond S there is nothing
pub record Ahead (mark : ℕ → ℕ) (S e i : ℕ) (a : Result (Option ℕ) Refusal) : Type 0 where
  pub beyond : (j : ℕ) → S ≤ j → mark j ≡ 0
  pub gives : nexting_of mark i e ≡ a

pub ahead_start : (mark : ℕ → ℕ) (S e i : ℕ) → ((j : ℕ) → S ≤ j → mark j ≡ 0) → Ahead mark S e i (nexting_of mark i e)
ahead_start mark S e i h = record { beyond = h; gives = refl }

module _ {mark : ℕ → ℕ} {S e i : ℕ} {a : Result (Option ℕ) Refusal} (w : Ahead mark S e i a) where
  -- the next slot's mark, as it was read
  module _ {m : ℕ} {x : Result Mark Refusal} (l : i < e) (p : m ≡ mark i) (read : x ≡ mark_read m) where
    more : e - i ≡ suc (e - suc i)
    more = omega arith

    pub ahead_live : x ≡ Ok Live → Ok (Some i) ≡ a
    unfolding nexting_of from next_at halts cell
    ahead_live q = let h = read_live m (sym read ∙ q) in let z : mark i ≡ 1 = omega arith in rw (← w.gives, more, z, lt-ltb i e l, z)

    pub ahead_bad : {y : Refusal} → x ≡ Err y → Err y ≡ a
    unfolding nexting_of from next_at halts
    ahead_bad q =
        let (h, t) = read_bad m (sym read ∙ q) in
        let z = cell_bad (mark i) (tt {0}) (tt {0}) (rw p at h) in rw (← w.gives, more, z, lt-ltb i e l, z, t)

    pub ahead_other : {k : Mark} → x ≡ Ok k → (k ≡ Live → ⊥) → Ahead mark S e (i + 1) a
    unfolding nexting_of from
    ahead_other q h =
        let (c, d) = read_other m (sym read ∙ q) h in
        record { beyond = w.beyond; gives = rw (← w.gives, more, cell_passed (mark i) (tt {0}) (tt {0}) (rw p at c) (λ z. d (omega arith)), add-one) }

  pub ahead_end : e ≤ i → (Ok None) ≡ a
  unfolding nexting_of from
  ahead_end l = let q : e - i ≡ 0 = omega arith in rw (← w.gives, q, le-ltb i e l)
