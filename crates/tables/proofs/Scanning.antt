-- The scan of all slots, and the first live slot of a stretch, one slot at a time.
use Rattle.std.specs.Prelude.{Result, Ok, Err, Option, Some, None}
use Rattle.std.proofs.Common.{ℕ, suc, ◌+◌, ◌-◌, ◌≤◌, ◌<◌, true, false, ◌≡◌, refl, sym, ◌∙◌, lt-ltb, le-ltb}
use native.Mathlib.Numerals.{add-one}
use native.Mathlib.Omega.{arith}
use Rattle.model.specs.Slots.{Slot, never, freed, damaged, live, Table, is_damaged, weigh, total, count, any_damaged}
use Rattle.model.specs.Path.{from}
use Rattle.model.specs.Store.{Store, live_count, damaged_slots}
use Rattle.model.specs.Walk.{halts}
use Rattle.model.proofs.Cases.{clash}
use Rattle.model.proofs.Slots.{damaged_bad}
use Rattle.answers.specs.declared.Refusal.{Refusal}
use Rattle.answers.specs.declared.Refusal.TheVariants as refusal
use Rattle.kinds.specs.declared.Mark.{Mark}
use Rattle.kinds.specs.declared.Mark.TheVariants.{Live}
use Rattle.kinds.specs.Scanning.{next_at}
use Rattle.tables.specs.Reading.{mark_in, next_in, scanning}

module _ {K W : Type 0} where
  -- what a slot's mark says
  bad_in : (s : Slot K W) {y : Refusal} → mark_in s ≡ Err y → (s ≡ damaged) × (y ≡ refusal.Damaged)
  unfolding mark_in
  bad_in never e = clash cc
  bad_in freed e = clash cc
  bad_in damaged e = (refl, cc)
  bad_in (live k v) e = clash cc

  live_in : (s : Slot K W) → mark_in s ≡ Ok Live → (weigh (λ x. 1) s ≡ 1) × (is_damaged s ≡ false) × (halts s ≡ true) × ((j : ℕ) → next_at j s ≡ Ok (Some j))
  unfolding mark_in weigh is_damaged halts next_at
  live_in never e = clash cc
  live_in freed e = clash cc
  live_in damaged e = clash cc
  live_in (live k v) e = (refl, refl, refl, λ j. refl)

  other_in : (s : Slot K W) {m : Mark} → mark_in s ≡ Ok m → (m ≡ Live → ⊥) → (weigh (λ x. 1) s ≡ 0) × (is_damaged s ≡ false) × (halts s ≡ false)
  unfolding mark_in weigh is_damaged halts
  other_in never e h = (refl, refl, refl)
  other_in freed e h = (refl, refl, refl)
  other_in damaged e h = clash cc
  other_in (live k v) {m} e h = let z : m ≡ Live = cc in absurd (h z)

-- the scan's state: no damage among the first i slots, and so many live
pub record Scanned {K W : Type 0} (t : Table K W) (live i : ℕ) : Type 0 where
  pub low : live ≤ i
  pub lives : live ≡ count t i
  pub sound : any_damaged t i ≡ false

pub scan_start : {K W : Type 0} (t : Table K W) → Scanned t 0 0
unfolding total any_damaged
scan_start t = record { low = omega arith; lives = refl; sound = refl }

module _ {K W : Type 0} (M : Store K W) (m : M.State) {live i : ℕ} (w : Scanned (M.slots m) live i) where
  module _ {x : Result Mark Refusal} (l : i < M.size m) (mark : x ≡ mark_in (M.slots m i)) where
    pub scan_bad : {y : Refusal} → x ≡ Err y → Err y ≡ scanning M m
    unfolding scanning damaged_slots
    scan_bad q = let (d, e) = bad_in (M.slots m i) (sym mark ∙ q) in rw (damaged_bad (M.slots m) (M.size m) i l d, e)

    pub scan_live : x ≡ Ok Live → Scanned (M.slots m) (live + 1) (i + 1)
    unfolding total any_damaged
    scan_live q =
        let (a, b, c, d) = live_in (M.slots m i) (sym mark ∙ q) in
        record { low = omega (arith, w.low); lives = rw (add-one i, a, w.lives); sound = rw (add-one i, b) w.sound }

    pub scan_other : {k : Mark} → x ≡ Ok k → (k ≡ Live → ⊥) → Scanned (M.slots m) live (i + 1)
    unfolding total any_damaged
    scan_other q h =
        let (a, b, c) = other_in (M.slots m i) (sym mark ∙ q) h in
        record { low = omega (arith, w.low); lives = rw (add-one i, a, ← w.lives) (omega arith); sound = rw (add-one i, b) w.sound }

  pub scan_end : i ≡ M.size m → Ok live ≡ scanning M m
  unfolding scanning damaged_slots live_count
  scan_end e = rw (← e, w.sound, w.lives)

-- the look ahead's state: the rest of the stretch gives the whole answer
module _ {K W : Type 0} (t : Table K W) {i e : ℕ} {a : Result (Option ℕ) Refusal} (w : next_in t i e ≡ a) where
  module _ {x : Result Mark Refusal} (l : i < e) (mark : x ≡ mark_in (t i)) where
    more : e - i ≡ suc (e - suc i)
    more = omega arith

    pub next_live : x ≡ Ok Live → Ok (Some i) ≡ a
    unfolding next_in from
    next_live q = let (b, c, d, f) = live_in (t i) (sym mark ∙ q) in rw (← w, more, d, lt-ltb i e l, f i)

    pub next_bad : {y : Refusal} → x ≡ Err y → Err y ≡ a
    unfolding next_in from next_at halts
    next_bad q = let (d, z) = bad_in (t i) (sym mark ∙ q) in rw (← w, more, d, lt-ltb i e l, d, z)

    pub next_other : {k : Mark} → x ≡ Ok k → (k ≡ Live → ⊥) → next_in t (i + 1) e ≡ a
    unfolding next_in from
    next_other q h = let (b, c, d) = other_in (t i) (sym mark ∙ q) h in rw (← w, more, d, add-one i)

  pub next_end : e ≤ i → Ok None ≡ a
  unfolding next_in from
  next_end l = let q : e - i ≡ 0 = omega arith in rw (← w, q, le-ltb i e l)
