-- What the answers over marks and keys say of the calls' definitions, for any store whose slots stand so.
-- A slot stops a path, is free, is damaged and counts by its mark and key alone, whatever value stands beside it. So a loop that looks at marks and keys
-- answers as the theory does over whole slots, and the value is read once at the end.
use Prim.Native.Nat.{ℕ, zero, suc, ◌+◌, ◌-◌, ◌≤◌, ◌<◌}
use mathlib.Core.Bool.{Bool, true, false, cond}
use mathlib.Core.Path.{◌≡◌, refl, sym, ◌∙◌, ap, fun_ext}
use mathlib.Core.Logic.{◌⊎◌, inl, inr}
use native.Mathlib.Omega.{arith}
use lib.Dec.{ltb, leb}
use Rattle.model.specs.Slots.{Slot, never, freed, damaged, live, Keys, is_damaged, weigh, total, count, any_damaged, frees}
use Rattle.model.specs.Path.{from, at, stops, Find, hit, miss, damage, ends, stop_at, free_at, find}
use Rattle.model.specs.Store.{Store, path, slot_at, live_count, used, damaged_slots}
use Rattle.model.specs.Calls.{Or, no, ok, need, Seen, found, absent, Spot, occupied, vacant, seen_by, spot_by}
use Rattle.model.specs.Walk.{halts, halted, step_within}
use Rattle.model.proofs.Cases.{by_bool, by_lt, clash}
use Rattle.model.proofs.Path.{at_below, hit_at, from_low, from_here}
use Rattle.model.proofs.Slots.{count_high}
use Rattle.answers.specs.Refusals.{number_of}
use Rattle.kinds.specs.Marks.{cell, cells_of, keys_only, marks_only}
use Rattle.kinds.specs.Probing.{along}
use Rattle.kinds.specs.Scanning.{scanning_of, next_at, nexting_of}
use Rattle.kinds.specs.Stepping.{ahead_by, stepped_by}
use Rattle.std.specs.Prelude.{Result, Ok, Err, Option, Some}
use Rattle.answers.specs.declared.Refusal.{Refusal}
use Rattle.kinds.specs.declared.Probed.{Probed}
use Rattle.kinds.specs.declared.Probed.TheVariants.{Hit, Free, Full}
use Rattle.answers.specs.declared.Refusal.TheVariants as refusal

-- What a lookup answers where the probing ended so; `read` gives the value at a slot.
abbrev pub seen_of : {W : Type 0} → (ℕ → W) → Result Probed Refusal → Or (Seen W)
seen_of read (Ok (Hit s e)) = ok (found (read s) s e)
seen_of read (Ok (Free s e)) = ok (absent e)
seen_of read (Ok (Full e)) = ok (absent e)
seen_of read (Err x) = no (number_of x)

-- What entry and insert answer, where the key's bytes fit or not.
abbrev pub spot_in : {W : Type 0} → Bool → (ℕ → W) → Result Probed Refusal → Or (Spot W)
spot_in room read (Ok (Hit s e)) = ok (occupied s (read s) e)
spot_in room read (Ok (Free s e)) = cond room (ok (vacant s e)) (no 8)
spot_in room read (Ok (Full e)) = no 7
spot_in room read (Err x) = no (number_of x)

-- The same where keys take no arena bytes.
abbrev pub spot_of : {W : Type 0} → (ℕ → W) → Result Probed Refusal → Or (Spot W)
spot_of read p = spot_in true read p

-- A path that ended without the key, at a free slot or at none: a lookup answers that it is absent.
pub absent_by : {W : Type 0} (read : ℕ → W) {p : Probed} {e : ℕ} → ((x : ℕ) × (p ≡ Free x e)) ⊎ (p ≡ Full e) → seen_of read (Ok p) ≡ ok (absent e)
absent_by read (inl (x, q)) = rw q
absent_by read (inr q) = rw q

-- what holds of each kind of slot, whatever its key and value, holds of each mark
same_cell : {K L W : Type 0} {a : K} {b : L} {v : W} (P : Slot K W → Slot L (Unit {0}) → Type 0) → P never never → P freed freed → P damaged damaged → P (live a v) (live b tt) → (m : ℕ) → P (cell m a v) (cell m b tt)
unfolding cell
same_cell P p q r s zero = p
same_cell P p q r s (suc zero) = s
same_cell P p q r s (suc (suc zero)) = q
same_cell P p q r s (suc (suc (suc m))) = r

module _ {K W : Type 0} (E : Keys K) (a k : K) (v : W) where
  stops_cell : (m : ℕ) → stops E k (cell m a v) ≡ stops E k (cell m a (tt {0}))
  unfolding stops
  stops_cell = same_cell (λ s t. stops E k s ≡ stops E k t) refl refl refl refl

module _ {K W : Type 0} (a : K) (v : W) where
  frees_cell : (m : ℕ) → frees (cell m a v) ≡ frees (cell m a (tt {0}))
  unfolding frees
  frees_cell = same_cell (λ s t. frees s ≡ frees t) refl refl refl refl

  ends_cell : (S h n f m : ℕ) → along S h (ends n f (cell m a v)) ≡ along S h (ends n f (cell m a (tt {0})))
  unfolding ends along
  ends_cell S h n f = same_cell (λ s t. along S h (ends n f s) ≡ along S h (ends n f t)) refl refl refl refl

  hurts_cell : (m : ℕ) → is_damaged (cell m a v) ≡ is_damaged (cell m (tt {0}) (tt {0}))
  unfolding is_damaged
  hurts_cell = same_cell (λ s t. is_damaged s ≡ is_damaged t) refl refl refl refl

  weigh_cell : (m : ℕ) → weigh (λ x. 1) (cell m a v) ≡ weigh (λ x. 1) (cell m (tt {0}) (tt {0}))
  unfolding weigh
  weigh_cell = same_cell (λ s t. weigh (λ x. 1) s ≡ weigh (λ x. 1) t) refl refl refl refl

  halts_cell : (m : ℕ) → halts (cell m a v) ≡ halts (cell m (tt {0}) (tt {0}))
  unfolding halts
  halts_cell = same_cell (λ s t. halts s ≡ halts t) refl refl refl refl

  value_cell : (m : ℕ) (k : K) (w : W) → cell m a v ≡ live k w → w ≡ v
  unfolding cell
  value_cell zero k w e = clash cc
  value_cell (suc zero) k w e = cc
  value_cell (suc (suc zero)) k w e = clash cc
  value_cell (suc (suc (suc m))) k w e = clash cc

module _ {K W : Type 0} (mark : ℕ → ℕ) (key : ℕ → K) (v : ℕ → W) where
  -- the path does not look at values
  module _ (E : Keys K) (S h : ℕ) (k : K) where
    stop_cell : stop_at E S h (cells_of mark key v) k ≡ stop_at E S h (keys_only mark key) k
    unfolding stop_at
    stop_cell = ap (λ (f : ℕ → Bool). from f S 0) (fun_ext (λ n. stops_cell E (key (at S h n)) k (v (at S h n)) (mark (at S h n))))

    free_cell : free_at S h (cells_of mark key v) ≡ free_at S h (keys_only mark key)
    unfolding free_at
    free_cell = ap (λ (f : ℕ → Bool). from f S 0) (fun_ext (λ n. frees_cell (key (at S h n)) (v (at S h n)) (mark (at S h n))))

    find_cell : along S h (find E S h (cells_of mark key v) k) ≡ along S h (find E S h (keys_only mark key) k)
    unfolding find along
    find_cell =
        let s = stop_at E S h (keys_only mark key) k in
        let f = free_at S h (keys_only mark key) in
        rw (stop_cell, free_cell) (by_bool (ltb s S) (λ e. rw e (ends_cell (key (at S h s)) (v (at S h s)) S h s f (mark (at S h s)))) (λ e. rw e))

  -- the scan sees what the table's own count and damage are
  damaged_cells : (n : ℕ) → any_damaged (marks_only mark) n ≡ any_damaged (cells_of mark key v) n
  unfolding any_damaged
  damaged_cells zero = refl
  damaged_cells (suc n) = rw (hurts_cell (key n) (v n) (mark n), damaged_cells n)

  count_cells : (n : ℕ) → count (marks_only mark) n ≡ count (cells_of mark key v) n
  unfolding total
  count_cells zero = refl
  count_cells (suc n) = rw (weigh_cell (key n) (v n) (mark n), count_cells n)

  -- a step's slots, by the first live or damaged one of the stretch
  paced_at : (w e j m : ℕ) → halts (cell m (tt {0}) (tt {0})) ≡ true
      → halted w j (cell m (key j) (v j)) ≡ stepped_by key v w (ahead_by e (next_at j (cell m (tt {0}) (tt {0}))))
  unfolding halts halted next_at cell ahead_by stepped_by
  paced_at w e j zero h = clash cc
  paced_at w e j (suc zero) h = refl
  paced_at w e j (suc (suc zero)) h = clash cc
  paced_at w e j (suc (suc (suc n))) h = refl

  from_cells : (w g : ℕ) → from (λ i. halts (cells_of mark key v i)) g w ≡ from (λ i. halts (marks_only mark i)) g w
  from_cells w g = ap (λ (f : ℕ → Bool). from f g w) (fun_ext (λ i. halts_cell (key i) (v i) (mark i)))

  pub nexting_pace : (w g : ℕ) → step_within (cells_of mark key v) w g ≡ stepped_by key v w (ahead_by (w + g) (nexting_of mark w (w + g)))
  unfolding step_within nexting_of ahead_by stepped_by
  nexting_pace w g =
      let d : w + g - w ≡ g = omega arith in
      let j = from (λ i. halts (marks_only mark i)) g w in
      rw (from_cells w g, d) (by_lt j (w + g)
      (λ l e. rw e (paced_at w (w + g) j (mark j) (from_here (λ i. halts (marks_only mark i)) g w l)))
      (λ l e. rw (e, d)))

-- a stretch that ended at a live slot ended there
at_live : {K W : Type 0} (x j : ℕ) (s : Slot K W) → next_at x s ≡ Ok (Some j) → x ≡ j
unfolding next_at
at_live x j never e = clash cc
at_live x j freed e = clash cc
at_live x j damaged e = clash cc
at_live x j (live a v) e = cc

-- a live slot that the stretch from w to e gives is in it
pub next_inside : (mark : ℕ → ℕ) (w e : ℕ) {r : Result (Option ℕ) Refusal} {j : ℕ} → r ≡ nexting_of mark w e → r ≡ Ok (Some j) → (w ≤ j) × (j < e)
unfolding nexting_of
next_inside mark w e {r} {j} p q =
    let x = from (λ i. halts (marks_only mark i)) (e - w) w in
    by_lt x e
    (λ l t. let z : x ≡ j = at_live x j (marks_only mark x) (rw t at (sym p ∙ q)) in (omega (arith, from_low (λ i. halts (marks_only mark i)) (e - w) w), omega arith))
    (λ l t. clash (cc (rw t at (sym p ∙ q))))

-- the slots that a path gives are the table's
module _ {K W : Type 0} (M : Store K W) (m : M.State) (k : K) (inside : M.home m k < M.size m) where
  slot_inside : (n : ℕ) → n < M.size m → slot_at M m k n < M.size m
  unfolding slot_at
  slot_inside n l = at_below (M.size m) (M.home m k) n inside l

  pub hit_inside : (n : ℕ) (v : W) → path M m k ≡ hit n v → slot_at M m k n < M.size m
  unfolding path
  hit_inside n v e = slot_inside n (hit_at M.keys (M.size m) (M.home m k) (M.slots m) k n v e).0

  along_hit : (x : Find W) → path M m k ≡ x → {s e : ℕ} → along (M.size m) (M.home m k) x ≡ Ok (Hit s e) → s < M.size m
  unfolding along slot_at
  along_hit (hit n v) q {s} {e} w = let z : slot_at M m k n ≡ s = cc in omega (arith, hit_inside n v q)
  along_hit (miss e f) q w = by_bool (ltb f (M.size m)) (λ t. clash (cc (rw t at w))) (λ t. clash (cc (rw t at w)))
  along_hit damage q w = clash cc

  along_free : (x : Find W) → {s e : ℕ} → along (M.size m) (M.home m k) x ≡ Ok (Free s e) → s < M.size m
  unfolding along slot_at
  along_free (hit n v) w = clash cc
  along_free (miss e' f) {s} {e} w = by_lt f (M.size m)
      (λ l t. let u : Ok (Free (slot_at M m k f) e') ≡ Ok (Free s e) = rw t at w in let z : slot_at M m k f ≡ s = cc in omega (arith, slot_inside f l))
      (λ l t. clash (cc (rw t at w)))
  along_free damage w = clash cc

  pub hit_below : {s e : ℕ} → along (M.size m) (M.home m k) (path M m k) ≡ Ok (Hit s e) → s < M.size m
  hit_below w = along_hit (path M m k) refl w

  pub free_below : {s e : ℕ} → along (M.size m) (M.home m k) (path M m k) ≡ Ok (Free s e) → s < M.size m
  free_below w = along_free (path M m k) w

-- a store whose slots stand by marks, keys and values
module _ {K W : Type 0} (M : Store K W) (m : M.State) (mark : ℕ → ℕ) (key : ℕ → K) (v : ℕ → W) (stand : M.slots m ≡ cells_of mark key v) where
  -- the path over marks and keys is the path, in slots
  pub path_cells : (k : K) → along (M.size m) (M.home m k) (path M m k) ≡ along (M.size m) (M.home m k) (find M.keys (M.size m) (M.home m k) (keys_only mark key) k)
  unfolding path
  path_cells k = rw stand (find_cell mark key v M.keys (M.size m) (M.home m k) k)

  -- the value of a hit is what stands at its slot
  pub hit_value : (k : K) (n : ℕ) (w : W) → path M m k ≡ hit n w → w ≡ v (slot_at M m k n)
  unfolding path slot_at
  hit_value k n w e =
      let i = at (M.size m) (M.home m k) n in
      let q : M.slots m i ≡ cell (mark i) (key i) (v i) = ap (λ t. t i) stand in
      value_cell (key i) (v i) (mark i) k w (sym q ∙ (hit_at M.keys (M.size m) (M.home m k) (M.slots m) k n w e).1)

  module _ (k : K) where
    -- what a lookup answers
    seen_along : (x : Find W) → path M m k ≡ x → seen_by M m k x ≡ seen_of v (along (M.size m) (M.home m k) x)
    unfolding seen_by along slot_at
    seen_along (hit n w) q = rw (hit_value k n w q)
    seen_along (miss e f) q = by_bool (ltb f (M.size m)) (λ t. rw t) (λ t. rw t)
    seen_along damage q = refl

    pub seen_path : seen_by M m k (path M m k) ≡ seen_of v (along (M.size m) (M.home m k) (path M m k))
    seen_path = seen_along (path M m k) refl

    -- what entry and insert answer
    spot_along : (x : Find W) → path M m k ≡ x → spot_by M m k x ≡ spot_in (leb (M.weight k) (M.bytes m - used M m)) v (along (M.size m) (M.home m k) x)
    unfolding spot_by along slot_at need
    spot_along (hit n w) q = rw (hit_value k n w q)
    spot_along (miss e f) q = by_bool (ltb f (M.size m)) (λ t. rw t (by_bool (leb (M.weight k) (M.bytes m - used M m)) (λ r. rw r) (λ r. rw r))) (λ t. rw t)
    spot_along damage q = refl

    pub spot_path : spot_by M m k (path M m k) ≡ spot_in (leb (M.weight k) (M.bytes m - used M m)) v (along (M.size m) (M.home m k) (path M m k))
    spot_path = spot_along (path M m k) refl

  -- the scan is the store's own damage and length
  pub scanning_cells : scanning_of mark (M.size m) ≡ cond (damaged_slots M m) (Err refusal.Damaged) (Ok (live_count M m))
  unfolding scanning_of damaged_slots live_count
  scanning_cells = rw (stand, damaged_cells mark key v (M.size m), count_cells mark key v (M.size m))

  module _ {r : Result ℕ Refusal} (p : r ≡ scanning_of mark (M.size m)) where
    pub scan_bad : r ≡ Err refusal.Damaged → damaged_slots M m ≡ true
    scan_bad q = by_bool (damaged_slots M m) (λ h. h) (λ h. clash (cc (rw h at scanning_cells)))

    pub scan_live : {n : ℕ} → r ≡ Ok n → (damaged_slots M m ≡ false) × (live_count M m ≡ n) × (n ≤ M.size m)
    unfolding live_count
    scan_live {n} q = by_bool (damaged_slots M m)
        (λ h. clash (cc (rw h at scanning_cells)))
        (λ h. let w : Ok n ≡ Ok (live_count M m) = sym q ∙ p ∙ (rw h at scanning_cells) in
        let z : live_count M m ≡ n = cc in
        (h, z, omega (arith, count_high (M.slots m) (M.size m))))
