-- Laws of a walk's step: what an unrefused one passed, and when it is refused.
use Prim.Native.Nat.{ℕ, suc, ◌+◌, ◌-◌, ◌≤◌, ◌<◌, min}
use mathlib.Core.Bool.{true, false, not}
use mathlib.Core.Path.{◌≡◌, refl}
use native.Mathlib.Omega.{arith}
use borrow.Author.Tests.{leb-true, leb-false, eqb-false, not-true}
use lib.Dec.{leb, eqb}
use Rattle.model.specs.Slots.{Slot, never, freed, damaged, live, Table}
use Rattle.model.specs.Path.{from}
use Rattle.model.specs.Calls.{ok}
use Rattle.model.specs.Walk.{StepAnswer, pair, nothing, done, halts, halted, reach_of, step_within, pace, step}
use Rattle.model.proofs.Cases.{by_bool, by_lt, by_eq, clash}
use Rattle.model.proofs.Path.{from_low, from_before, from_here}
use Rattle.model.proofs.Accepted.{need_ok, pass_ok}

-- a step's reach: its budget, and no more than there are slots
pub reach_is : (S w b : ℕ) → reach_of S w b ≡ min b (S - w)
unfolding reach_of
reach_is S w b = by_bool (leb b (S - w)) (λ e. rw e (omega (arith, leb-true b (S - w) e))) (λ e. rw e (omega (arith, leb-false b (S - w) e)))

pub reach_low : (S w b : ℕ) → 0 < b → w < S → 0 < reach_of S w b
reach_low S w b l h = omega (arith, reach_is S w b)

pub reach_high : (S w b : ℕ) → reach_of S w b ≤ S - w
reach_high S w b = omega (arith, reach_is S w b)

pub reach_budget : (S w b : ℕ) → reach_of S w b ≤ b
reach_budget S w b = omega (arith, reach_is S w b)

budget_low : (b : ℕ) → not (eqb b 0) ≡ true → 0 < b
budget_low b e = by_lt 0 b (λ l x. l) (λ l x. absurd (eqb-false b 0 (not-true (eqb b 0) e) (omega arith)))

by_below : {w S : ℕ} → w ≤ S → (w ≡ S → ⊥) → w < S
by_below {w} {S} l q = by_lt w S (λ c x. c) (λ c x. absurd (q (omega arith)))

module _ {K W : Type 0} (S : ℕ) (t : Table K W) (w : ℕ) where
  -- what an unrefused step found: a live slot and none before it; none within b slots or up to S; or the walk's end
  pub data Strode (b : ℕ) (a : StepAnswer K W) : Type 0 where
    strode_pair : (j : ℕ) (k : K) (v : W) → w ≤ j → j < S → suc j - w ≤ b → t j ≡ live k v → ((i : ℕ) → w ≤ i → i < j → halts (t i) ≡ false) → a ≡ pair k v (suc j) (suc j - w) → Strode b a
    strode_nothing : (x : ℕ) → w < x → x ≤ S → x ≡ min (w + b) S → ((i : ℕ) → w ≤ i → i < x → halts (t i) ≡ false) → a ≡ nothing x (x - w) → Strode b a
    strode_done : w ≡ S → a ≡ done S → Strode b a

  halted_at : (j : ℕ) (s : Slot K W) (a : StepAnswer K W) → halts s ≡ true → halted w j s ≡ ok a → (k : K) × (v : W) × (s ≡ live k v) × (a ≡ pair k v (suc j) (suc j - w))
  unfolding halts halted
  halted_at j never a h e = clash cc
  halted_at j freed a h e = clash cc
  halted_at j damaged a h e = clash cc
  halted_at j (live k v) a h e = (k, v, refl, cc)

  paced_to : (b : ℕ) (a : StepAnswer K W) → 0 < b → w < S → step_within t w (reach_of S w b) ≡ ok a → Strode b a
  unfolding step_within
  paced_to b a h l e =
      let lo = from_low (λ i. halts (t i)) (reach_of S w b) w in
      let hi = reach_high S w b in
      by_lt (from (λ i. halts (t i)) (reach_of S w b) w) (w + reach_of S w b)
      (λ c p.
      let (k, v, q, r) = halted_at (from (λ i. halts (t i)) (reach_of S w b) w) (t (from (λ i. halts (t i)) (reach_of S w b) w)) a (from_here (λ i. halts (t i)) (reach_of S w b) w c) (rw p at e) in
      strode_pair (from (λ i. halts (t i)) (reach_of S w b) w) k v lo (omega arith) (omega (arith, reach_budget S w b)) q (λ i x y. from_before (λ i. halts (t i)) (reach_of S w b) w i x y) r)
      (λ c p.
      let r : ok (nothing (w + reach_of S w b) (reach_of S w b)) ≡ ok a = rw p at e in
      let d : w + reach_of S w b - w ≡ reach_of S w b = omega arith in
      strode_nothing (w + reach_of S w b) (omega (arith, reach_low S w b h l)) (omega arith) (omega (arith, reach_is S w b)) (λ i x y. from_before (λ i. halts (t i)) (reach_of S w b) w i x (omega arith)) (rw d (cc)))

  pub strode : (bar b : ℕ) (a : StepAnswer K W) → step S t bar w b ≡ ok a → Strode b a
  unfolding step pace step_within
  strode bar b a e =
      let x = need_ok (not (eqb b 0)) 3 _ a e in
      let y = need_ok (leb w S) 4 _ a x.1 in
      let z = pass_ok bar _ a y.1 in
      by_eq w S
      (λ q p. let r : ok (done w) ≡ ok a = rw p at z.1 in strode_done q (cc))
      (λ q p. paced_to b a (budget_low b x.0) (by_below (leb-true w S y.0) q) (rw p at z.1))
