-- A step of a walk is what it comes upon, at any store.
use Rattle.std.specs.Prelude.{Result, Ok, Err, Option, Some, None}
use Rattle.std.proofs.Common.{ℕ, suc, ◌+◌, ◌-◌, ◌≤◌, ◌<◌, true, leb, eqb, ◌≡◌, refl, sym, ◌∙◌, ap}
use native.Mathlib.Numerals.{add-one}
use native.Mathlib.Omega.{arith}
use Rattle.model.specs.Slots.{Slot, never, freed, damaged, live, Table}
use Rattle.model.specs.Path.{from}
use Rattle.model.specs.Store.{Store}
use Rattle.model.specs.Calls.{Or, no, ok, need, pass}
use Rattle.model.specs.Machine.{stepping}
use Rattle.model.specs.Walk.{StepAnswer, nothing, done, halts, halted, reach_of, step_within, pace, step}
use Rattle.model.proofs.Cases.{by_bool, by_lt, clash}
use Rattle.model.proofs.Path.{from_low, from_here}
use Rattle.answers.specs.Cases.{NOTHING, WALK-DONE}
use Rattle.answers.specs.Refusals.{number_of}
use Rattle.answers.specs.Said.{walked, step_said}
use Rattle.answers.specs.declared.Refusal.{Refusal}
use Rattle.kinds.specs.Scanning.{next_at}
use Rattle.kinds.specs.Stepping.{way_of, ahead_by}
use Rattle.kinds.specs.declared.Ahead.{Ahead}
use Rattle.kinds.specs.declared.Ahead.TheVariants.{Live, Nothing, Done}
use Rattle.kinds.proofs.Stepping.{way_inside}
use Rattle.tables.specs.Handing.{Parts, part_numbers, handing}
use Rattle.tables.specs.Reading.{come_upon, coming, next_in, nexting}

module _ {K W : Type 0} where
  -- what a step from w answers that came upon this
  unfoldable stepped_in : Table K W → ℕ → Result Ahead Refusal → Or (StepAnswer K W)
  stepped_in t w (Ok (Live j)) = halted w j (t j)
  stepped_in t w (Ok (Nothing x)) = ok (nothing x (x - w))
  stepped_in t w (Ok Done) = ok (done w)
  stepped_in t w (Err r) = no (number_of r)

  -- a slot at which a stretch stops
  stopped : (t : Table K W) (w e j : ℕ) (s : Slot K W) → t j ≡ s → halts s ≡ true → halted w j s ≡ stepped_in t w (ahead_by e (next_at j s))
  unfolding halts halted next_at ahead_by stepped_in
  stopped t w e j never q h = clash cc
  stopped t w e j freed q h = clash cc
  stopped t w e j damaged q h = refl
  stopped t w e j (live a v) q h = rw q

  within_is : (t : Table K W) (w g : ℕ) → step_within t w g ≡ stepped_in t w (ahead_by (w + g) (next_in t w (w + g)))
  unfolding step_within next_in ahead_by stepped_in
  within_is t w g =
      let d : w + g - w ≡ g = omega arith in
      let j = from (λ i. halts (t i)) g w in
      rw d (by_lt j (w + g)
      (λ l e. rw e (stopped t w (w + g) j (t j) refl (from_here (λ i. halts (t i)) g w l)))
      (λ l e. rw (e, d)))

module _ {K W : Type 0} (M : Store K W) (m : M.State) (w b : ℕ) where
  stepping_is : M.sized m ≡ true → stepping M m w b ≡ stepped_in (M.slots m) w (coming M m w b)
  unfolding stepping step need pass pace way_of come_upon coming nexting stepped_in
  stepping_is z = rw z (by_bool (eqb b 0)
      (λ e. rw e)
      (λ e. rw e (by_bool (leb w (M.size m))
      (λ l. rw l (by_bool (eqb w (M.size m))
      (λ d. rw d)
      (λ d. rw d (within_is (M.slots m) w (reach_of (M.size m) w b)))))
      (λ l. rw l))))

-- a live slot that stands first in the stretch from w to e
pub record Stands {K W : Type 0} (t : Table K W) (w e j : ℕ) : Type 0 where
  pub from_there : w ≤ j
  pub before : j < e
  pub key : K
  pub word : W
  pub holds : t j ≡ live key word

module _ {K W : Type 0} (t : Table K W) (w : ℕ) where
  at_slot : {e x j : ℕ} → w ≤ x → x < e → (s : Slot K W) → t x ≡ s → next_at x s ≡ Ok (Some j) → Stands t w e j
  unfolding next_at
  at_slot a b never h q = clash cc
  at_slot a b freed h q = clash cc
  at_slot a b damaged h q = clash cc
  at_slot {e} {x} {j} a b (live k v) h q = let z : j ≡ x = cc in record { from_there = omega arith; before = omega arith; key = k; word = v; holds = ap t z ∙ h }

  first_live : (e : ℕ) {j : ℕ} → next_in t w e ≡ Ok (Some j) → Stands t w e j
  unfolding next_in
  first_live e {j} q =
      let x = from (λ i. halts (t i)) (e - w) w in
      by_lt x e
      (λ l p. at_slot (from_low (λ i. halts (t i)) (e - w) w) l (t x) refl (rw p at q))
      (λ l p. clash (cc (rw p at q)))

  on_live : {e j : ℕ} (n : Result (Option ℕ) Refusal) → next_in t w e ≡ n → ahead_by e n ≡ Ok (Live j) → Stands t w e j
  unfolding ahead_by
  on_live {e} {j} (Ok (Some i)) p q = let z : i ≡ j = cc in first_live e (p ∙ ap (λ x. Ok (Some x)) z)
  on_live (Ok None) p q = clash cc
  on_live (Err r) p q = clash cc

  on_nothing : {e x : ℕ} (n : Result (Option ℕ) Refusal) → ahead_by e n ≡ Ok (Nothing x) → e ≡ x
  unfolding ahead_by
  on_nothing (Ok (Some i)) q = clash cc
  on_nothing (Ok None) q = cc
  on_nothing (Err r) q = clash cc

module _ {K W : Type 0} (M : Store K W) (m : M.State) (w b : ℕ) where
  come_live : {j : ℕ} (s : Result (Option ℕ) Refusal) → s ≡ way_of (M.size m) w b → come_upon M m w s ≡ Ok (Live j) → Stands (M.slots m) w (M.size m) j
  unfolding come_upon nexting
  come_live (Ok (Some e)) p q =
      let (a, c) = way_inside (M.size m) w b p refl in
      let z = on_live (M.slots m) w (next_in (M.slots m) w e) refl q in
      record { from_there = z.from_there; before = omega (arith, z.before, c); key = z.key; word = z.word; holds = z.holds }
  come_live (Ok None) p q = clash cc
  come_live (Err r) p q = clash cc

  come_nothing : {x : ℕ} (s : Result (Option ℕ) Refusal) → s ≡ way_of (M.size m) w b → come_upon M m w s ≡ Ok (Nothing x) → w ≤ x
  unfolding come_upon nexting
  come_nothing {x} (Ok (Some e)) p q =
      let (a, c) = way_inside (M.size m) w b p refl in
      let z : e ≡ x = on_nothing (M.slots m) w (next_in (M.slots m) w e) q in
      omega (arith, a, z)
  come_nothing (Ok None) p q = clash cc
  come_nothing (Err r) p q = clash cc

  module _ {r : Result Ahead Refusal} (p : r ≡ coming M m w b) where
    -- a live slot that a step comes upon is one of the table's, from the walk on
    pub live_slot : {j : ℕ} → r ≡ Ok (Live j) → Stands (M.slots m) w (M.size m) j
    unfolding coming
    live_slot q = come_live (way_of (M.size m) w b) refl (sym p ∙ q)

    -- where it comes upon none, the walk stands no lower than before
    pub nothing_slot : {x : ℕ} → r ≡ Ok (Nothing x) → w ≤ x
    unfolding coming
    nothing_slot q = come_nothing (way_of (M.size m) w b) refl (sym p ∙ q)

    -- and so are its numbers
    module _ (sized : M.sized m ≡ true) (tells : K → W → ℕ → Parts) where
      said : {x : Result Ahead Refusal} → r ≡ x → step_said (handing tells) w (stepped_in (M.slots m) w x) ≡ step_said (handing tells) w (stepping M m w b)
      said q = rw (stepping_is M m w b sized, ← p, q)

      pub said_live : {j : ℕ} (a : Parts) → r ≡ Ok (Live j) → ((k : K) (v : W) → M.slots m j ≡ live k v → a ≡ tells k v j) → part_numbers a (j + 1) (j + 1 - w) ≡ step_said (handing tells) w (stepping M m w b)
      unfolding stepped_in halted step_said
      said_live {j} a q f =
          let z = live_slot q in
          let d : suc j - 1 ≡ j = omega arith in
          rw (← said q, z.holds, f z.key z.word z.holds, add-one j, d)

      pub said_nothing : {x : ℕ} → r ≡ Ok (Nothing x) → walked 0 NOTHING 0 0 (x - w) x ≡ step_said (handing tells) w (stepping M m w b)
      unfolding stepped_in step_said
      said_nothing q = said q

      pub said_done : r ≡ Ok Done → walked 0 WALK-DONE 0 0 0 w ≡ step_said (handing tells) w (stepping M m w b)
      unfolding stepped_in step_said
      said_done q = said q

      pub said_refused : {y : Refusal} → r ≡ Err y → walked (number_of y) 0 0 0 0 w ≡ step_said (handing tells) w (stepping M m w b)
      unfolding stepped_in step_said
      said_refused q = said q
