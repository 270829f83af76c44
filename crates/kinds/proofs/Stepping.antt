-- A step of a walk is what it comes upon: at any store whose slots stand by marks, keys and values, and from the tests and callees of the code.
use Prim.Native.Nat.{ℕ, ◌+◌, ◌-◌, ◌≤◌, ◌<◌}
use mathlib.Core.Bool.{Bool, true, false}
use mathlib.Core.Path.{◌≡◌, refl, sym, ◌∙◌}
use native.Mathlib.Numerals.{add-one}
use native.Mathlib.Omega.{arith}
use borrow.Author.Tests.{eq-eqb, ne_eqb, le-leb, leb-true}
use lib.Dec.{leb, eqb}
use Rattle.model.specs.Store.{Store}
use Rattle.model.specs.Calls.{need, pass}
use Rattle.model.specs.Machine.{stepping}
use Rattle.model.specs.Walk.{reach_of, pace, step}
use Rattle.model.proofs.Cases.{by_bool, clash}
use Rattle.model.proofs.Walk.{reach_high}
use Rattle.answers.specs.Cases.{NOTHING, WALK-DONE}
use Rattle.answers.specs.declared.Numbers.{Numbers}
use Rattle.answers.specs.declared.Refusal.{Refusal}
use Rattle.answers.specs.declared.Refusal.TheVariants as refusal
use Rattle.answers.specs.Refusals.{number_of}
use Rattle.answers.specs.Said.{walked, step_said}
use Rattle.kinds.specs.Marks.{cells_of}
use Rattle.kinds.specs.Scanning.{nexting_of}
use Rattle.kinds.specs.Stepping.{way_of, ahead_by, ahead_on, ahead_of, stepped_by}
use Rattle.kinds.proofs.Bridge.{nexting_pace, next_inside}
use Rattle.std.specs.Prelude.{Result, Option, Ok, Err, Some, None}
use Rattle.kinds.specs.declared.Ahead.{Ahead}
use Rattle.kinds.specs.declared.Ahead.TheVariants.{Live, Nothing, Done}

module _ {K W : Type 0} (M : Store K W) (m : M.State) (mark : ℕ → ℕ) (key : ℕ → K) (v : ℕ → W) (stand : M.slots m ≡ cells_of mark key v) (w b : ℕ) where
  -- a step is what it comes upon
  pub stepping_ahead : stepping M m w b ≡ stepped_by key v w (ahead_of (M.sized m) mark (M.size m) w b)
  unfolding stepping step need pass pace way_of ahead_on ahead_of stepped_by
  stepping_ahead = rw stand (by_bool (M.sized m)
      (λ s. rw s (by_bool (eqb b 0)
      (λ z. rw z)
      (λ z. rw z (by_bool (leb w (M.size m))
      (λ l. rw l (by_bool (eqb w (M.size m))
      (λ e. rw e)
      (λ e. rw e (nexting_pace mark key v w (reach_of (M.size m) w b)))))
      (λ l. rw l)))))
      (λ s. rw s))

  -- and so are its numbers, by what the code came upon
  module _ (hand : K → W → ℕ → ℕ → Numbers) {r : Result Ahead Refusal} (p : r ≡ ahead_of (M.sized m) mark (M.size m) w b) where
    said_ahead : {x : Result Ahead Refusal} → r ≡ x → step_said hand w (stepped_by key v w x) ≡ step_said hand w (stepping M m w b)
    said_ahead q = rw (stepping_ahead, ← p, q)

    pub said_live : {j : ℕ} → r ≡ Ok (Live j) → hand (key j) (v j) (j + 1) (j + 1 - w) ≡ step_said hand w (stepping M m w b)
    unfolding stepped_by step_said
    said_live {j} q = rw (add-one j) (said_ahead q)

    pub said_nothing : {x : ℕ} → r ≡ Ok (Nothing x) → walked 0 NOTHING 0 0 (x - w) x ≡ step_said hand w (stepping M m w b)
    unfolding stepped_by step_said
    said_nothing q = said_ahead q

    pub said_done : r ≡ Ok Done → walked 0 WALK-DONE 0 0 0 w ≡ step_said hand w (stepping M m w b)
    unfolding stepped_by step_said
    said_done q = said_ahead q

    pub said_refused : {x : Refusal} → r ≡ Err x → walked (number_of x) 0 0 0 0 w ≡ step_said hand w (stepping M m w b)
    unfolding stepped_by step_said
    said_refused q = said_ahead q

-- what the code came upon is what its definition says, by its tests and callees
module _ (sized : Bool) (mark : ℕ → ℕ) (S w b : ℕ) where
  pub ahead_unsized : sized ≡ false → Err refusal.Sizes ≡ ahead_of sized mark S w b
  unfolding ahead_of
  ahead_unsized e = rw e

  pub ahead_sized : {r : Result Ahead Refusal} → sized ≡ true → r ≡ ahead_of true mark S w b → r ≡ ahead_of sized mark S w b
  ahead_sized e p = rw e p

  module _ (e : sized ≡ true) {s : Result (Option ℕ) Refusal} (p : s ≡ way_of S w b) where
    pub ahead_done : s ≡ Ok None → (Ok Done) ≡ ahead_of sized mark S w b
    unfolding ahead_of ahead_on
    ahead_done q = rw (e, ← p, q)

    pub ahead_refused : {x : Refusal} → s ≡ Err x → Err x ≡ ahead_of sized mark S w b
    unfolding ahead_of ahead_on
    ahead_refused q = rw (e, ← p, q)

    pub ahead_upto : {z : ℕ} {n : Result (Option ℕ) Refusal} {r : Result Ahead Refusal} → s ≡ Ok (Some z) → n ≡ nexting_of mark w z → r ≡ ahead_by z n → r ≡ ahead_of sized mark S w b
    unfolding ahead_of ahead_on
    ahead_upto q f g = rw (e, ← p, q, ← f) g

-- a step's stretch, by its tests; its reach is among the slots, and so is the stretch
module _ (S w b : ℕ) where
  pub reach_inside : {g : ℕ} → w < S → g ≡ reach_of S w b → w + g ≤ S
  reach_inside l e = omega (arith, reach_high S w b)

  pub way_upto : {g : ℕ} → (b ≡ 0 → ⊥) → w < S → g ≡ reach_of S w b → Ok (Some (w + g)) ≡ way_of S w b
  unfolding way_of
  way_upto h l e = rw (ne_eqb b 0 h, le-leb w S (omega arith), ne_eqb w S (λ z. omega arith), e)

  pub way_done : (b ≡ 0 → ⊥) → S ≤ w → w ≤ S → (Ok None) ≡ way_of S w b
  unfolding way_of
  way_done h l k = rw (ne_eqb b 0 h, le-leb w S k, eq-eqb w S (omega arith))

pub way_inside : (S w b : ℕ) {s : Result (Option ℕ) Refusal} {z : ℕ} → s ≡ way_of S w b → s ≡ Ok (Some z) → (w ≤ z) × (z ≤ S)
unfolding way_of
way_inside S w b {s} {z} p q = by_bool (eqb b 0)
    (λ e. clash (cc (rw e at (sym p ∙ q))))
    (λ e. by_bool (leb w S)
    (λ l. by_bool (eqb w S)
    (λ d. clash (cc (rw (e, l, d) at (sym p ∙ q))))
    (λ d. let u : Ok (Some (w + reach_of S w b)) ≡ Ok (Some z) = rw (e, l, d) at (sym p ∙ q) in
    let t : w + reach_of S w b ≡ z = cc in
    (omega arith, omega (arith, reach_high S w b, leb-true w S l))))
    (λ l. clash (cc (rw (e, l) at (sym p ∙ q)))))

by_nothing : {e x : ℕ} (n : Result (Option ℕ) Refusal) → ahead_by e n ≡ Ok (Nothing x) → e ≡ x
unfolding ahead_by
by_nothing (Ok (Some i)) q = clash cc
by_nothing (Err r) q = clash cc
by_nothing (Ok None) q = cc

module _ (mark : ℕ → ℕ) (w : ℕ) where
  by_live : {e j : ℕ} (n : Result (Option ℕ) Refusal) → n ≡ nexting_of mark w e → ahead_by e n ≡ Ok (Live j) → (w ≤ j) × (j < e)
  unfolding ahead_by
  by_live {e} {j} (Ok (Some i)) p q = let t : i ≡ j = cc in let (a, c) = next_inside mark w e p refl in (omega arith, omega arith)
  by_live (Err r) p q = clash cc
  by_live (Ok None) p q = clash cc

  module _ (S b : ℕ) where
    on_live : {j : ℕ} (s : Result (Option ℕ) Refusal) → s ≡ way_of S w b → ahead_on mark w s ≡ Ok (Live j) → (w ≤ j) × (j < S)
    unfolding ahead_on
    on_live {j} (Ok (Some e)) p q = let (a, c) = way_inside S w b p refl in let (d, f) = by_live (nexting_of mark w e) refl q in (d, omega arith)
    on_live (Ok None) p q = clash cc
    on_live (Err x) p q = clash cc

    on_nothing : {x : ℕ} (s : Result (Option ℕ) Refusal) → s ≡ way_of S w b → ahead_on mark w s ≡ Ok (Nothing x) → w ≤ x
    unfolding ahead_on
    on_nothing (Ok (Some e)) p q = let (a, c) = way_inside S w b p refl in let t = by_nothing (nexting_of mark w e) q in omega arith
    on_nothing (Ok None) p q = clash cc
    on_nothing (Err x) p q = clash cc

    module _ (sized : Bool) {r : Result Ahead Refusal} (p : r ≡ ahead_of sized mark S w b) where
      -- a live slot that a step comes upon is one of the table's, from the walk on, and the sizes are right
      pub live_inside : {j : ℕ} → r ≡ Ok (Live j) → (sized ≡ true) × (w ≤ j) × (j < S)
      unfolding ahead_of
      live_inside {j} q = by_bool sized
          (λ e. let (a, c) = on_live (way_of S w b) refl (rw e at (sym p ∙ q)) in (e, a, c))
          (λ e. clash (cc (rw e at (sym p ∙ q))))

      -- where it comes upon none, the walk stands no lower than before
      pub nothing_inside : {x : ℕ} → r ≡ Ok (Nothing x) → w ≤ x
      unfolding ahead_of
      nothing_inside {x} q = by_bool sized
          (λ e. on_nothing (way_of S w b) refl (rw e at (sym p ∙ q)))
          (λ e. clash (cc (rw e at (sym p ∙ q))))
