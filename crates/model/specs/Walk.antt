-- A walk is a slot number. A step looks at the slots from there, within its budget.
use Rattle.std.specs.Prelude.{ℕ, suc, ◌+◌, ◌-◌, Bool, true, false, cond, not, ltb, leb, eqb}
use Rattle.model.specs.Slots.{Slot, never, freed, damaged, live, Table}
use Rattle.model.specs.Path.{from}
use Rattle.model.specs.Calls.{Or, no, ok, need, pass}

-- A step's answer: a pair with the walk moved on and the examined number, nothing with both, or done.
pub data StepAnswer (K W : Type 0) : Type 0 where
  pair : K → W → ℕ → ℕ → StepAnswer K W
  nothing : ℕ → ℕ → StepAnswer K W
  done : ℕ → StepAnswer K W

-- A slot at which a step stops: live, or damaged.
unfoldable pub halts : {K W : Type 0} → Slot K W → Bool
halts never = false
halts freed = false
halts damaged = true
halts (live a v) = true

-- What a step that began at w makes of the slot j at which it stopped.
unfoldable pub halted : {K W : Type 0} → ℕ → ℕ → Slot K W → Or (StepAnswer K W)
halted w j never = ok (nothing (suc j) (suc j - w))
halted w j freed = ok (nothing (suc j) (suc j - w))
halted w j damaged = no 5
halted w j (live a v) = ok (pair a v (suc j) (suc j - w))

-- The number of slots that a step may look at: its budget, and no more than there are.
unfoldable pub reach_of : ℕ → ℕ → ℕ → ℕ
reach_of S w b = cond (leb b (S - w)) b (S - w)

-- The slots of a step: up to the first live one, within the reach.
unfoldable pub step_within : {K W : Type 0} → Table K W → ℕ → ℕ → Or (StepAnswer K W)
step_within t w g =
    cond (ltb (from (λ i. halts (t i)) g w) (w + g))
    (halted w (from (λ i. halts (t i)) g w) (t (from (λ i. halts (t i)) g w)))
    (ok (nothing (w + g) g))

-- A walk at S is done; any other looks at its slots.
unfoldable pub pace : {K W : Type 0} → ℕ → Table K W → ℕ → ℕ → Or (StepAnswer K W)
pace S t w b = cond (eqb w S) (ok (done w)) (step_within t w (reach_of S w b))

-- A step's tests, in order: budget 0, a walk beyond S, a further refusal (0: none); then its slots.
unfoldable pub step : {K W : Type 0} → ℕ → Table K W → ℕ → ℕ → ℕ → Or (StepAnswer K W)
step S t bar w b = need (not (eqb b 0)) 3 (need (leb w S) 4 (pass bar (pace S t w b)))

-- The walk after a step: moved on, or as it came.
unfoldable pub moved_by : {K W : Type 0} → ℕ → Or (StepAnswer K W) → ℕ
moved_by w (no n) = w
moved_by w (ok (pair a v x e)) = x
moved_by w (ok (nothing x e)) = x
moved_by w (ok (done x)) = x
