-- A lent walk's step tells what the step of its walk tells, and leaves the walk that the step answers.
use Prim.Native.Nat.{ℕ}
use mathlib.Core.Path.{◌≡◌, refl, sym, ◌∙◌, ap}
use Rattle.model.specs.Calls.{Or, no, ok}
use Rattle.model.specs.Walk.{StepAnswer, pair, nothing, done, moved_by}
use Rattle.answers.specs.declared.Numbers.{Numbers}
use Rattle.answers.specs.Said.{step_said}
use Rattle.kinds.specs.Told.{told}
use Rattle.kinds.specs.Moved.{moved_on}

-- from the step's contract, with the walk of its answer
pub moved : {n m : Numbers} {w : ℕ} → n ≡ m → n.walk ≡ w → told n w ≡ moved_on m
unfolding moved_on
moved p q = λ i. told (p i) ((sym q ∙ ap (λ x. x.walk) p) i)

module _ {K W : Type 0} (hand : K → W → ℕ → ℕ → Numbers) (h : (k : K) (v : W) (x e : ℕ) → (hand k v x e).walk ≡ x) (w : ℕ) where
  -- the walk that a step's numbers tell is the walk after it
  walk_said : (a : Or (StepAnswer K W)) → (step_said hand w a).walk ≡ moved_by w a
  unfolding step_said moved_by
  walk_said (no n) = refl
  walk_said (ok (pair k v x e)) = h k v x e
  walk_said (ok (nothing x e)) = refl
  walk_said (ok (done x)) = refl

  -- the lent step's contract, read: the step's numbers, and the walk after the step
  pub moved_said : {n : Numbers} {l : ℕ} (a : Or (StepAnswer K W)) → told n l ≡ moved_on (step_said hand w a) → (n ≡ step_said hand w a) × (l ≡ moved_by w a)
  unfolding moved_on
  moved_said a p = (ap (λ x. x.numbers) p, ap (λ x. x.memory) p ∙ walk_said a)
