-- Calls of which each is one call of the theory, as published calls: they pay what published calls owe.
use Prim.Native.Nat.{ℕ, ◌<◌}
use mathlib.Core.Bool.{true, false, not}
use mathlib.Core.List.{[], ◌∷◌}
use mathlib.Core.Path.{◌≡◌, sym, ◌∙◌, ap}
use borrow.Author.Tests.{ne_eqb}
use lib.Dec.{eqb}
use Rattle.model.specs.Store.{Store}
use Rattle.model.specs.Machine as model
use Rattle.model.specs.Machine.{World, placed, turned}
use Rattle.model.specs.Runs.{run, Accepted}
use Rattle.model.proofs.Cases.{by_bool}
use Rattle.model.proofs.Demand1
use Rattle.model.proofs.Least.{refused_still}
use Rattle.model.proofs.Numbered.{told_refused}
use Rattle.model.proofs.Runs.{placed_same}
use Rattle.answers.specs.declared.Numbers.{Numbers}
use Rattle.kinds.specs.Published.{Simple, alone, simply, SimplyLinked, Linked}

-- An accepted call carries out the one call that it is.
pub alone_accepted : {K W : Type 0} (x : ℕ) (n : Numbers) (c : model.Call K W) → n.refusal ≡ 0 → alone x n c ≡ (x, c) ∷ []
unfolding alone
alone_accepted x n c e = rw e

-- Calls of which each is one call of the theory are linked to what they carry out.
module _ {K W : Type 0} (M : Store K W) (homes : (m : M.State) (k : K) → M.sized m ≡ true → M.home m k < M.size m) (P : Simple M) (N : SimplyLinked M P) where
  -- a refused call leaves its table
  simple_same : (w : World M) (x : ℕ) (c : P.Call) → eqb (P.told_by w x c).numbers.refusal 0 ≡ false → (P.told_by w x c).memory ≡ w x
  simple_same w x c e = N.memory w x c ∙ refused_still M w x (P.one w x c) (told_refused M w x (P.one w x c) ∙ ap not (ap (λ n. eqb n 0) (sym (N.number w x c)) ∙ e))

  simple_accepted : (w : World M) (x : ℕ) (c : P.Call) → Accepted M w (alone x (P.told_by w x c).numbers (P.one w x c))
  unfolding alone
  simple_accepted w x c = by_bool (eqb (P.told_by w x c).numbers.refusal 0)
      (λ e. rw e (told_refused M w x (P.one w x c) ∙ ap not (ap (λ n. eqb n 0) (sym (N.number w x c)) ∙ e), tt))
      (λ e. rw e tt)

  simple_memory : (w : World M) (x : ℕ) (c : P.Call) → placed w x (P.told_by w x c).memory ≡ run M w (alone x (P.told_by w x c).numbers (P.one w x c))
  unfolding alone run turned
  simple_memory w x c = by_bool (eqb (P.told_by w x c).numbers.refusal 0)
      (λ e. rw e (ap (placed w x) (N.memory w x c)))
      (λ e. rw e (ap (placed w x) (simple_same w x c e) ∙ placed_same w x))

  pub simply_linked : Linked M (simply P)
  unfolding alone
  simply_linked = record {
    first = λ w x c. rw (N.number w x c) (Demand1.demand_1 M homes w x (P.one w x c));
    accepted = simple_accepted;
    memory = simple_memory;
    still = λ w x c a h. rw (ne_eqb (P.told_by w x c).numbers.refusal 0 h);
    hears = N.hears;
    lends = N.lends;
  }
