-- Lists of calls, each on a table by its number: what a published call carries out. The tables after them, what is known then, and which keys they remove on their way.
use Rattle.std.specs.Prelude.{ℕ, Bool, true, false, cond, ◌&&◌, List, [], ◌∷◌, ◌≡◌, eqb}
use Rattle.model.specs.Store.{Store}
use Rattle.model.specs.Finite.{is_some}
use Rattle.model.specs.Machine.{puts, Call, own, copies, World, answer, turned}
use Rattle.model.specs.Demand2.{refuses, Book, booked}
use Rattle.model.specs.Demand3.{look_in}
use Rattle.model.specs.Tables.{sweeps}

-- The pairs of a list, put into the table x one after the other.
unfoldable pub put_all : {K W : Type 0} → ℕ → List (K × W) → List (ℕ × Call K W)
put_all x [] = []
put_all x (p ∷ ps) = (x, own (puts p.0 p.1)) ∷ put_all x ps

module _ {K W : Type 0} (M : Store K W) where
  -- The tables after a list of calls.
  unfoldable pub run : World M → List (ℕ × Call K W) → World M
  run w [] = w
  run w (c ∷ cs) = run (turned M w c.0 c.1) cs

  -- Each of them is accepted in its turn.
  abbrev pub Accepted : World M → List (ℕ × Call K W) → Type 0
  Accepted w [] = Unit {0}
  Accepted w (c ∷ cs) = (refuses (answer M w c.0 c.1) ≡ false) × Accepted (turned M w c.0 c.1) cs

  -- The tables, and what is known of their maps, after a list of accepted calls.
  unfoldable pub booked_all : Book M → List (ℕ × Call K W) → Book M
  booked_all s [] = s
  booked_all s (c ∷ cs) = booked_all (booked M s c.0 c.1) cs

  -- Such a list counts as removing a key of the table x on its way: by a make or a clear of x or a copy onto it, or where the map of x lacks the key after one of the calls.
  unfoldable pub drops : ℕ → Book M → List (ℕ × Call K W) → K → Bool
  drops x s [] k = false
  drops x s (c ∷ cs) k = cond (eqb c.0 x && sweeps M c.1) true (cond (is_some (look_in ((booked M s c.0 c.1).maps x) k)) (drops x (booked M s c.0 c.1) cs k) true)

  -- A list copies nothing onto the table x from a table whose map is not known then.
  abbrev pub CopiesKnown : ℕ → Book M → List (ℕ × Call K W) → Type 0
  CopiesKnown x s [] = Unit {0}
  CopiesKnown x s (c ∷ cs) = ((y : ℕ) → c ≡ (x, copies y) → is_some (s.maps y) ≡ true) × CopiesKnown x (booked M s c.0 c.1) cs
