-- Worked numbers as rows: each call, and what it tells and leaves.
use Rattle.std.specs.Prelude.{List, [], ◌∷◌, ◌≡◌}
use Rattle.kinds.specs.Told.{ToldAndLeft}

-- A row: the call, and what it tells and leaves.
pub record Row (O M : Type 0) : Type 0 where
  pub order : O
  pub tells : ToldAndLeft M

module _ {O M : Type 0} where
  -- The calls of the rows.
  unfoldable pub orders : List (Row O M) → List O
  orders [] = []
  orders (r ∷ rs) = r.order ∷ orders rs

  -- What they tell and leave.
  unfoldable pub answers : List (Row O M) → List (ToldAndLeft M)
  answers [] = []
  answers (r ∷ rs) = r.tells ∷ answers rs

  -- What the calls of a list tell and leave, one after the other.
  unfoldable pub trace : (M → O → ToldAndLeft M) → M → List O → List (ToldAndLeft M)
  trace done m [] = []
  trace done m (o ∷ os) = done m o ∷ trace done (done m o).memory os

  -- Every row holds: its call tells and leaves what it says.
  abbrev pub Holds : (M → O → ToldAndLeft M) → M → List (Row O M) → Type 0
  Holds done before rows = trace done before (orders rows) ≡ answers rows
