-- What a copied array holds.
use Rattle.std.specs.Prelude.{cond, List, eqb, length}

-- The other list where the lengths agree, else the list as it was.
unfoldable pub copied : {A : Type 0} → List A → List A → List A
copied to from = cond (eqb (length to) (length from)) from to
