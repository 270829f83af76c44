-- The published calls of sets, over the kind of key, and the one call of the theory that each is.
use Rattle.std.specs.Prelude.{ℕ}
use Rattle.model.specs.Machine as model

-- A set's calls: budgets are numbers, another table is its number, and R is what reserve is asked for.
pub data SetCall (K R : Type 0) : Type 0 where
  make clear capacity len is_empty : SetCall K R
  reserve : R → SetCall K R
  copy : ℕ → SetCall K R
  get contains insert remove : K → SetCall K R
  step : ℕ → ℕ → SetCall K R

-- The one call of the theory that it is, by the keys and bytes that reserve is asked for: a set's key has no value.
unfoldable pub set_one : {K R : Type 0} → (R → ℕ × ℕ) → SetCall K R → model.Call K (Unit {0})
set_one asked make = model.own model.makes
set_one asked clear = model.own model.clears
set_one asked capacity = model.own model.capacities
set_one asked len = model.own model.lens
set_one asked is_empty = model.own model.empties
set_one asked (reserve r) = model.own (model.reserves (asked r).0 (asked r).1)
set_one asked (get k) = model.own (model.gets k)
set_one asked (contains k) = model.own (model.contains_keys k)
set_one asked (insert k) = model.own (model.inserts k tt)
set_one asked (remove k) = model.own (model.removes k)
set_one asked (copy y) = model.copies y
set_one asked (step at budget) = model.steps at budget
