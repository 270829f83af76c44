-- A walk with no call in between: upstream's clauses for iter, keys and values.
use mathlib.Core.List.{List, [], ◌∷◌, Memᴰ}
use Rattle.std.proofs.Math.Option.{some}
use Rattle.std.specs.Prelude.{◌≡◌, length}
use Rattle.model.specs.Slots.{Keys}
use Rattle.model.specs.Finite.{Finite, contains, member, len, Once, firsts}
use Rattle.model.specs.Demand3.{Event, steps}

-- These steps, and nothing between them.
unfoldable pub only_steps : {S C : Type 0} → List S → List (Event S C)
only_steps [] = []
only_steps (b ∷ bs) = steps b ∷ only_steps bs

-- The values of a list of pairs.
unfoldable pub seconds : {K W : Type 0} → List (K × W) → List W
seconds [] = []
seconds (p ∷ ps) = p.1 ∷ seconds ps

-- The pairs ps are those of the map f, each once.
pub record Iterated {K W : Type 0} (E : Keys K) (f : Finite K W) (ps : List (K × W)) : Type 0 where
  -- iter: as many as the map has keys; each is in the map; each of the map is there; none twice
  pub all : length ps ≡ len f
  pub right : (k : K) (v : W) → Memᴰ (k, v) ps → f.look k ≡ some v
  pub there : (k : K) (v : W) → f.look k ≡ some v → Memᴰ (k, v) ps
  pub once : Once E (firsts ps)
  -- keys: the map's keys, each once, as many as the map has
  pub keys : (k : K) → member E k (firsts ps) ≡ contains f k
  pub keys_all : length (firsts ps) ≡ len f
  -- values: each value once for each key that has it
  pub values : (v : W) → Memᴰ v (seconds ps) → (k : K) × (f.look k ≡ some v)
  pub values_there : (k : K) (v : W) → f.look k ≡ some v → Memᴰ v (seconds ps)
  pub values_all : length (seconds ps) ≡ len f
