-- Finite maps, as upstream's contracts speak of them: what each key maps to, and the keys listed.
use Rattle.std.specs.Prelude.{ℕ, ◌+◌, Bool, true, false, cond, not, List, [], ◌∷◌, ◌++◌, ◌≡◌}
use Rattle.std.proofs.Math.Option.{Option, none, some}
use Rattle.model.specs.Slots.{Keys, Table, pairs, look as look_in}

-- A map gives each key a value or none, and lists the keys that have one.
pub record Finite (K W : Type 0) : Type 0 where
  pub look : K → Option W
  pub dom : List K

-- Whether an option has a value.
unfoldable pub is_some : {W : Type 0} → Option W → Bool
is_some none = false
is_some (some v) = true

-- The first option that has a value.
unfoldable pub or_else : {W : Type 0} → Option W → Option W → Option W
or_else none o = o
or_else (some v) o = some v

-- Whether a key is in the map.
unfoldable pub contains : {K W : Type 0} → Finite K W → K → Bool
contains f k = is_some (f.look k)

-- Whether a key stands in a list.
unfoldable pub member : {K : Type 0} → Keys K → K → List K → Bool
member E k [] = false
member E k (a ∷ ks) = cond (E.same k a) true (member E k ks)

-- No key stands twice in the list.
pub data Once {K : Type 0} (E : Keys K) : List K → Type 0 where
  once_none : Once E []
  once_more : {k : K} {ks : List K} → member E k ks ≡ false → Once E ks → Once E (k ∷ ks)

-- The list has just the map's keys, each once.
pub record Proper {K W : Type 0} (E : Keys K) (f : Finite K W) : Type 0 where
  pub listed : (k : K) → member E k f.dom ≡ contains f k
  pub once : Once E f.dom

-- The sum of the keys' weights.
unfoldable pub mass : {K : Type 0} → (K → ℕ) → List K → ℕ
mass g [] = 0
mass g (k ∷ ks) = g k + mass g ks

-- The number of keys.
unfoldable pub len : {K W : Type 0} → Finite K W → ℕ
len f = mass (λ k. 1) f.dom

-- The keys of a list that pass a test.
unfoldable pub select : {K : Type 0} → (K → Bool) → List K → List K
select p [] = []
select p (k ∷ ks) = cond (p k) (k ∷ select p ks) (select p ks)

-- The map with no key.
unfoldable pub empty : {K W : Type 0} → Finite K W
empty = record { look = λ a. none; dom = [] }

-- The map with k mapped to v.
unfoldable pub insert : {K W : Type 0} → Keys K → Finite K W → K → W → Finite K W
insert E f k v = record {
  look = λ a. cond (E.same a k) (some v) (f.look a);
  dom = cond (contains f k) f.dom (k ∷ f.dom);
}

-- The map without k.
unfoldable pub remove : {K W : Type 0} → Keys K → Finite K W → K → Finite K W
remove E f k = record {
  look = λ a. cond (E.same a k) none (f.look a);
  dom = select (λ a. not (E.same a k)) f.dom;
}

-- The union: of a key of both the right's value.
unfoldable pub union_prefer_right : {K W : Type 0} → Finite K W → Finite K W → Finite K W
union_prefer_right f g = record {
  look = λ a. or_else (g.look a) (f.look a);
  dom = select (λ a. not (contains f a)) g.dom ++ f.dom;
}

-- The keys of a list of pairs.
unfoldable pub firsts : {K W : Type 0} → List (K × W) → List K
firsts [] = []
firsts (p ∷ ps) = p.0 ∷ firsts ps

-- The value of the last pair with the key.
unfoldable pub last_in : {K W : Type 0} → Keys K → K → List (K × W) → Option W
last_in E k [] = none
last_in E k (p ∷ ps) = or_else (last_in E k ps) (cond (E.same k p.0) (some p.1) none)

-- The map with each pair of a list inserted, in its order.
unfoldable pub insert_all : {K W : Type 0} → Keys K → Finite K W → List (K × W) → Finite K W
insert_all E f [] = f
insert_all E f (p ∷ ps) = insert_all E (insert E f p.0 p.1) ps

-- The finite map of a table of S slots: its map, and its live keys in slot order.
unfoldable pub finite_of : {K W : Type 0} → Keys K → Table K W → ℕ → Finite K W
finite_of E t S = record { look = λ k. look_in E t S k; dom = firsts (pairs t S) }
