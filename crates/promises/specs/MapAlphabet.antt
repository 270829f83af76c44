-- The published calls of maps, over the kind of key, and the one call of the theory that each is.
use Rattle.std.specs.Prelude.{ℕ}
use Rattle.model.specs.Calls.{Handle}
use Rattle.model.specs.Machine as model

-- A map's calls: values, slots and budgets are numbers, another table is its number, R is what reserve is asked for, and E is the answer of entry.
pub data MapCall (K R E : Type 0) : Type 0 where
  make clear capacity len is_empty : MapCall K R E
  reserve : R → MapCall K R E
  copy union_prefer_right : ℕ → MapCall K R E
  get contains_key remove entry : K → MapCall K R E
  insert : K → ℕ → MapCall K R E
  occupied_get occupied_remove occupied_remove_entry : ℕ → K → MapCall K R E
  step : ℕ → ℕ → MapCall K R E
  occupied_set vacant_insert : ℕ → K → ℕ → MapCall K R E
  or_insert insert_entry : E → K → ℕ → MapCall K R E

-- The one call of the theory that it is, by the keys and bytes that reserve is asked for, and the handle that an entry answer is.
unfoldable pub map_one : {K R E : Type 0} → (R → ℕ × ℕ) → (E → Handle) → MapCall K R E → model.Call K ℕ
map_one asked handle make = model.own model.makes
map_one asked handle clear = model.own model.clears
map_one asked handle capacity = model.own model.capacities
map_one asked handle len = model.own model.lens
map_one asked handle is_empty = model.own model.empties
map_one asked handle (reserve r) = model.own (model.reserves (asked r).0 (asked r).1)
map_one asked handle (get k) = model.own (model.gets k)
map_one asked handle (contains_key k) = model.own (model.contains_keys k)
map_one asked handle (remove k) = model.own (model.removes k)
map_one asked handle (entry k) = model.own (model.entries k)
map_one asked handle (copy y) = model.copies y
map_one asked handle (union_prefer_right y) = model.unions y
map_one asked handle (insert k v) = model.own (model.inserts k v)
map_one asked handle (occupied_get s k) = model.own (model.occupied_gets s k)
map_one asked handle (occupied_remove s k) = model.own (model.occupied_removes s k)
map_one asked handle (occupied_remove_entry s k) = model.own (model.occupied_removes s k)
map_one asked handle (step at budget) = model.steps at budget
map_one asked handle (occupied_set s k v) = model.own (model.occupied_sets s k v)
map_one asked handle (vacant_insert s k v) = model.own (model.vacant_inserts s k v)
map_one asked handle (or_insert e k v) = model.own (model.or_inserts (handle e) k v)
map_one asked handle (insert_entry e k v) = model.own (model.insert_entries (handle e) k v)
