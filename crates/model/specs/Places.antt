-- Which lent places the rule of an accepted call names, and what it means that a call changes no other.
use Rattle.std.specs.Prelude.{ℕ, ◌+◌, ◌≤◌, ◌<◌, Bool, true, false, cond, ◌&&◌, List, [], ◌∷◌, ◌≡◌, ltb, eqb}
use Rattle.model.specs.Slots.{live, pairs}
use Rattle.model.specs.Path.{Find, hit, miss, damage}
use Rattle.model.specs.Store.{Store, path, slot_at, used}
use Rattle.model.specs.Calls.{Or, no, ok, Seen, found, absent, Spot, occupied, vacant, Handle, on_occupied, on_vacant, entry, put_spot, remove, capacity, copy, rule, union, occupied_get, occupied_remove, vacancy}
use Rattle.model.specs.Machine.{Own, makes, clears, capacities, lens, empties, reserves, gets, contains_keys, removes, entries, inserts, puts, occupied_gets, occupied_removes, occupied_sets, vacant_inserts, or_inserts, insert_entries, Call, own, copies, unions, steps, World, left, turned}

-- The lent places of a store, what stands in each, and which of them each write names.
pub record Places {K W : Type 0} (M : Store K W) : Type 1 where
  pub Place : Type 0
  pub Word : Type 0
  pub word : M.State → Place → Word
  -- a live slot's value written over
  pub over_names : ℕ → Place → Bool
  -- a free slot filled with a key
  pub fill_names : M.State → ℕ → K → Place → Bool
  -- a live slot freed
  pub free_names : M.State → ℕ → Place → Bool

-- Each write changes only the places that it names.
pub record Apart {K W : Type 0} (M : Store K W) (P : Places M) : Type 0 where
  pub over_apart : (m : M.State) (i : ℕ) (v : W) (p : P.Place) → P.over_names i p ≡ false → P.word (M.over m i v) p ≡ P.word m p
  pub fill_apart : (m : M.State) (i : ℕ) (k : K) (v : W) (p : P.Place) → M.sized m ≡ true → M.damaged_fully m ≡ false → i < M.size m → used M m + M.weight k ≤ M.bytes m → P.fill_names m i k p ≡ false → P.word (M.fill m i k v) p ≡ P.word m p
  pub free_apart : (m : M.State) (i : ℕ) (k : K) (w : W) (p : P.Place) → M.sized m ≡ true → M.damaged_fully m ≡ false → i < M.size m → M.slots m i ≡ live k w → P.free_names m i p ≡ false → P.word (M.free m i) p ≡ P.word m p

-- Whether an accepted call names a place; a refused one names none.
unfoldable pub accepted : {A : Type 0} → Or A → Bool → Bool
accepted (no n) b = false
accepted (ok a) b = b

module _ {K W : Type 0} (M : Store K W) (P : Places M) (p : P.Place) where
  -- insert names the value of the key's slot, or the places of the free slot that takes the key.
  unfoldable pub insert_names : M.State → K → Or (Spot W) → Bool
  insert_names m k (no n) = false
  insert_names m k (ok (occupied s v e)) = P.over_names s p
  insert_names m k (ok (vacant s e)) = P.fill_names m s k p

  -- remove names the places of the freed slot.
  unfoldable pub remove_names : M.State → Or (Seen W) → Bool
  remove_names m (no n) = false
  remove_names m (ok (found v s e)) = P.free_names m s p
  remove_names m (ok (absent e)) = false

  -- or_insert by a vacant handle names what its insert does, and insert_entry by an occupied one the value.
  unfoldable pub handle_names : M.State → Handle → K → Bool → Bool
  handle_names m (on_occupied s) k replaces = accepted (occupied_get M m s k) (cond replaces (P.over_names s p) false)
  handle_names m (on_vacant s) k replaces = accepted (vacancy M m s k) (P.fill_names m s k p)

  -- The places that a call on one table names.
  unfoldable pub own_names : M.State → Own K W → Bool
  own_names m makes = accepted (capacity M m) true
  own_names m clears = accepted (capacity M m) true
  own_names m capacities = false
  own_names m lens = false
  own_names m empties = false
  own_names m (reserves n b) = false
  own_names m (gets k) = false
  own_names m (contains_keys k) = false
  own_names m (removes k) = remove_names m (remove M m k)
  own_names m (entries k) = false
  own_names m (inserts k v) = insert_names m k (entry M m k)
  own_names m (puts k v) = insert_names m k (put_spot M m k)
  own_names m (occupied_gets s k) = false
  own_names m (occupied_removes s k) = accepted (occupied_remove M m s k) (P.free_names m s p)
  own_names m (occupied_sets s k v) = accepted (occupied_get M m s k) (P.over_names s p)
  own_names m (vacant_inserts s k v) = accepted (vacancy M m s k) (P.fill_names m s k p)
  own_names m (or_inserts h k v) = handle_names m h k false
  own_names m (insert_entries h k v) = handle_names m h k true

  -- The places that the insert rule names for one pair of a union.
  unfoldable pub rule_names : M.State → K → Find W → Bool
  rule_names m k (hit n v) = P.over_names (slot_at M m k n) p
  rule_names m k (miss e f) = cond (ltb f (M.size m)) (P.fill_names m (slot_at M m k f) k p) false
  rule_names m k damage = false

  -- And for all of them, one after the other.
  unfoldable pub all_names : M.State → List (K × W) → Bool
  all_names m [] = false
  all_names m (q ∷ qs) = cond (rule_names m q.0 (path M m q.0)) true (all_names (rule M m q.0 q.1) qs)

  -- The places that a call on the table x names: make, clear and copy name all.
  unfoldable pub names : World M → ℕ → Call K W → Bool
  names w x (own c) = own_names (w x) c
  names w x (copies y) = accepted (copy M (w x) (w y)) true
  names w x (unions y) = accepted (union M (w x) (w y)) (all_names (w x) (pairs (M.slots (w y)) (M.size (w y))))
  names w x (steps a b) = false

  -- The places of the table y that some call of a list names in its turn.
  unfoldable pub run_names : ℕ → World M → List (ℕ × Call K W) → Bool
  run_names y w [] = false
  run_names y w (c ∷ cs) = cond (eqb y c.0 && names w c.0 c.1) true (run_names y (turned M w c.0 c.1) cs)

-- A call changes no lent place that its rule does not name.
abbrev pub OnlyNamed : {K W : Type 0} (M : Store K W) → Places M → Type 0
OnlyNamed {K} {W} M P = (w : World M) (x : ℕ) (c : Call K W) (p : P.Place) → names M P p w x c ≡ false → P.word (left M w x c) p ≡ P.word (w x) p
