-- What is known of each table's finite map, call by call: the bookkeeping of demand 2. Make and clear make a table known, whatever it held; copy hands on what is known of its source; every other call changes a known map as upstream says.
use Rattle.std.specs.Prelude.{ℕ, ◌+◌, ◌≤◌, ◌<◌, Bool, true, false, cond, List, ◌∷◌, ◌≡◌, ltb}
use Rattle.std.proofs.Math.Option.{Option, none, some}
use Rattle.model.specs.Slots.{live, holds, pairs}
use Rattle.model.specs.Finite.{Finite, contains, mass, len, empty, insert, remove, union_prefer_right, insert_all}
use Rattle.model.specs.Store.{Store, path_length}
use Rattle.model.specs.Calls.{no, ok, occupied, vacant, on_occupied, on_vacant, entry}
use Rattle.model.specs.Machine.{Own, makes, clears, capacities, lens, empties, reserves, gets, contains_keys, removes, entries, inserts, puts, occupied_gets, occupied_removes, occupied_sets, vacant_inserts, or_inserts, insert_entries, Call, own, copies, unions, steps, Answer, refused, fine, number, truth, seen, spot, value, stepped, World, placed, turned}

-- Whether an answer is a refusal.
unfoldable pub refuses : {K W : Type 0} → Answer K W → Bool
refuses (refused n) = true
refuses fine = false
refuses (number n) = false
refuses (truth b) = false
refuses (seen s) = false
refuses (spot s) = false
refuses (value v) = false
refuses (stepped p) = false

module _ {K W : Type 0} (M : Store K W) where
  -- The keys with one more.
  unfoldable pub grown : Finite K W → K → List K
  grown f k = cond (contains f k) f.dom (k ∷ f.dom)

  -- The map after an accepted call on one table.
  unfoldable pub grows : Own K W → Finite K W → Finite K W
  grows makes f = empty
  grows clears f = empty
  grows capacities f = f
  grows lens f = f
  grows empties f = f
  grows (reserves n b) f = f
  grows (gets k) f = f
  grows (contains_keys k) f = f
  grows (removes k) f = remove M.keys f k
  grows (entries k) f = f
  grows (inserts k v) f = insert M.keys f k v
  grows (puts k v) f = insert M.keys f k v
  grows (occupied_gets s k) f = f
  grows (occupied_removes s k) f = remove M.keys f k
  grows (occupied_sets s k v) f = insert M.keys f k v
  grows (vacant_inserts s k v) f = insert M.keys f k v
  grows (or_inserts (on_occupied s) k v) f = f
  grows (or_inserts (on_vacant s) k v) f = insert M.keys f k v
  grows (insert_entries h k v) f = insert M.keys f k v

  -- Whether a call makes the table anew, so that its map is known whatever it held.
  unfoldable pub renews : Own K W → Bool
  renews makes = true
  renews clears = true
  renews capacities = false
  renews lens = false
  renews empties = false
  renews (reserves n b) = false
  renews (gets k) = false
  renews (contains_keys k) = false
  renews (removes k) = false
  renews (entries k) = false
  renews (inserts k v) = false
  renews (puts k v) = false
  renews (occupied_gets s k) = false
  renews (occupied_removes s k) = false
  renews (occupied_sets s k v) = false
  renews (vacant_inserts s k v) = false
  renews (or_inserts h k v) = false
  renews (insert_entries h k v) = false

  -- What is known of a table after an accepted call on it alone: nothing where its map was not known.
  unfoldable pub mapped : (Finite K W → Finite K W) → Option (Finite K W) → Option (Finite K W)
  mapped u none = none
  mapped u (some f) = some (u f)

  -- After an accepted union: the union of the two maps, where both were known; where only the left's was, the left's with the right's live pairs inserted in slot order.
  unfoldable pub joined : Option (Finite K W) → Option (Finite K W) → List (K × W) → Option (Finite K W)
  joined none o ps = none
  joined (some f) none ps = some (insert_all M.keys f ps)
  joined (some f) (some g) ps = some (union_prefer_right f g)

  -- After any accepted call.
  unfoldable pub next : World M → (ℕ → Option (Finite K W)) → ℕ → Call K W → Option (Finite K W)
  next w e x (own c) = cond (renews c) (some empty) (mapped (grows c) (e x))
  next w e x (copies y) = e y
  next w e x (unions y) = joined (e x) (e y) (pairs (M.slots (w y)) (M.size (w y)))
  next w e x (steps a b) = e x

  -- What is known of all tables after an accepted call on the table x.
  unfoldable pub becomes : World M → (ℕ → Option (Finite K W)) → ℕ → Call K W → ℕ → Option (Finite K W)
  becomes w e x c = placed e x (next w e x c)

  -- Whether an occupied handle is good: its slot is live and holds the key.
  unfoldable pub holds_now : M.State → ℕ → K → Bool
  holds_now m s k = cond (ltb s (M.size m)) (holds M.keys k (M.slots m s)) false

  -- The key that a lookup asks for.
  unfoldable pub key_of : Own K W → Option K
  key_of makes = none
  key_of clears = none
  key_of capacities = none
  key_of lens = none
  key_of empties = none
  key_of (reserves n b) = none
  key_of (gets k) = some k
  key_of (contains_keys k) = some k
  key_of (removes k) = some k
  key_of (entries k) = some k
  key_of (inserts k v) = some k
  key_of (puts k v) = some k
  key_of (occupied_gets s k) = none
  key_of (occupied_removes s k) = none
  key_of (occupied_sets s k v) = none
  key_of (vacant_inserts s k v) = none
  key_of (or_inserts h k v) = none
  key_of (insert_entries h k v) = none

  -- What insert and entry answer of a key that may be stored, by the map f and the room: occupied; vacant; all slots live; or the key's bytes do not fit.
  pub data EntryOf (m : M.State) (f : Finite K W) (k : K) : Type 0 where
    is_occupied : (i : ℕ) (v : W) → f.look k ≡ some v → M.slots m i ≡ live k v → entry M m k ≡ ok (occupied i v (path_length M m k)) → EntryOf m f k
    is_vacant : (i : ℕ) → f.look k ≡ none → len f < M.size m → mass M.weight f.dom + M.weight k ≤ M.bytes m → entry M m k ≡ ok (vacant i (path_length M m k)) → EntryOf m f k
    is_full : f.look k ≡ none → len f ≡ M.size m → entry M m k ≡ no 7 → EntryOf m f k
    is_tight : f.look k ≡ none → len f < M.size m → M.bytes m < mass M.weight f.dom + M.weight k → entry M m k ≡ no 8 → EntryOf m f k

-- Tables by their numbers, and the finite map of each where it is known.
pub record Book {K W : Type 0} (M : Store K W) : Type 0 where
  pub world : World M
  pub maps : ℕ → Option (Finite K W)

-- The book after an accepted call.
abbrev pub booked : {K W : Type 0} (M : Store K W) → Book M → ℕ → Call K W → Book M
booked M s x c = record { world = turned M s.world x c; maps = becomes M s.world s.maps x c }
