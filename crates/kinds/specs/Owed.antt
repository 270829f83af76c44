-- What the calls of any kind must tell of a table whose finite map is known: by the map, the table's sizes, and the slots of its paths. In the scope's words; nothing here is cited by a contract.
use Rattle.std.specs.Prelude.{ℕ, zero, suc, ◌+◌, ◌-◌, ◌≤◌, ◌<◌, min, Bool, cond, not, ◌&&◌, List, ◌≡◌, leb, eqb}
use Rattle.std.proofs.Math.Option.{Option, none, some}
use Rattle.model.specs.Slots.{live, total}
use Rattle.model.specs.Path.{free_at}
use Rattle.model.specs.Finite.{Finite, contains, mass, len}
use Rattle.model.specs.Store.{Store, slot_at, path_length}
use Rattle.model.specs.Calls.{Handle, on_occupied, on_vacant, any_damage}
use Rattle.model.specs.Demand2.{grown, holds_now}
use Rattle.answers.specs.Cases.{PAIR, NOTHING, WALK-DONE, NOW}
use Rattle.answers.specs.declared.Numbers.{Numbers}

-- A refusal: its number, zeros elsewhere, and a walk as it came.
abbrev pub refusing : ℕ → ℕ → Numbers
refusing n walk = record { refusal = n; case = 0; key = 0; value = 0; slot = 0; examined = 0; walk = walk; offset = 0; length = 0 }

-- A case that says nothing more: 1 done, 3 empty, 4 holds keys, 5 room.
abbrev pub only : ℕ → Numbers
only c = record { refusal = 0; case = c; key = 0; value = 0; slot = 0; examined = 0; walk = 0; offset = 0; length = 0 }

-- A case with a value: 2 a count.
abbrev pub counting : ℕ → ℕ → Numbers
counting c v = record { refusal = 0; case = c; key = 0; value = v; slot = 0; examined = 0; walk = 0; offset = 0; length = 0 }

-- A case of a lookup with a value, a slot and the examined number: 6 found, 9 fresh, 10 replaced, 11 removed, 12 occupied, 13 vacant; with the examined number alone: 7 present, 8 absent.
abbrev pub looking_up : ℕ → ℕ → ℕ → ℕ → Numbers
looking_up c v s e = record { refusal = 0; case = c; key = 0; value = v; slot = s; examined = e; walk = 0; offset = 0; length = 0 }

-- A case of a handle with a key, a value and its slot: 17 value, 18 was, 19 now, 11 removed.
abbrev pub handling : ℕ → ℕ → ℕ → ℕ → Numbers
handling c k v s = record { refusal = 0; case = c; key = k; value = v; slot = s; examined = 0; walk = 0; offset = 0; length = 0 }

-- A case with a part of the arena: 6 a set's found key, 9 a fresh byte key, whose length the caller has.
abbrev pub spanning : ℕ → ℕ → ℕ → ℕ → ℕ → Numbers
spanning c s e o l = record { refusal = 0; case = c; key = 0; value = 0; slot = s; examined = e; walk = 0; offset = o; length = l }

-- Case 14, a pair that a step hands out: its key and value, or the part of the arena that is its key, with the walk moved on and the examined number.
abbrev pub handing : ℕ → ℕ → ℕ → ℕ → ℕ → ℕ → Numbers
handing k v o l walk e = record { refusal = 0; case = PAIR; key = k; value = v; slot = 0; examined = e; walk = walk; offset = o; length = l }

-- A case of a walk moved on, with the examined number: 15 nothing, 16 done.
abbrev pub moving : ℕ → ℕ → ℕ → Numbers
moving c walk e = record { refusal = 0; case = c; key = 0; value = 0; slot = 0; examined = e; walk = walk; offset = 0; length = 0 }

-- The refusal of the key, where it has one, else the answer.
unfoldable pub unless : ℕ → Numbers → Numbers
unless zero n = n
unless (suc r) n = refusing (suc r) 0

-- By what the map says of the key: its value, or that it has none.
unfoldable pub by_map : {W : Type 0} → Option W → (W → Numbers) → Numbers → Numbers
by_map none present absent = absent
by_map (some v) present absent = present v

module _ {K W : Type 0} (M : Store K W) (m : M.State) where
  -- The last slot of a key's path, where a key of the map stands.
  unfoldable pub last_slot : K → ℕ
  last_slot k = slot_at M m k (path_length M m k - 1)

  -- The first slot of a key's path with mark 0 or 2, where an absent key goes.
  unfoldable pub open_slot : K → ℕ
  open_slot k = slot_at M m k (free_at (M.size m) (M.home m k) (M.slots m))

  -- Keys want as many slots, and their bytes: 7, then 8.
  unfoldable pub admitting : List K → Numbers → Numbers
  admitting ks n = cond (leb (mass (λ k. 1) ks) (M.size m)) (cond (leb (mass M.weight ks) (M.bytes m)) n (refusing 8 0)) (refusing 7 0)

  -- copy from a table of any memory: 1 where its sizes are wrong or others.
  unfoldable pub copying : M.State → Numbers → Numbers
  copying o n = cond (M.sized o && (eqb (M.size m) (M.size o) && eqb (M.bytes m) (M.bytes o))) n (refusing 1 0)

  module _ (f : Finite K W) where
    -- get, contains and remove: the key's value with its slot, or absent; and how many slots the path examined.
    unfoldable pub looking : K → (W → ℕ → ℕ → Numbers) → (ℕ → Numbers) → Numbers
    looking k present absent = unless (M.asked k) (by_map (f.look k) (λ v. present v (last_slot k) (path_length M m k)) (absent (path_length M m k)))

    -- insert and entry: the same, and an absent key's slot; refused where it does not fit.
    unfoldable pub placing : K → (W → ℕ → ℕ → Numbers) → (ℕ → ℕ → Numbers) → Numbers
    placing k present fresh = unless (M.kept k) (admitting (grown M f k) (by_map (f.look k) (λ v. present v (last_slot k) (path_length M m k)) (fresh (open_slot k) (path_length M m k))))

    -- reserve: slots and bytes, as many as are left beside the map's keys: 7, then 8.
    unfoldable pub reserving : ℕ → ℕ → Numbers → Numbers
    reserving n b r = cond (leb n (M.size m - len f)) (cond (leb b (M.bytes m - mass M.weight f.dom)) r (refusing 8 0)) (refusing 7 0)

    -- An occupied handle: the key's value where its slot is live and holds the key, else 6.
    unfoldable pub holding : ℕ → K → (W → Numbers) → Numbers
    holding s k n = unless (M.asked k) (cond (holds_now M m s k) (by_map (f.look k) n (refusing 6 0)) (refusing 6 0))

    -- A vacant handle is good exactly when the key is absent and insert would use that slot without refusing.
    unfoldable pub vacates : ℕ → K → Bool
    vacates s k = not (contains f k) && (leb (mass (λ k. 1) (grown M f k)) (M.size m) && (leb (mass M.weight (grown M f k)) (M.bytes m) && eqb s (open_slot k)))

    -- It answers where it is good, else 6.
    unfoldable pub opening : ℕ → K → Numbers → Numbers
    opening s k n = unless (M.kept k) (cond (vacates s k) n (refusing 6 0))

    -- What the keys of the right's live slots weigh that the map lacks.
    unfoldable pub lacked : (K → ℕ) → M.State → ℕ
    lacked weight r = total (λ k. cond (contains f k) 0 (weight k)) (M.slots r) (M.size r)

    -- union with a right table of any memory: 1 for the right's sizes, 5 for its damage, a key that it may not carry over, then 7 and 8 where the slots or the bytes that are left do not suffice for what the map lacks.
    unfoldable pub joining : M.State → Numbers → Numbers
    joining r n =
        cond (M.sized r) (cond (any_damage M r) (refusing 5 0) (unless (M.carried r)
        (cond (leb (lacked (λ k. 1) r) (M.size m - mass (λ k. 1) f.dom))
        (cond (leb (lacked M.weight r) (M.bytes m - mass M.weight f.dom)) n (refusing 8 0)) (refusing 7 0))))
        (refusing 1 0)

    -- A step at a with budget b: refused for no budget, or beyond S; done at S; the pair of the first live slot, by `hand` from key, value and slot with the walk moved past it and the slots examined; or nothing, after b slots or at S.
    pub data OwesStep (hand : K → W → ℕ → ℕ → ℕ → Numbers) (a b : ℕ) (n : Numbers) : Type 0 where
      no_budget : b ≡ 0 → n ≡ refusing 3 a → OwesStep hand a b n
      beyond : 0 < b → M.size m < a → n ≡ refusing 4 a → OwesStep hand a b n
      ended : 0 < b → a ≡ M.size m → n ≡ moving WALK-DONE a 0 → OwesStep hand a b n
      hands : (j : ℕ) (k : K) (v : W) → a ≤ j → j < M.size m → j < a + b → M.slots m j ≡ live k v → f.look k ≡ some v → ((i : ℕ) (c : K) (u : W) → a ≤ i → i < j → M.slots m i ≡ live c u → ⊥) → n ≡ hand k v j (suc j) (suc j - a) → OwesStep hand a b n
      passes : (x : ℕ) → a < x → x ≡ min (a + b) (M.size m) → ((i : ℕ) (c : K) (u : W) → a ≤ i → i < x → M.slots m i ≡ live c u → ⊥) → n ≡ moving NOTHING x (x - a) → OwesStep hand a b n

module _ {K : Type 0} (M : Store K ℕ) (m : M.State) (f : Finite K ℕ) where
  -- or_insert keeps a present value, and answers the value that is now in the slot.
  unfoldable pub keeping : Handle → K → ℕ → Numbers
  keeping (on_occupied i) k v = holding M m f i k (λ u. handling NOW 0 u i)
  keeping (on_vacant i) k v = opening M m f i k (handling NOW 0 v i)

  -- insert_entry replaces it.
  unfoldable pub replacing : Handle → K → ℕ → Numbers
  replacing (on_occupied i) k v = holding M m f i k (λ u. handling NOW 0 v i)
  replacing (on_vacant i) k v = opening M m f i k (handling NOW 0 v i)
