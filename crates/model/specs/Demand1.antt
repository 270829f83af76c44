-- Demand 1: the scope's refusal table, call by call and row by row, on any memory.
use Rattle.std.specs.Prelude.{ℕ, ◌+◌, ◌-◌, ◌≤◌, ◌<◌, max, true, false, List, [], ◌∷◌, ◌⊎◌, ◌≡◌}
use Rattle.model.specs.Slots.{damaged, live}
use Rattle.model.specs.Store.{Store, path_length, slot_at, live_count, used}
use Rattle.model.specs.Calls.{Or, no, ok, vacant, Handle, on_occupied, on_vacant, entry, needs}
use Rattle.model.specs.Machine.{Own, makes, clears, capacities, lens, empties, reserves, gets, contains_keys, removes, entries, inserts, puts, occupied_gets, occupied_removes, occupied_sets, vacant_inserts, or_inserts, insert_entries, Call, own, copies, unions, steps, Answer, refused, fine, number, truth, seen, spot, value, stepped, World}

-- A row of the table: a refusal's number, and when it applies.
pub data Row : Type 1 where
  row : ℕ → Type 0 → Row

-- n is the number of the first row that applies, in the order of the list, and 0 where none does.
pub data First : List Row → ℕ → Type 1 where
  none_applies : First [] 0
  applies_here : {n : ℕ} {P : Type 0} {rs : List Row} → P → First (row n P ∷ rs) n
  goes_on : {n i : ℕ} {P : Type 0} {rs : List Row} → (P → ⊥) → First rs n → First (row i P ∷ rs) n

-- The refusal i applies, by some row of the list.
abbrev pub Applies : List Row → ℕ → Type 0
Applies [] i = ⊥
Applies (row n P ∷ rs) i = (P × (i ≡ n)) ⊎ Applies rs i

-- The numbers of the rows that apply rise along the list, from above a.
pub data Rising : ℕ → List Row → Type 1 where
  rises_end : {a : ℕ} → Rising a []
  rises : {a n : ℕ} {P : Type 0} {rs : List Row} → (P → a < n) → Rising (max a n) rs → Rising a (row n P ∷ rs)

-- In the base a key has no refusal, or refusal 2.
abbrev pub KeyBar : ℕ → Type 0
KeyBar n = (n ≡ 0) ⊎ (n ≡ 2)

-- n is the least number that applies, and 0 where none does.
pub record Least (rs : List Row) (n : ℕ) : Type 0 where
  pub applies : (n ≡ 0 → ⊥) → Applies rs n
  pub least : (i : ℕ) → Applies rs i → (0 < n) × (n ≤ i)

-- The number of an answer: that of its refusal, else 0.
unfoldable pub refusal : {K W : Type 0} → Answer K W → ℕ
refusal (refused n) = n
refusal fine = 0
refusal (number n) = 0
refusal (truth b) = 0
refusal (seen s) = 0
refusal (spot s) = 0
refusal (value v) = 0
refusal (stepped p) = 0

-- The number in an answer that may be a refusal.
unfoldable pub number_in : {A : Type 0} → Or A → ℕ
number_in (no n) = n
number_in (ok a) = 0

module _ {K W : Type 0} (M : Store K W) where
  module _ (m : M.State) where
    -- An examined slot of the path is damaged.
    abbrev pub DamagedOnPath : K → Type 0
    DamagedOnPath k = (j : ℕ) × (j < path_length M m k) × (M.slots m (slot_at M m k j) ≡ damaged)

    -- The key is absent by its path.
    abbrev pub Absent : K → Type 0
    Absent k = (j : ℕ) (v : W) → j < path_length M m k → M.slots m (slot_at M m k j) ≡ live k v → ⊥

    -- Some slot is damaged.
    abbrev pub DamagedSomewhere : Type 0
    DamagedSomewhere = (i : ℕ) × (i < M.size m) × (M.slots m i ≡ damaged)

    -- Examining every slot shows damage: some slot is damaged, or there is what storing calls find so.
    abbrev pub AnyDamage : Type 0
    AnyDamage = DamagedSomewhere ⊎ (M.damaged_fully m ≡ true)

    -- 1: the lent slices disagree in length, or a size is beyond its limit.
    abbrev sizes : Row
    sizes = row 1 (M.sized m ≡ false)

    -- 2: the key is too long, for a key asked for.
    abbrev asked_key : K → Row
    asked_key k = row (M.asked k) (M.asked k ≡ 0 → ⊥)

    -- The same for a key to be stored.
    abbrev kept_key : K → Row
    kept_key k = row (M.kept k) (M.kept k ≡ 0 → ⊥)

    -- make, clear and capacity: sizes alone.
    abbrev pub sized_rows : List Row
    sized_rows = sizes ∷ []

    -- length and emptiness examine every slot.
    abbrev pub count_rows : List Row
    count_rows = sizes ∷ row 5 DamagedSomewhere ∷ []

    -- reserve: too few slots that are not live, or too few arena bytes that are not used.
    abbrev pub reserve_rows : ℕ → ℕ → List Row
    reserve_rows n b = sizes ∷ row 5 AnyDamage ∷ row 7 (M.size m - live_count M m < n) ∷ row 8 (M.bytes m - used M m < b) ∷ []

    -- get and contains examine the path.
    abbrev pub look_rows : K → List Row
    look_rows k = sizes ∷ asked_key k ∷ row 5 (DamagedOnPath k) ∷ []

    -- 5 for storing calls: what they find by examining every slot, or on the path.
    abbrev stored_damage : K → Row
    stored_damage k = row 5 ((M.damaged_fully m ≡ true) ⊎ DamagedOnPath k)

    -- remove: the key asked for, and the damage that storing calls find.
    abbrev pub remove_rows : K → List Row
    remove_rows k = sizes ∷ asked_key k ∷ stored_damage k ∷ []

    -- An absent key wants a slot that is not live, and its bytes.
    abbrev pub room_rows : K → List Row
    room_rows k = stored_damage k
        ∷ row 7 (Absent k × (live_count M m ≡ M.size m))
        ∷ row 8 (Absent k × (M.bytes m - used M m < M.weight k)) ∷ []

    -- insert and entry: a key to be stored, and its room.
    abbrev pub place_rows : K → List Row
    place_rows k = sizes ∷ kept_key k ∷ room_rows k

    -- A put: the same for any key.
    abbrev pub put_rows : K → List Row
    put_rows k = sizes ∷ room_rows k

    -- 6: an occupied handle is good exactly when its slot is live and holds the key.
    abbrev not_held : ℕ → K → Row
    not_held s k = row 6 ((v : W) → s < M.size m → M.slots m s ≡ live k v → ⊥)

    -- An occupied handle's get and set examine its slot (none if it is S or above).
    abbrev pub grip_rows : ℕ → K → List Row
    grip_rows s k = sizes ∷ asked_key k ∷ row 5 ((s < M.size m) × (M.slots m s ≡ damaged)) ∷ not_held s k ∷ []

    -- Its remove: what storing calls examine besides.
    abbrev pub drop_rows : ℕ → K → List Row
    drop_rows s k = sizes ∷ asked_key k ∷ row 5 ((M.damaged_fully m ≡ true) ⊎ ((s < M.size m) × (M.slots m s ≡ damaged))) ∷ not_held s k ∷ []

    -- A vacant handle examines the path; it is good exactly when insert would use that slot without refusing.
    abbrev pub open_rows : ℕ → K → List Row
    open_rows s k = sizes ∷ kept_key k ∷ stored_damage k ∷ row 6 ((e : ℕ) → entry M m k ≡ ok (vacant s e) → ⊥) ∷ []

    -- A walk step examines the slots that it passes: up to its first live one, within its budget.
    abbrev pub step_rows : ℕ → ℕ → List Row
    step_rows a b = sizes ∷ row 3 (b ≡ 0) ∷ row 4 (M.size m < a)
        ∷ row 5 ((j : ℕ) × (a ≤ j) × (j < M.size m) × (j < a + b) × (M.slots m j ≡ damaged) × ((i : ℕ) (k : K) (v : W) → a ≤ i → i < j → M.slots m i ≡ live k v → ⊥)) ∷ []

  -- copy from n onto m: sizes alone, and they must be equal.
  abbrev pub copy_rows : M.State → M.State → List Row
  copy_rows m n = row 1 ((M.sized m ≡ false) ⊎ ((M.sized n ≡ false) ⊎ ((M.size m ≡ M.size n → ⊥) ⊎ (M.bytes m ≡ M.bytes n → ⊥)))) ∷ []

  -- union examines every slot of both, and counts what it needs on the left as it is at first.
  abbrev pub union_rows : M.State → M.State → List Row
  union_rows l r =
      row 1 ((M.sized l ≡ false) ⊎ (M.sized r ≡ false))
      ∷ row 5 (AnyDamage l ⊎ AnyDamage r)
      ∷ row (M.carried r) (M.carried r ≡ 0 → ⊥)
      ∷ row 7 (M.size l - live_count M l < needs M (λ k. 1) l r)
      ∷ row 8 (M.bytes l - used M l < needs M M.weight l r) ∷ []

  -- or_insert and insert_entry: by the kind of their handle.
  abbrev handle_rows : M.State → Handle → K → List Row
  handle_rows m (on_occupied s) k = grip_rows m s k
  handle_rows m (on_vacant s) k = open_rows m s k

  -- The rows of a call on one table.
  abbrev own_rows : M.State → Own K W → List Row
  own_rows m makes = sized_rows m
  own_rows m clears = sized_rows m
  own_rows m capacities = sized_rows m
  own_rows m lens = count_rows m
  own_rows m empties = count_rows m
  own_rows m (reserves n b) = reserve_rows m n b
  own_rows m (gets k) = look_rows m k
  own_rows m (contains_keys k) = look_rows m k
  own_rows m (removes k) = remove_rows m k
  own_rows m (entries k) = place_rows m k
  own_rows m (inserts k v) = place_rows m k
  own_rows m (puts k v) = put_rows m k
  own_rows m (occupied_gets s k) = grip_rows m s k
  own_rows m (occupied_removes s k) = drop_rows m s k
  own_rows m (occupied_sets s k v) = grip_rows m s k
  own_rows m (vacant_inserts s k v) = open_rows m s k
  own_rows m (or_inserts h k v) = handle_rows m h k
  own_rows m (insert_entries h k v) = handle_rows m h k

  -- The rows of a call on the table x.
  abbrev pub rows : World M → ℕ → Call K W → List Row
  rows w x (own c) = own_rows (w x) c
  rows w x (copies y) = copy_rows (w x) (w y)
  rows w x (unions y) = union_rows (w x) (w y)
  rows w x (steps a b) = step_rows (w x) a b
