-- A table's memory by what the calls need of it. Each kind of table gives one such record; the calls are defined once over it.
use Rattle.std.specs.Prelude.{ℕ, Bool}
use Rattle.model.specs.Slots.{Table, Keys, total, count, any_damaged}
use Rattle.model.specs.Path.{Find, find, at, examined}

-- A kind of table, by what is lent and how calls read and write it.
pub record Store (K W : Type 0) : Type 1 where
  -- what is lent
  pub State : Type 0
  -- the equality of keys
  pub keys : Keys K
  -- the arena bytes that a key takes
  pub weight : K → ℕ
  -- S, the number of slots
  pub size : State → ℕ
  -- what each slot holds
  pub slots : State → Table K W
  -- a key's home slot
  pub home : State → K → ℕ
  -- the arena's size
  pub bytes : State → ℕ
  -- the lent slices agree in length, and S and the arena are within their limits
  pub sized : State → Bool
  -- the refusal of a key before any slot is looked at, 0 where there is none: for a key asked for, and for a key to be stored
  pub asked : K → ℕ
  pub kept : K → ℕ
  -- the refusal of a table whose keys are carried into another, for one of them, 0 where there is none
  pub carried : State → ℕ
  -- the damage that storing calls find by examining every slot
  pub damaged_fully : State → Bool
  -- what soundness asks of the memory beyond its slots
  pub good : State → Type 0
  -- the four ways in which calls write: a live slot's value, a free slot's key and value, a live slot freed, all wiped
  pub over : State → ℕ → W → State
  pub fill : State → ℕ → K → W → State
  pub free : State → ℕ → State
  pub wipe : State → State

module _ {K W : Type 0} (M : Store K W) (m : M.State) where
  -- The path of a key.
  unfoldable pub path : K → Find W
  path k = find M.keys (M.size m) (M.home m k) (M.slots m) k

  -- The slot n places up from the key's home.
  unfoldable pub slot_at : K → ℕ → ℕ
  slot_at k n = at (M.size m) (M.home m k) n

  -- The path's own examined number.
  unfoldable pub path_length : K → ℕ
  path_length k = examined M.keys (M.size m) (M.home m k) (M.slots m) k

  -- The length: the number of live slots.
  unfoldable pub live_count : ℕ
  live_count = count (M.slots m) (M.size m)

  -- `used`: the sum of the live keys' lengths.
  unfoldable pub used : ℕ
  used = total M.weight (M.slots m) (M.size m)

  -- Whether some slot is damaged.
  unfoldable pub damaged_slots : Bool
  damaged_slots = any_damaged (M.slots m) (M.size m)
