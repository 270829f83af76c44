-- Each contract settles its answer and the lent arrays: two results that it allows are equal.
use Rattle.std.proofs.Common.{ℕ, List}
use Rattle.kinds.specs.Calls.{held_of, set_of, taken_of}
use Rattle.kinds.specs.Columns.{values}
use Rattle.kinds.specs.Told.{Settled, SettledWith}
use Rattle.kinds.proofs.Settled.{settled, settled_with}
use Rattle.byte_slots.specs.Kinds.{maps}
use Rattle.byte_slots.specs.Memory.{ByteMemory}
use Rattle.byte_map_occupied.specs.Numbers.{held_numbers, swapped_numbers, taken_numbers}
use Rattle.byte_map_occupied.proofs.Equal.{held_numbers_injective, swapped_numbers_injective, taken_numbers_injective}

module _ (m : ByteMemory values) where
  -- `Occupied::get`.
  pub get_settled : (s : ℕ) (k : List ℕ) → Settled held_numbers (held_of maps m s k)
  get_settled s k = settled held_numbers_injective

  -- `Occupied::set`.
  pub set_settled : (s : ℕ) (k : List ℕ) (v : ℕ) → SettledWith swapped_numbers (set_of maps m s k v)
  set_settled s k v = settled_with swapped_numbers_injective

  -- `Occupied::remove`.
  pub remove_settled : (s : ℕ) (k : List ℕ) → SettledWith taken_numbers (taken_of maps m s k)
  remove_settled s k = settled_with taken_numbers_injective

  -- `Occupied::remove_entry`.
  pub remove_entry_settled : (s : ℕ) (k : List ℕ) → SettledWith taken_numbers (taken_of maps m s k)
  remove_entry_settled s k = settled_with taken_numbers_injective
