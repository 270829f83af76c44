-- The contract settles its answer and the lent arrays: two results that it allows are equal.
use Rattle.std.proofs.Common.{ℕ, List}
use Rattle.kinds.specs.Calls.{vacant_insert_of}
use Rattle.kinds.specs.Columns.{values}
use Rattle.kinds.specs.Told.{SettledWith}
use Rattle.kinds.proofs.Settled.{settled_with}
use Rattle.byte_slots.specs.Kinds.{maps}
use Rattle.byte_slots.specs.Memory.{ByteMemory}
use Rattle.byte_map_vacant.specs.Numbers.{in_slot_numbers}
use Rattle.byte_map_vacant.proofs.Equal.{in_slot_numbers_injective}

module _ (m : ByteMemory values) where
  -- `Vacant::insert`.
  pub insert_settled : (s : ℕ) (k : List ℕ) (v : ℕ) → SettledWith in_slot_numbers (vacant_insert_of maps m s k v)
  insert_settled s k v = settled_with in_slot_numbers_injective
