-- The contract settles its answer and the lent arrays: two results that it allows are equal.
use Prim.Native.Nat.{ℕ}
use Rattle.kinds.specs.Columns.{values}
use Rattle.kinds.specs.Told.{SettledWith}
use Rattle.kinds.proofs.Settled.{settled_with}
use Rattle.int_slots.specs.Memory.{IntMemory}
use Rattle.int_map_vacant.specs.Numbers.{in_slot_numbers}
use Rattle.kinds.specs.Calls.{vacant_insert_of}
use Rattle.int_slots.specs.Maps.{maps}
use Rattle.int_map_vacant.proofs.Equal.{in_slot_numbers_injective}

module _ (m : IntMemory values) where
  -- `Vacant::insert`.
  pub insert_settled : (s k v : ℕ) → SettledWith in_slot_numbers (vacant_insert_of maps m s k v)
  insert_settled s k v = settled_with in_slot_numbers_injective
