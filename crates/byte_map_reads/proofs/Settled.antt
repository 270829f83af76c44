-- Each contract settles its answer: two results that it allows are equal.
use Rattle.std.proofs.Common.{ℕ, List}
use Rattle.answers.specs.Numbers.{counted_numbers, emptiness_numbers, reserved_numbers, got_numbers, contained_numbers}
use Rattle.answers.proofs.Equal.{counted_numbers_injective, emptiness_numbers_injective, reserved_numbers_injective, got_numbers_injective, contained_numbers_injective}
use Rattle.kinds.specs.Columns.{values}
use Rattle.kinds.specs.Told.{Settled}
use Rattle.kinds.specs.Calls.{capacity_of, len_of, is_empty_of, reserve_of, get_of, contains_of}
use Rattle.kinds.proofs.Settled.{settled}
use Rattle.byte_slots.specs.Memory.{ByteMemory}
use Rattle.byte_slots.specs.Kinds.{maps}

module _ (m : ByteMemory values) where
  -- `capacity`.
  pub capacity_settled : Settled counted_numbers (capacity_of maps m)
  capacity_settled = settled counted_numbers_injective

  -- `len`.
  pub len_settled : Settled counted_numbers (len_of maps m)
  len_settled = settled counted_numbers_injective

  -- `is_empty`.
  pub is_empty_settled : Settled emptiness_numbers (is_empty_of maps m)
  is_empty_settled = settled emptiness_numbers_injective

  -- `reserve`.
  pub reserve_settled : (keys bytes : ℕ) → Settled reserved_numbers (reserve_of maps m keys bytes)
  reserve_settled keys bytes = settled reserved_numbers_injective

  -- `get`.
  pub get_settled : (k : List ℕ) → Settled got_numbers (get_of maps m k)
  get_settled k = settled got_numbers_injective

  -- `contains_key`.
  pub contains_key_settled : (k : List ℕ) → Settled contained_numbers (contains_of maps m k)
  contains_key_settled k = settled contained_numbers_injective
