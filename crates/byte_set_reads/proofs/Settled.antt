-- Each contract settles its answer: two results that it allows are equal.
use Rattle.std.proofs.Common.{ℕ, List}
use Rattle.answers.specs.Numbers.{counted_numbers, emptiness_numbers, reserved_numbers, spanned_numbers, contained_numbers}
use Rattle.answers.proofs.Equal.{counted_numbers_injective, emptiness_numbers_injective, reserved_numbers_injective, spanned_numbers_injective, contained_numbers_injective}
use Rattle.kinds.specs.Calls.{capacity_of, len_of, is_empty_of, reserve_of, contains_of}
use Rattle.kinds.specs.Columns.{nothing}
use Rattle.kinds.specs.Told.{Settled}
use Rattle.kinds.proofs.Settled.{settled}
use Rattle.byte_slots.specs.Memory.{ByteMemory}
use Rattle.byte_slots.specs.Kinds.{sets, set_get_of}

module _ (m : ByteMemory nothing) where
  -- `capacity`.
  pub capacity_settled : Settled counted_numbers (capacity_of sets m)
  capacity_settled = settled counted_numbers_injective

  -- `len`.
  pub len_settled : Settled counted_numbers (len_of sets m)
  len_settled = settled counted_numbers_injective

  -- `is_empty`.
  pub is_empty_settled : Settled emptiness_numbers (is_empty_of sets m)
  is_empty_settled = settled emptiness_numbers_injective

  -- `reserve`.
  pub reserve_settled : (keys bytes : ℕ) → Settled reserved_numbers (reserve_of sets m keys bytes)
  reserve_settled keys bytes = settled reserved_numbers_injective

  -- `get`.
  pub get_settled : (k : List ℕ) → Settled spanned_numbers (set_get_of m k)
  get_settled k = settled spanned_numbers_injective

  -- `contains`.
  pub contains_settled : (k : List ℕ) → Settled contained_numbers (contains_of sets m k)
  contains_settled k = settled contained_numbers_injective
