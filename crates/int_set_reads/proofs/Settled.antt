-- Each contract settles its answer: two results that it allows are equal.
use Prim.Native.Nat.{ℕ}
use Rattle.answers.specs.Numbers.{counted_numbers, emptiness_numbers, reserved_numbers, member_numbers, contained_numbers}
use Rattle.answers.proofs.Equal.{counted_numbers_injective, emptiness_numbers_injective, reserved_numbers_injective, member_numbers_injective, contained_numbers_injective}
use Rattle.kinds.specs.Columns.{nothing}
use Rattle.kinds.specs.Told.{Settled}
use Rattle.kinds.proofs.Settled.{settled}
use Rattle.int_slots.specs.Memory.{IntMemory}
use Rattle.int_slots.specs.Kinds.{set_get_of}
use Rattle.kinds.specs.Calls.{capacity_of, len_of, is_empty_of, reserve_of, contains_of}
use Rattle.int_slots.specs.Sets.{sets}

module _ (m : IntMemory nothing) where
  -- `capacity`.
  pub capacity_settled : Settled counted_numbers (capacity_of sets m)
  capacity_settled = settled counted_numbers_injective

  -- `len`.
  pub len_settled : Settled counted_numbers (len_of sets m)
  len_settled = settled counted_numbers_injective

  -- `is_empty`.
  pub is_empty_settled : Settled emptiness_numbers (is_empty_of sets m)
  is_empty_settled = settled emptiness_numbers_injective

  -- `reserve`.
  pub reserve_settled : (asked : ℕ) → Settled reserved_numbers (reserve_of sets m asked 0)
  reserve_settled asked = settled reserved_numbers_injective

  -- `get`.
  pub get_settled : (k : ℕ) → Settled member_numbers (set_get_of m k)
  get_settled k = settled member_numbers_injective

  -- `contains`.
  pub contains_settled : (k : ℕ) → Settled contained_numbers (contains_of sets m k)
  contains_settled k = settled contained_numbers_injective
