-- Each contract settles its answer and the lent arrays: two results that it allows are equal.
use Rattle.std.proofs.Common.{ℕ, List}
use Rattle.answers.specs.Numbers.{outcome_numbers, joined_numbers, dropped_numbers}
use Rattle.answers.proofs.Equal.{outcome_numbers_injective, joined_numbers_injective, dropped_numbers_injective}
use Rattle.kinds.specs.Calls.{make_of, copy_of, dropped_of}
use Rattle.kinds.specs.Columns.{nothing}
use Rattle.kinds.specs.Told.{SettledWith}
use Rattle.kinds.proofs.Settled.{settled_with}
use Rattle.byte_slots.specs.Memory.{ByteMemory}
use Rattle.byte_slots.specs.Kinds.{sets, set_insert_of}

module _ (m : ByteMemory nothing) where
  -- `make`.
  pub make_settled : SettledWith outcome_numbers (make_of sets m)
  make_settled = settled_with outcome_numbers_injective

  -- `clear`.
  pub clear_settled : SettledWith outcome_numbers (make_of sets m)
  clear_settled = settled_with outcome_numbers_injective

  -- `insert`.
  pub insert_settled : (k : List ℕ) → SettledWith joined_numbers (set_insert_of m k)
  insert_settled k = settled_with joined_numbers_injective

  -- `remove`.
  pub remove_settled : (k : List ℕ) → SettledWith dropped_numbers (dropped_of sets m k)
  remove_settled k = settled_with dropped_numbers_injective

  -- `copy`.
  pub copy_settled : (from : ByteMemory nothing) → SettledWith outcome_numbers (copy_of sets m from)
  copy_settled from = settled_with outcome_numbers_injective
