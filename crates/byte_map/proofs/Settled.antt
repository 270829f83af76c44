-- Each contract settles its answer and the lent arrays: two results that it allows are equal.
use Rattle.std.proofs.Common.{ℕ, List}
use Rattle.answers.specs.Numbers.{outcome_numbers, stored_numbers, removed_numbers}
use Rattle.answers.proofs.Equal.{outcome_numbers_injective, stored_numbers_injective, removed_numbers_injective}
use Rattle.kinds.specs.Columns.{values}
use Rattle.kinds.specs.Told.{SettledWith}
use Rattle.kinds.specs.Calls.{make_of, copy_of, remove_of}
use Rattle.kinds.proofs.Settled.{settled_with}
use Rattle.byte_slots.specs.Memory.{ByteMemory}
use Rattle.byte_slots.specs.Kinds.{maps, insert_of}

module _ (m : ByteMemory values) where
  -- `make`.
  pub make_settled : SettledWith outcome_numbers (make_of maps m)
  make_settled = settled_with outcome_numbers_injective

  -- `clear`.
  pub clear_settled : SettledWith outcome_numbers (make_of maps m)
  clear_settled = settled_with outcome_numbers_injective

  -- `insert`.
  pub insert_settled : (k : List ℕ) (v : ℕ) → SettledWith stored_numbers (insert_of m k v)
  insert_settled k v = settled_with stored_numbers_injective

  -- `remove`.
  pub remove_settled : (k : List ℕ) → SettledWith removed_numbers (remove_of maps m k)
  remove_settled k = settled_with removed_numbers_injective

  -- `copy`.
  pub copy_settled : (from : ByteMemory values) → SettledWith outcome_numbers (copy_of maps m from)
  copy_settled from = settled_with outcome_numbers_injective
