-- Each contract settles its answer and the lent arrays: two results that it allows are equal.
use Prim.Native.Nat.{ℕ}
use Rattle.answers.specs.Numbers.{outcome_numbers, inserted_numbers, removed_numbers}
use Rattle.answers.proofs.Equal.{outcome_numbers_injective, inserted_numbers_injective, removed_numbers_injective}
use Rattle.kinds.specs.Columns.{values}
use Rattle.kinds.specs.Told.{SettledWith}
use Rattle.kinds.proofs.Settled.{settled_with}
use Rattle.int_slots.specs.Memory.{IntMemory}
use Rattle.int_slots.specs.Kinds.{insert_of}
use Rattle.kinds.specs.Calls.{make_of, remove_of, copy_of}
use Rattle.int_slots.specs.Maps.{maps}

module _ (m : IntMemory values) where
  -- `make`.
  pub make_settled : SettledWith outcome_numbers (make_of maps m)
  make_settled = settled_with outcome_numbers_injective

  -- `clear`.
  pub clear_settled : SettledWith outcome_numbers (make_of maps m)
  clear_settled = settled_with outcome_numbers_injective

  -- `insert`.
  pub insert_settled : (k v : ℕ) → SettledWith inserted_numbers (insert_of m k v)
  insert_settled k v = settled_with inserted_numbers_injective

  -- `remove`.
  pub remove_settled : (k : ℕ) → SettledWith removed_numbers (remove_of maps m k)
  remove_settled k = settled_with removed_numbers_injective

  -- `copy`.
  pub copy_settled : (from : IntMemory values) → SettledWith outcome_numbers (copy_of maps m from)
  copy_settled from = settled_with outcome_numbers_injective
