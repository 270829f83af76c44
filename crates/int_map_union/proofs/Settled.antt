-- Each contract settles its answer and the lent arrays: two results that it allows are equal.
use Rattle.answers.specs.Numbers.{outcome_numbers}
use Rattle.answers.proofs.Equal.{outcome_numbers_injective}
use Rattle.kinds.specs.Columns.{values}
use Rattle.kinds.specs.Told.{SettledWith}
use Rattle.kinds.proofs.Settled.{settled_with}
use Rattle.int_slots.specs.Memory.{IntMemory}
use Rattle.kinds.specs.Calls.{union_of}
use Rattle.int_slots.specs.Maps.{maps}

module _ (m : IntMemory values) where
  -- `union_prefer_right`.
  pub union_prefer_right_settled : (right : IntMemory values) → SettledWith outcome_numbers (union_of maps m right)
  union_prefer_right_settled right = settled_with outcome_numbers_injective
