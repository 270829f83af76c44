-- Each contract settles its answer and the lent arrays: two results that it allows are equal.
use Rattle.answers.specs.Numbers.{outcome_numbers}
use Rattle.answers.proofs.Equal.{outcome_numbers_injective}
use Rattle.kinds.specs.Calls.{union_of}
use Rattle.kinds.specs.Columns.{values}
use Rattle.kinds.specs.Told.{SettledWith}
use Rattle.kinds.proofs.Settled.{settled_with}
use Rattle.byte_slots.specs.Memory.{ByteMemory}
use Rattle.byte_slots.specs.Kinds.{maps}

module _ (m : ByteMemory values) where
  -- `union_prefer_right`.
  pub union_prefer_right_settled : (right : ByteMemory values) → SettledWith outcome_numbers (union_of maps m right)
  union_prefer_right_settled right = settled_with outcome_numbers_injective
