-- Each contract settles its answer and the lent walk: two results that it allows are equal.
use Rattle.std.specs.Prelude.{ℕ}
use Rattle.kinds.specs.Columns.{values}
use Rattle.kinds.specs.Told.{Settled, SettledWith}
use Rattle.kinds.proofs.Settled.{settled, settled_with}
use Rattle.kinds.specs.Moved.{moved_on}
use Rattle.int_slots.specs.Memory.{IntMemory}
use Rattle.int_slots.specs.Steps.{step_of}
use Rattle.tables.proofs.Equal.{pair_injective}
use Rattle.int_map_walk.specs.Numbers.{step_numbers}

module _ (m : IntMemory values) where
  -- `step`.
  pub step_settled : (at budget : ℕ) → Settled step_numbers (step_of m at budget)
  step_settled at budget = settled pair_injective

  -- `step_on`.
  pub step_on_settled : (at budget : ℕ) → SettledWith step_numbers (moved_on (step_of m at budget))
  step_on_settled at budget = settled_with pair_injective
