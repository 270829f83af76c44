-- Each contract settles its answer and the lent walk: two results that it allows are equal.
use Rattle.std.specs.Prelude.{ℕ}
use Rattle.kinds.specs.Columns.{nothing}
use Rattle.kinds.specs.Told.{Settled, SettledWith}
use Rattle.kinds.proofs.Settled.{settled, settled_with}
use Rattle.kinds.specs.Moved.{moved_on}
use Rattle.int_slots.specs.Memory.{IntMemory}
use Rattle.int_slots.specs.Steps.{set_step_of}
use Rattle.tables.proofs.Equal.{key_injective}
use Rattle.int_set_walk.specs.Numbers.{step_numbers}

module _ (m : IntMemory nothing) where
  -- `step`.
  pub step_settled : (at budget : ℕ) → Settled step_numbers (set_step_of m at budget)
  step_settled at budget = settled key_injective

  -- `step_on`.
  pub step_on_settled : (at budget : ℕ) → SettledWith step_numbers (moved_on (set_step_of m at budget))
  step_on_settled at budget = settled_with key_injective
