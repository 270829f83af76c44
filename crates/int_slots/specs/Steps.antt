-- What a step of a walk of an integer table tells: the theory's step at the stores of maps and sets.
use Rattle.std.specs.Prelude.{ℕ}
use Rattle.model.specs.Machine.{stepping}
use Rattle.answers.specs.declared.Numbers.{Numbers}
use Rattle.answers.specs.Said.{pair_handed, key_handed, step_said}
use Rattle.kinds.specs.Columns.{values, nothing}
use Rattle.int_slots.specs.Memory.{IntMemory}
use Rattle.int_slots.specs.Maps.{maps}
use Rattle.int_slots.specs.Sets.{sets}

-- A step of a map's walk with a budget: the pair of the first live slot within it, nothing, or done; the walk moved on.
unfoldable pub step_of : IntMemory values → ℕ → ℕ → Numbers
step_of m at budget = step_said pair_handed at (stepping maps m at budget)

-- A step of a set's walk: the key of that slot.
unfoldable pub set_step_of : IntMemory nothing → ℕ → ℕ → Numbers
set_step_of m at budget = step_said key_handed at (stepping sets m at budget)
