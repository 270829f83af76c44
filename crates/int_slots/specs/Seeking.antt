-- The probing of a key in a table with a column beside its keys: refusal 1 where the column does not fit, else the probing.
use Rattle.std.specs.Prelude.{ℕ, cond, length}
use Rattle.answers.specs.declared.Refusal.TheVariants.{Sizes}
use Rattle.kinds.specs.Columns.{Column, values}
use Rattle.int_slots.specs.Memory.{IntMemory}
use Rattle.int_slots.specs.Probing.{probing}
use Rattle.std.specs.Prelude.{Result, Err}
use Rattle.answers.specs.declared.Refusal.{Refusal}
use Rattle.kinds.specs.declared.Probed.{Probed}

unfoldable pub probing_beside : {W : Type 0} (C : Column W) → IntMemory C → ℕ → Result Probed Refusal
probing_beside C m k = cond (C.long m.words (length m.marks)) (probing m.marks m.keys k) (Err Sizes)

-- In a map.
unfoldable pub probing_map : IntMemory values → ℕ → Result Probed Refusal
probing_map m k = probing_beside values m k
