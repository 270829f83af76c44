-- The numbers that the paper prints for a step of a walk of an integer map.
use Rattle.std.specs.Prelude.{ℕ}
use Rattle.answers.specs.declared.Numbers.{Numbers}
use Rattle.tables.specs.Handing.{numbers_of, pair_parts}
use Rattle.tables.specs.declared.walks.Stepped.{Stepped}

abbrev pub step_numbers : Stepped (ℕ × ℕ) → Numbers
step_numbers s = numbers_of pair_parts s
