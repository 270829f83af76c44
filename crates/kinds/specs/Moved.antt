-- What a step of a lent walk tells and leaves.
use Rattle.std.specs.Prelude.{ℕ}
use Rattle.answers.specs.declared.Numbers.{Numbers}
use Rattle.kinds.specs.Told.{ToldAndLeft, told}

-- The step's numbers, and in the walk's place the walk that they tell.
unfoldable pub moved_on : Numbers → ToldAndLeft ℕ
moved_on n = told n n.walk
