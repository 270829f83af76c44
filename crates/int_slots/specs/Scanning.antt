-- What the scan of all marks finds.
use Rattle.std.specs.Prelude.{ℕ, List, length}
use Rattle.kinds.specs.Marks.{words_of}
use Rattle.kinds.specs.Scanning.{scanning_of}
use Rattle.std.specs.Prelude.{Result}
use Rattle.answers.specs.declared.Refusal.{Refusal}

-- The scan of all marks: damage, else the number of live slots.
unfoldable pub scanning : List ℕ → Result ℕ Refusal
scanning marks = scanning_of (words_of marks) (length marks)
