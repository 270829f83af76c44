-- What the scan of all slots finds.
use Rattle.std.specs.Prelude.{ℕ, zero, suc, ◌+◌, List, length, get_or}
use Rattle.kinds.specs.Marks.{counted}
use Rattle.kinds.specs.Scanning.{scanning_of}
use Rattle.byte_slots.specs.Memory.{Spans}
use Rattle.byte_slots.specs.Marks.{mark_of}
use Rattle.std.specs.Prelude.{Result}
use Rattle.answers.specs.declared.Refusal.{Refusal}

-- The scan of all slots: damage, else the number of live slots.
unfoldable pub scanning : Spans → Result ℕ Refusal
scanning s = scanning_of (mark_of s) (length s.marks)

-- How many of the first n marks are 1.
unfoldable pub live_marks : List ℕ → ℕ → ℕ
live_marks marks zero = 0
live_marks marks (suc n) = live_marks marks n + counted (get_or marks n 0)
