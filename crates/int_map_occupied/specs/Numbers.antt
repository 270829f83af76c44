-- The numbers that the paper prints for the answers of occupied handles.
use Rattle.answers.specs.Cases.{REMOVED, VALUE, WAS}
use Rattle.answers.specs.declared.Numbers.{Numbers}
use Rattle.answers.specs.Numbers.{refusal_numbers}
use Rattle.answers.specs.Said.{said_case}
use Rattle.std.specs.Prelude.{Result, ℕ, Ok, Err}
use Rattle.answers.specs.declared.Refusal.{Refusal}
use Rattle.int_map_occupied.specs.declared.Occupied.{Occupied}

-- Of an occupied handle's get: case 17, the value and the handle's slot.
unfoldable pub held_numbers : Result (ℕ × Occupied) Refusal → Numbers
held_numbers (Ok (v, h)) = said_case VALUE 0 v h.slot 0
held_numbers (Err r) = refusal_numbers r

-- Of its set: case 18, the old value and the handle's slot.
unfoldable pub swapped_numbers : Result (ℕ × Occupied) Refusal → Numbers
swapped_numbers (Ok (v, h)) = said_case WAS 0 v h.slot 0
swapped_numbers (Err r) = refusal_numbers r

-- Of its remove: case 11, the value.
unfoldable pub taken_numbers : Result ℕ Refusal → Numbers
taken_numbers (Ok v) = said_case REMOVED 0 v 0 0
taken_numbers (Err r) = refusal_numbers r

-- Of its remove_entry: case 11, the key and the value.
unfoldable pub taken_entry_numbers : Result (ℕ × ℕ) Refusal → Numbers
taken_entry_numbers (Ok (k, v)) = said_case REMOVED k v 0 0
taken_entry_numbers (Err r) = refusal_numbers r
