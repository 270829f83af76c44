-- The numbers that the paper prints for the answers of the calls that leave the key in a slot.
use Rattle.answers.specs.Cases.{NOW}
use Rattle.answers.specs.declared.Numbers.{Numbers}
use Rattle.answers.specs.Numbers.{refusal_numbers}
use Rattle.answers.specs.Said.{said_case}
use Rattle.std.specs.Prelude.{Result, ℕ, Ok, Err}
use Rattle.answers.specs.declared.Refusal.{Refusal}
use Rattle.int_map_occupied.specs.declared.Occupied.{Occupied}

-- Of a vacant handle's insert, or_insert and insert_entry: case 19, the value now in the slot, and the handle's slot.
unfoldable pub in_slot_numbers : Result (Occupied × ℕ) Refusal → Numbers
in_slot_numbers (Ok (h, v)) = said_case NOW 0 v h.slot 0
in_slot_numbers (Err r) = refusal_numbers r
