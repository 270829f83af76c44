-- The numbers that the paper prints for the answer of entry.
use Rattle.answers.specs.Cases.{OCCUPIED, VACANT}
use Rattle.answers.specs.declared.Numbers.{Numbers}
use Rattle.answers.specs.Numbers.{refusal_numbers}
use Rattle.answers.specs.Said.{said_case}
use Rattle.byte_map_entry.specs.declared.Entered.{Entered}
use Rattle.byte_map_entry.specs.declared.Entered.TheVariants.{Occupied, Vacant, Refused}

-- Case 12, occupied with slot, value and examined number, or 13, vacant with slot and examined number.
unfoldable pub entered_numbers : Entered → Numbers
entered_numbers (Occupied h v e) = said_case OCCUPIED 0 v h.slot e
entered_numbers (Vacant h e) = said_case VACANT 0 0 h.slot e
entered_numbers (Refused r) = refusal_numbers r
