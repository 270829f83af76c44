-- The numbers that the paper prints for the answers that are declared here.
-- Assumes nothing.
use Rattle.answers.specs.Cases.{DONE, COUNT, EMPTY, HOLDS, ROOM, FOUND, PRESENT, ABSENT, FRESH, REPLACED, REMOVED}
use Rattle.answers.specs.declared.Refusal.{Refusal}
use Rattle.answers.specs.declared.Numbers.{Numbers}
use Rattle.answers.specs.Refusals.{number_of}
use Rattle.answers.specs.Said.{said_no, said_case, said_span}
use Rattle.std.specs.Prelude.{Result, ℕ, Ok, Err, Bool, true, false}
use Rattle.answers.specs.declared.Lookup.{Lookup}
use Rattle.answers.specs.declared.Lookup.TheVariants.{Found, Absent}
use Rattle.answers.specs.declared.Contained.{Contained}
use Rattle.answers.specs.declared.Contained.TheVariants as contained
use Rattle.answers.specs.declared.Inserted.{Inserted}
use Rattle.answers.specs.declared.Inserted.TheVariants as inserted
use Rattle.answers.specs.declared.Stored.{Stored}
use Rattle.answers.specs.declared.Stored.TheVariants as stored
use Rattle.answers.specs.declared.Span.{Span}

-- A refusal: its number, and zeros elsewhere.
abbrev pub refusal_numbers : Refusal → Numbers
refusal_numbers r = said_no (number_of r)

-- The answer of the home slot: case 1 with the slot, or a refusal.
abbrev pub homed_numbers : Result ℕ Refusal → Numbers
homed_numbers (Ok s) = said_case DONE 0 0 s 0
homed_numbers (Err r) = refusal_numbers r

-- Of make, clear, copy and union: case 1, done.
unfoldable pub outcome_numbers : Result (Unit {0}) Refusal → Numbers
outcome_numbers (Ok u) = said_case DONE 0 0 0 0
outcome_numbers (Err r) = refusal_numbers r

-- Of capacity and length: case 2, the count as its value.
unfoldable pub counted_numbers : Result ℕ Refusal → Numbers
counted_numbers (Ok n) = said_case COUNT 0 n 0 0
counted_numbers (Err r) = refusal_numbers r

-- Of is_empty: case 3, empty, or 4, it holds keys.
unfoldable pub emptiness_numbers : Result Bool Refusal → Numbers
emptiness_numbers (Ok true) = said_case EMPTY 0 0 0 0
emptiness_numbers (Ok false) = said_case HOLDS 0 0 0 0
emptiness_numbers (Err r) = refusal_numbers r

-- Of reserve: case 5, room.
unfoldable pub reserved_numbers : Result (Unit {0}) Refusal → Numbers
reserved_numbers (Ok u) = said_case ROOM 0 0 0 0
reserved_numbers (Err r) = refusal_numbers r

-- Of a map's get: case 6, found with value, slot and examined number, or 8, absent with examined number.
unfoldable pub got_numbers : Result (Lookup ℕ) Refusal → Numbers
got_numbers (Ok (Found v s e)) = said_case FOUND 0 v s e
got_numbers (Ok (Absent e)) = said_case ABSENT 0 0 0 e
got_numbers (Err r) = refusal_numbers r

-- Of an integer set's get: case 6, found with key, slot and examined number, or 8, absent with examined number.
unfoldable pub member_numbers : Result (Lookup ℕ) Refusal → Numbers
member_numbers (Ok (Found k s e)) = said_case FOUND k 0 s e
member_numbers (Ok (Absent e)) = said_case ABSENT 0 0 0 e
member_numbers (Err r) = refusal_numbers r

-- Of contains: case 7, present, or 8, absent, with examined number.
unfoldable pub contained_numbers : Result Contained Refusal → Numbers
contained_numbers (Ok (contained.Present e)) = said_case PRESENT 0 0 0 e
contained_numbers (Ok (contained.Absent e)) = said_case ABSENT 0 0 0 e
contained_numbers (Err r) = refusal_numbers r

-- Of an integer map's insert: case 9, fresh with slot and examined number, or 10, replaced with the old value too.
unfoldable pub inserted_numbers : Result (Inserted ℕ) Refusal → Numbers
inserted_numbers (Ok (inserted.Fresh s e)) = said_case FRESH 0 0 s e
inserted_numbers (Ok (inserted.Replaced v s e)) = said_case REPLACED 0 v s e
inserted_numbers (Err r) = refusal_numbers r

-- Of an integer set's insert: case 9, fresh, or 10, already there, with slot and examined number.
unfoldable pub added_numbers : Result (Inserted (Unit {0})) Refusal → Numbers
added_numbers (Ok (inserted.Fresh s e)) = said_case FRESH 0 0 s e
added_numbers (Ok (inserted.Replaced u s e)) = said_case REPLACED 0 0 s e
added_numbers (Err r) = refusal_numbers r

-- Of a map's remove: case 11, removed with value, slot and examined number, or 8, absent with examined number.
unfoldable pub removed_numbers : Result (Lookup ℕ) Refusal → Numbers
removed_numbers (Ok (Found v s e)) = said_case REMOVED 0 v s e
removed_numbers (Ok (Absent e)) = said_case ABSENT 0 0 0 e
removed_numbers (Err r) = refusal_numbers r

-- Of a set's remove: case 11, removed with slot and examined number, or 8, absent with examined number.
unfoldable pub dropped_numbers : Result (Lookup (Unit {0})) Refusal → Numbers
dropped_numbers (Ok (Found u s e)) = said_case REMOVED 0 0 s e
dropped_numbers (Ok (Absent e)) = said_case ABSENT 0 0 0 e
dropped_numbers (Err r) = refusal_numbers r

-- Of a byte map's insert: case 9, fresh with slot, offset and examined number, or 10, replaced with the old value, slot and examined number.
unfoldable pub stored_numbers : Result (Stored ℕ) Refusal → Numbers
stored_numbers (Ok (stored.Fresh s o e)) = said_span FRESH s e o 0
stored_numbers (Ok (stored.Replaced v s e)) = said_case REPLACED 0 v s e
stored_numbers (Err r) = refusal_numbers r

-- Of a byte set's insert: case 9, fresh with slot, offset and examined number, or 10, already there with slot and examined number.
unfoldable pub joined_numbers : Result (Stored (Unit {0})) Refusal → Numbers
joined_numbers (Ok (stored.Fresh s o e)) = said_span FRESH s e o 0
joined_numbers (Ok (stored.Replaced u s e)) = said_case REPLACED 0 0 s e
joined_numbers (Err r) = refusal_numbers r

-- Of a byte set's get: case 6, found with offset, length, slot and examined number, or 8, absent with examined number.
unfoldable pub spanned_numbers : Result (Lookup Span) Refusal → Numbers
spanned_numbers (Ok (Found p s e)) = said_span FOUND s e p.offset p.length
spanned_numbers (Ok (Absent e)) = said_case ABSENT 0 0 0 e
spanned_numbers (Err r) = refusal_numbers r
