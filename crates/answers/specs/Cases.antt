-- The paper's numbers of the cases of an answer: the one place where they are named, by the words of the C header.
-- Assumes nothing.
use Rattle.std.specs.Prelude.{ℕ}
use Rattle.answers.specs.declared.Case.{Case}
use Rattle.answers.specs.declared.Case.TheVariants.{Done, Count, Empty, Holds, Room, Found, Present, Absent, Fresh, Replaced, Removed, Occupied, Vacant, Pair, Nothing, WalkDone, Value, Was, Now}

-- make, clear, copy and union are done.
abbrev pub DONE : ℕ
DONE = 1

-- A number of slots or keys.
abbrev pub COUNT : ℕ
COUNT = 2

-- is_empty: no key, or some.
abbrev pub EMPTY : ℕ
EMPTY = 3

abbrev pub HOLDS : ℕ
HOLDS = 4

-- reserve: so many slots are not live, and in byte tables so many arena bytes not used.
abbrev pub ROOM : ℕ
ROOM = 5

-- get found the key.
abbrev pub FOUND : ℕ
FOUND = 6

-- contains: the key is there; and of get, contains and remove: it is not.
abbrev pub PRESENT : ℕ
PRESENT = 7

abbrev pub ABSENT : ℕ
ABSENT = 8

-- insert: the key went to a free slot, or it was there already, and in a map its value was replaced.
abbrev pub FRESH : ℕ
FRESH = 9

abbrev pub REPLACED : ℕ
REPLACED = 10

-- The key was taken out.
abbrev pub REMOVED : ℕ
REMOVED = 11

-- entry: where the key stands, or would go.
abbrev pub OCCUPIED : ℕ
OCCUPIED = 12

abbrev pub VACANT : ℕ
VACANT = 13

-- A step of a walk: a pair or a set's key, nothing within its budget, or the walk is at its end.
abbrev pub PAIR : ℕ
PAIR = 14

abbrev pub NOTHING : ℕ
NOTHING = 15

abbrev pub WALK-DONE : ℕ
WALK-DONE = 16

-- A handle's calls: the value in the slot, the value that was there, the value now there.
abbrev pub VALUE : ℕ
VALUE = 17

abbrev pub WAS : ℕ
WAS = 18

abbrev pub NOW : ℕ
NOW = 19

-- The number of a case that the code names.
abbrev pub case_number : Case → ℕ
case_number Done = DONE
case_number Count = COUNT
case_number Empty = EMPTY
case_number Holds = HOLDS
case_number Room = ROOM
case_number Found = FOUND
case_number Present = PRESENT
case_number Absent = ABSENT
case_number Fresh = FRESH
case_number Replaced = REPLACED
case_number Removed = REMOVED
case_number Occupied = OCCUPIED
case_number Vacant = VACANT
case_number Pair = PAIR
case_number Nothing = NOTHING
case_number WalkDone = WALK-DONE
case_number Value = VALUE
case_number Was = WAS
case_number Now = NOW
