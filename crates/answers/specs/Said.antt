-- The paper's numbers of what the calls of the theory say: a refusal's number and zeros elsewhere, or the numbers of its case.
-- Assumes nothing.
use Rattle.std.specs.Prelude.{ℕ, ◌-◌, cond, eqb}
use Rattle.model.specs.Calls.{Or, no, ok, Seen, found, absent, Spot, occupied, vacant}
use Rattle.model.specs.Walk.{StepAnswer, pair, nothing, done}
use Rattle.answers.specs.Cases.{DONE, COUNT, EMPTY, HOLDS, ROOM, FOUND, PRESENT, ABSENT, FRESH, REPLACED, REMOVED, OCCUPIED, VACANT, PAIR, NOTHING, WALK-DONE, VALUE, WAS, NOW}
use Rattle.answers.specs.declared.Numbers.{Numbers}

-- A refusal by its number.
abbrev pub said_no : ℕ → Numbers
said_no n = record { refusal = n; case = 0; key = 0; value = 0; slot = 0; examined = 0; walk = 0; offset = 0; length = 0 }

-- A case with what it carries.
abbrev pub said_case : ℕ → ℕ → ℕ → ℕ → ℕ → Numbers
said_case c k v s e =
    record { refusal = 0; case = c; key = k; value = v; slot = s; examined = e; walk = 0; offset = 0; length = 0 }

-- A case that names a part of the arena, by its offset and length.
abbrev pub said_span : ℕ → ℕ → ℕ → ℕ → ℕ → Numbers
said_span c s e o l =
    record { refusal = 0; case = c; key = 0; value = 0; slot = s; examined = e; walk = 0; offset = o; length = l }

-- The numbers of a step, with its walk.
abbrev pub walked : ℕ → ℕ → ℕ → ℕ → ℕ → ℕ → Numbers
walked refusal case key value examined walk =
    record { refusal = refusal; case = case; key = key; value = value; slot = 0; examined = examined; walk = walk; offset = 0; length = 0 }

-- make, clear, copy and union: done.
unfoldable pub done_said : {A : Type 0} → Or A → Numbers
done_said (no n) = said_no n
done_said (ok a) = said_case DONE 0 0 0 0

-- capacity and length: the count.
unfoldable pub count_said : Or ℕ → Numbers
count_said (no n) = said_no n
count_said (ok x) = said_case COUNT 0 x 0 0

-- is_empty: empty where the length is 0.
unfoldable pub empty_said : Or ℕ → Numbers
empty_said (no n) = said_no n
empty_said (ok x) = cond (eqb x 0) (said_case EMPTY 0 0 0 0) (said_case HOLDS 0 0 0 0)

-- reserve: room.
unfoldable pub room_said : {A : Type 0} → Or A → Numbers
room_said (no n) = said_no n
room_said (ok a) = said_case ROOM 0 0 0 0

-- A map's get: found or absent.
unfoldable pub got_said : Or (Seen ℕ) → Numbers
got_said (no n) = said_no n
got_said (ok (found v s e)) = said_case FOUND 0 v s e
got_said (ok (absent e)) = said_case ABSENT 0 0 0 e

-- An integer set's get of the key k: found or absent.
unfoldable pub member_said : {W : Type 0} → ℕ → Or (Seen W) → Numbers
member_said k (no n) = said_no n
member_said k (ok (found v s e)) = said_case FOUND k 0 s e
member_said k (ok (absent e)) = said_case ABSENT 0 0 0 e

-- contains: present or absent.
unfoldable pub contained_said : {W : Type 0} → Or (Seen W) → Numbers
contained_said (no n) = said_no n
contained_said (ok (found v s e)) = said_case PRESENT 0 0 0 e
contained_said (ok (absent e)) = said_case ABSENT 0 0 0 e

-- An integer map's insert: fresh or replaced.
unfoldable pub inserted_said : Or (Spot ℕ) → Numbers
inserted_said (no n) = said_no n
inserted_said (ok (vacant s e)) = said_case FRESH 0 0 s e
inserted_said (ok (occupied s v e)) = said_case REPLACED 0 v s e

-- An integer set's insert: fresh or already there.
unfoldable pub added_said : {W : Type 0} → Or (Spot W) → Numbers
added_said (no n) = said_no n
added_said (ok (vacant s e)) = said_case FRESH 0 0 s e
added_said (ok (occupied s v e)) = said_case REPLACED 0 0 s e

-- A map's remove: removed or absent.
unfoldable pub removed_said : Or (Seen ℕ) → Numbers
removed_said (no n) = said_no n
removed_said (ok (found v s e)) = said_case REMOVED 0 v s e
removed_said (ok (absent e)) = said_case ABSENT 0 0 0 e

-- A set's remove: removed or absent.
unfoldable pub dropped_said : {W : Type 0} → Or (Seen W) → Numbers
dropped_said (no n) = said_no n
dropped_said (ok (found v s e)) = said_case REMOVED 0 0 s e
dropped_said (ok (absent e)) = said_case ABSENT 0 0 0 e

-- What a step hands out: a pair's key and value, or its key's offset and length, with the walk moved on and the examined number.
abbrev pub handed : ℕ → ℕ → ℕ → ℕ → ℕ → ℕ → Numbers
handed k v o l x e =
    record { refusal = 0; case = PAIR; key = k; value = v; slot = 0; examined = e; walk = x; offset = o; length = l }

-- An integer map hands out key and value.
abbrev pub pair_handed : ℕ → ℕ → ℕ → ℕ → Numbers
pair_handed k v x e = handed k v 0 0 x e

-- An integer set hands out the key.
abbrev pub key_handed : ℕ → Unit {0} → ℕ → ℕ → Numbers
key_handed k v x e = handed k 0 0 0 x e

-- A walk's step from w: what it hands out, nothing or done, with the walk moved on; a refusal with the walk as it came.
unfoldable pub step_said : {K W : Type 0} → (K → W → ℕ → ℕ → Numbers) → ℕ → Or (StepAnswer K W) → Numbers
step_said hand w (no n) = walked n 0 0 0 0 w
step_said hand w (ok (pair k v x e)) = hand k v x e
step_said hand w (ok (nothing x e)) = walked 0 NOTHING 0 0 e x
step_said hand w (ok (done x)) = walked 0 WALK-DONE 0 0 0 x

-- entry: occupied or vacant.
unfoldable pub entered_said : Or (Spot ℕ) → Numbers
entered_said (no n) = said_no n
entered_said (ok (occupied s v e)) = said_case OCCUPIED 0 v s e
entered_said (ok (vacant s e)) = said_case VACANT 0 0 s e

-- An occupied handle's get, with its slot: the value.
unfoldable pub held_said : ℕ → Or ℕ → Numbers
held_said s (no n) = said_no n
held_said s (ok v) = said_case VALUE 0 v s 0

-- Its set: the old value.
unfoldable pub swapped_said : ℕ → Or ℕ → Numbers
swapped_said s (no n) = said_no n
swapped_said s (ok v) = said_case WAS 0 v s 0

-- Its remove: the value that was there.
unfoldable pub taken_said : Or ℕ → Numbers
taken_said (no n) = said_no n
taken_said (ok v) = said_case REMOVED 0 v 0 0

-- Its remove_entry: the key too.
unfoldable pub taken_entry_said : ℕ → Or ℕ → Numbers
taken_entry_said k (no n) = said_no n
taken_entry_said k (ok v) = said_case REMOVED k v 0 0

-- A vacant handle's insert, or_insert and insert_entry, with the slot: the value now there.
unfoldable pub in_slot_said : ℕ → Or ℕ → Numbers
in_slot_said s (no n) = said_no n
in_slot_said s (ok v) = said_case NOW 0 v s 0

-- A byte map's insert, with the offset that a fresh key gets: fresh or replaced.
unfoldable pub stored_said : ℕ → Or (Spot ℕ) → Numbers
stored_said o (no n) = said_no n
stored_said o (ok (vacant s e)) = said_span FRESH s e o 0
stored_said o (ok (occupied s v e)) = said_case REPLACED 0 v s e

-- A byte set's insert, with the offset that a fresh key gets: fresh or already there.
unfoldable pub joined_said : {W : Type 0} → ℕ → Or (Spot W) → Numbers
joined_said o (no n) = said_no n
joined_said o (ok (vacant s e)) = said_span FRESH s e o 0
joined_said o (ok (occupied s v e)) = said_case REPLACED 0 0 s e

-- A byte set's get, by the offset and the length of each slot: the stored key's span, or absent.
unfoldable pub spanned_said : {W : Type 0} → (ℕ → ℕ) → (ℕ → ℕ) → Or (Seen W) → Numbers
spanned_said offset length (no n) = said_no n
spanned_said offset length (ok (found v s e)) = said_span FOUND s e (offset s) (length s)
spanned_said offset length (ok (absent e)) = said_case ABSENT 0 0 0 e

-- A byte map hands out the key's offset and length, and the value; the pair's slot is the one before the walk.
abbrev pub span_handed : {K : Type 0} → (ℕ → ℕ) → (ℕ → ℕ) → K → ℕ → ℕ → ℕ → Numbers
span_handed offset length k v x e = handed 0 v (offset (x - 1)) (length (x - 1)) x e

-- A byte set hands out the key's offset and length.
abbrev pub span_only_handed : {K : Type 0} → (ℕ → ℕ) → (ℕ → ℕ) → K → Unit {0} → ℕ → ℕ → Numbers
span_only_handed offset length k v x e = handed 0 0 (offset (x - 1)) (length (x - 1)) x e
