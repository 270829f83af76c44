-- Byte maps and byte sets as stores, and what their own calls tell: those that name an offset or a span.
use Rattle.std.specs.Prelude.{ℕ, List}
use Rattle.model.specs.Store.{Store}
use Rattle.model.specs.Calls.{get, entry, after_insert}
use Rattle.model.specs.Machine.{stepping}
use Rattle.answers.specs.declared.Numbers.{Numbers}
use Rattle.answers.specs.Said.{stored_said, joined_said, spanned_said, span_handed, span_only_handed, step_said}
use Rattle.kinds.specs.Columns.{values, nothing}
use Rattle.kinds.specs.Told.{ToldAndLeft, told}
use Rattle.byte_slots.specs.Memory.{Spans, ByteMemory, byte_store, used_of, memory, offset_of, length_of}

-- The lent arrays of a byte set, and of a byte map.
abbrev pub SetMemory : Type 0
SetMemory = ByteMemory nothing

abbrev pub MapMemory : Type 0
MapMemory = ByteMemory values

-- A byte map as a store, and its lent lists.
abbrev pub maps : Store (List ℕ) ℕ
maps = byte_store values

abbrev pub map_memory : List ℕ → List ℕ → List ℕ → List ℕ → List ℕ → ByteMemory values
map_memory marks offsets lengths vs arena = memory values marks offsets lengths arena vs

-- A byte set as a store, and its lent lists.
abbrev pub sets : Store (List ℕ) (Unit {0})
sets = byte_store nothing

abbrev pub set_memory : List ℕ → List ℕ → List ℕ → List ℕ → ByteMemory nothing
set_memory marks offsets lengths arena = memory nothing marks offsets lengths arena tt

-- The map of the keys' set with these values.
abbrev pub map_of : SetMemory → List ℕ → MapMemory
map_of m vs = record { spans = m.spans; words = vs }

-- The lists of the keys as those of a set.
abbrev pub as_set : Spans → ByteMemory nothing
as_set s = record { spans = s; words = tt }

-- A byte map's insert: a fresh key goes to the offset `used`.
unfoldable pub insert_of : ByteMemory values → List ℕ → ℕ → ToldAndLeft (ByteMemory values)
insert_of m k v = told (stored_said (used_of m.spans) (entry maps m k)) (after_insert maps m k v)

-- A byte set's insert: a fresh key goes to the offset `used`.
unfoldable pub set_insert_of : ByteMemory nothing → List ℕ → ToldAndLeft (ByteMemory nothing)
set_insert_of m k = told (joined_said (used_of m.spans) (entry sets m k)) (after_insert sets m k tt)

-- A byte set's get: the stored key's span.
unfoldable pub set_get_of : ByteMemory nothing → List ℕ → Numbers
set_get_of m k = spanned_said (offset_of m.spans) (length_of m.spans) (get sets m k)

-- A step of a byte map's walk with a budget: the pair of the first live slot within it, nothing, or done; the walk moved on.
unfoldable pub step_of : ByteMemory values → ℕ → ℕ → Numbers
step_of m at budget = step_said (span_handed (offset_of m.spans) (length_of m.spans)) at (stepping maps m at budget)

-- The same for a byte set.
unfoldable pub set_step_of : ByteMemory nothing → ℕ → ℕ → Numbers
set_step_of m at budget = step_said (span_only_handed (offset_of m.spans) (length_of m.spans)) at (stepping sets m at budget)
