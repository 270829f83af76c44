-- What the own calls of integer maps and integer sets tell, and what they leave: the theory's calls, at these stores.
use Rattle.std.specs.Prelude.{ℕ}
use Rattle.model.specs.Calls.{get, entry, after_insert, occupied_remove, after_drop, vacancy}
use Rattle.answers.specs.declared.Numbers.{Numbers}
use Rattle.answers.specs.Said.{done_said, inserted_said, added_said, member_said, taken_entry_said}
use Rattle.kinds.specs.Columns.{values, nothing}
use Rattle.kinds.specs.Told.{ToldAndLeft, told}
use Rattle.int_slots.specs.Memory.{IntMemory}
use Rattle.int_slots.specs.Maps.{maps}
use Rattle.int_slots.specs.Sets.{sets}

-- A map's insert: the key's value changes in its slot, or the first free slot of its path takes the key.
unfoldable pub insert_of : IntMemory values → ℕ → ℕ → ToldAndLeft (IntMemory values)
insert_of m k v = told (inserted_said (entry maps m k)) (after_insert maps m k v)

-- Whether a vacant handle of a map is good: insert would use its very slot.
unfoldable pub vacancy_of : IntMemory values → ℕ → ℕ → Numbers
vacancy_of m s k = done_said (vacancy maps m s k)

-- An occupied handle's remove_entry: the slot is freed, and the key is told beside its value.
unfoldable pub remove_entry_of : IntMemory values → ℕ → ℕ → ToldAndLeft (IntMemory values)
remove_entry_of m s k = told (taken_entry_said k (occupied_remove maps m s k)) (after_drop maps m s k)

-- A set's insert: the first free slot of the key's path takes it; a key that is there stores nothing.
unfoldable pub set_insert_of : IntMemory nothing → ℕ → ToldAndLeft (IntMemory nothing)
set_insert_of m k = told (added_said (entry sets m k)) (after_insert sets m k tt)

-- A set's get: the key itself, where it is there.
unfoldable pub set_get_of : IntMemory nothing → ℕ → Numbers
set_get_of m k = member_said k (get sets m k)
