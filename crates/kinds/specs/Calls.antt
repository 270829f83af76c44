-- What each call tells and leaves, at any store: the definitions that the contracts of all kinds cite.
use Rattle.std.specs.Prelude.{ℕ, Bool}
use Rattle.model.specs.Store.{Store}
use Rattle.model.specs.Calls.{Handle, on_occupied, on_vacant, get, entry, remove, after_remove, capacity, after_make, length, reserve, copy, after_copy, union, after_union, occupied_get, after_set, occupied_remove, after_drop, vacant_insert, after_fill, or_insert, after_or_insert, insert_entry, after_insert_entry}
use Rattle.answers.specs.declared.Numbers.{Numbers}
use Rattle.answers.specs.Said.{done_said, count_said, empty_said, room_said, got_said, contained_said, removed_said, dropped_said, entered_said, held_said, swapped_said, taken_said, in_slot_said}
use Rattle.kinds.specs.Told.{ToldAndLeft, told}

module _ {K W : Type 0} (M : Store K W) where
  -- Whether the lent lists have sizes that a table may have.
  unfoldable pub sized_of : M.State → Bool
  sized_of m = M.sized m

  -- make and clear: every mark, word and arena byte becomes 0.
  unfoldable pub make_of : M.State → ToldAndLeft M.State
  make_of m = told (done_said (capacity M m)) (after_make M m)

  -- capacity: the number of slots.
  unfoldable pub capacity_of : M.State → Numbers
  capacity_of m = count_said (capacity M m)

  -- len: the number of live marks.
  unfoldable pub len_of : M.State → Numbers
  len_of m = count_said (length M m)

  -- is_empty: whether no mark is live.
  unfoldable pub is_empty_of : M.State → Numbers
  is_empty_of m = empty_said (length M m)

  -- reserve: room for so many keys, of so many bytes in all.
  unfoldable pub reserve_of : M.State → ℕ → ℕ → Numbers
  reserve_of m n b = room_said (reserve M m n b)

  -- contains: whether the key is there.
  unfoldable pub contains_of : M.State → K → Numbers
  contains_of m k = contained_said (get M m k)

  -- copy: every slot and byte becomes that of the other table.
  unfoldable pub copy_of : M.State → M.State → ToldAndLeft M.State
  copy_of to from = told (done_said (copy M to from)) (after_copy M to from)

  -- A set's remove: the slot is freed.
  unfoldable pub dropped_of : M.State → K → ToldAndLeft M.State
  dropped_of m k = told (dropped_said (remove M m k)) (after_remove M m k)

  -- union_prefer_right: the right's pairs go into the left, all or none.
  unfoldable pub union_of : M.State → M.State → ToldAndLeft M.State
  union_of l r = told (done_said (union M l r)) (after_union M l r)

-- The slot of a handle.
unfoldable pub slot_of : Handle → ℕ
slot_of (on_occupied s) = s
slot_of (on_vacant s) = s

module _ {K : Type 0} (M : Store K ℕ) where
  -- A map's get: the key's value.
  unfoldable pub get_of : M.State → K → Numbers
  get_of m k = got_said (get M m k)

  -- A map's remove: the slot is freed.
  unfoldable pub remove_of : M.State → K → ToldAndLeft M.State
  remove_of m k = told (removed_said (remove M m k)) (after_remove M m k)

  -- entry: where the key stands or would go.
  unfoldable pub entry_of : M.State → K → Numbers
  entry_of m k = entered_said (entry M m k)

  -- An occupied handle's get: the value in its slot.
  unfoldable pub held_of : M.State → ℕ → K → Numbers
  held_of m s k = held_said s (occupied_get M m s k)

  -- Its set: the slot's value changes.
  unfoldable pub set_of : M.State → ℕ → K → ℕ → ToldAndLeft M.State
  set_of m s k v = told (swapped_said s (occupied_get M m s k)) (after_set M m s k v)

  -- Its remove and remove_entry: the slot is freed.
  unfoldable pub taken_of : M.State → ℕ → K → ToldAndLeft M.State
  taken_of m s k = told (taken_said (occupied_remove M m s k)) (after_drop M m s k)

  -- A vacant handle's insert: its slot takes the key and the value.
  unfoldable pub vacant_insert_of : M.State → ℕ → K → ℕ → ToldAndLeft M.State
  vacant_insert_of m s k v = told (in_slot_said s (vacant_insert M m s k v)) (after_fill M m s k v)

  -- or_insert: a present value stays, else the default goes in.
  unfoldable pub or_insert_of : M.State → Handle → K → ℕ → ToldAndLeft M.State
  or_insert_of m h k v = told (in_slot_said (slot_of h) (or_insert M m h k v)) (after_or_insert M m h k v)

  -- insert_entry: a present value is replaced, else the value goes in.
  unfoldable pub insert_entry_of : M.State → Handle → K → ℕ → ToldAndLeft M.State
  insert_entry_of m h k v = told (in_slot_said (slot_of h) (insert_entry M m h k v)) (after_insert_entry M m h k v)
