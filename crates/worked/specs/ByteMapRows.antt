-- The worked numbers of the byte map, S = 4, arena 3, from any memory on, in order: each published call, the paper's numbers of its answer, and all lent lists after it. The scope's own rows, and rows for the calls that it does not work.
use Rattle.std.specs.Prelude.{ℕ, cond, List, [], ◌∷◌, eqb}
use Rattle.answers.specs.declared.Numbers.{Numbers}
use Rattle.kinds.specs.Columns.{values}
use Rattle.kinds.specs.Told.{ToldAndLeft, told}
use Rattle.byte_slots.specs.Memory.{ByteMemory}
use Rattle.byte_slots.specs.Kinds.{map_memory}
use Rattle.byte_map_entry.specs.declared.Entered.{Entered}
use Rattle.byte_map_entry.specs.declared.Entered.TheVariants.{Occupied}
use Rattle.promises.specs.ByteMap.{Call, make, clear, capacity, len, is_empty, reserve, get, contains_key, remove, entry, copy, union_prefer_right, insert, occupied_get, occupied_remove, occupied_remove_entry, step, occupied_set, vacant_insert, or_insert, insert_entry, told_by}
use Rattle.worked.specs.Rows.{Row}

-- Another table, number 1.
unfoldable pub other : ByteMemory values
other = map_memory (0 ∷ 1 ∷ 0 ∷ 0 ∷ []) (0 ∷ 0 ∷ 0 ∷ 0 ∷ []) (0 ∷ 0 ∷ 0 ∷ 0 ∷ []) (0 ∷ 77 ∷ 0 ∷ 0 ∷ []) (0 ∷ 0 ∷ 0 ∷ [])

-- What a call on the table 0 tells and leaves, by the definition that its contract cites.
unfoldable pub done : ByteMemory values → Call → ToldAndLeft (ByteMemory values)
done m c = told_by (λ y. cond (eqb y 0) m other) 0 c

-- Some memory of 4 slots and 3 arena bytes.
unfoldable pub before : ByteMemory values
before = map_memory (9 ∷ 1 ∷ 2 ∷ 0 ∷ []) (7 ∷ 7 ∷ 7 ∷ 7 ∷ []) (9 ∷ 9 ∷ 9 ∷ 9 ∷ []) (1 ∷ 2 ∷ 3 ∷ 4 ∷ []) (5 ∷ 6 ∷ 7 ∷ [])

-- An entry's answer, occupied in slot 2.
abbrev held : Entered
held = Occupied (record { slot = 2 }) 32 4

-- refusal, case, value, slot, examined, walk, offset, length
abbrev line : ℕ → ℕ → ℕ → ℕ → ℕ → ℕ → ℕ → ℕ → Numbers
line r c v s e w o l = record { refusal = r; case = c; key = 0; value = v; slot = s; examined = e; walk = w; offset = o; length = l }

abbrev row : Call → Numbers → List ℕ → List ℕ → List ℕ → List ℕ → List ℕ → Row Call (ByteMemory values)
row c n marks offsets lengths vs arena = record { order = c; tells = told n (map_memory marks offsets lengths vs arena) }

unfoldable pub rows : List (Row Call (ByteMemory values))
rows =
    -- make, on any memory: done, all 0
    row make (line 0 1 0 0 0 0 0 0) (0 ∷ 0 ∷ 0 ∷ 0 ∷ []) (0 ∷ 0 ∷ 0 ∷ 0 ∷ []) (0 ∷ 0 ∷ 0 ∷ 0 ∷ []) (0 ∷ 0 ∷ 0 ∷ 0 ∷ []) (0 ∷ 0 ∷ 0 ∷ []) ∷
    -- is_empty: empty
    row is_empty (line 0 3 0 0 0 0 0 0) (0 ∷ 0 ∷ 0 ∷ 0 ∷ []) (0 ∷ 0 ∷ 0 ∷ 0 ∷ []) (0 ∷ 0 ∷ 0 ∷ 0 ∷ []) (0 ∷ 0 ∷ 0 ∷ 0 ∷ []) (0 ∷ 0 ∷ 0 ∷ []) ∷
    -- insert the empty key: slot 1, offset 0
    row (insert [] 20) (line 0 9 0 1 1 0 0 0) (0 ∷ 1 ∷ 0 ∷ 0 ∷ []) (0 ∷ 0 ∷ 0 ∷ 0 ∷ []) (0 ∷ 0 ∷ 0 ∷ 0 ∷ []) (0 ∷ 20 ∷ 0 ∷ 0 ∷ []) (0 ∷ 0 ∷ 0 ∷ []) ∷
    -- insert "ab": slot 2, offset 0
    row (insert (97 ∷ 98 ∷ []) 21) (line 0 9 0 2 1 0 0 0) (0 ∷ 1 ∷ 1 ∷ 0 ∷ []) (0 ∷ 0 ∷ 0 ∷ 0 ∷ []) (0 ∷ 0 ∷ 2 ∷ 0 ∷ []) (0 ∷ 20 ∷ 21 ∷ 0 ∷ []) (97 ∷ 98 ∷ 0 ∷ []) ∷
    -- insert "c": slot 3, offset 2
    row (insert (99 ∷ []) 22) (line 0 9 0 3 2 0 2 0) (0 ∷ 1 ∷ 1 ∷ 1 ∷ []) (0 ∷ 0 ∷ 0 ∷ 2 ∷ []) (0 ∷ 0 ∷ 2 ∷ 1 ∷ []) (0 ∷ 20 ∷ 21 ∷ 22 ∷ []) (97 ∷ 98 ∷ 99 ∷ []) ∷
    -- insert "d": refused 8
    row (insert (100 ∷ []) 23) (line 8 0 0 0 0 0 0 0) (0 ∷ 1 ∷ 1 ∷ 1 ∷ []) (0 ∷ 0 ∷ 0 ∷ 2 ∷ []) (0 ∷ 0 ∷ 2 ∷ 1 ∷ []) (0 ∷ 20 ∷ 21 ∷ 22 ∷ []) (97 ∷ 98 ∷ 99 ∷ []) ∷
    -- remove "ab": "c" has offset 0, the arena is "c", 0, 0
    row (remove (97 ∷ 98 ∷ [])) (line 0 11 21 2 1 0 0 0) (0 ∷ 1 ∷ 2 ∷ 1 ∷ []) (0 ∷ 0 ∷ 0 ∷ 0 ∷ []) (0 ∷ 0 ∷ 0 ∷ 1 ∷ []) (0 ∷ 20 ∷ 0 ∷ 22 ∷ []) (99 ∷ 0 ∷ 0 ∷ []) ∷
    -- insert "d": slot 0, offset 1
    row (insert (100 ∷ []) 24) (line 0 9 0 0 2 0 1 0) (1 ∷ 1 ∷ 2 ∷ 1 ∷ []) (1 ∷ 0 ∷ 0 ∷ 0 ∷ []) (1 ∷ 0 ∷ 0 ∷ 1 ∷ []) (24 ∷ 20 ∷ 0 ∷ 22 ∷ []) (99 ∷ 100 ∷ 0 ∷ []) ∷
    -- get "c": found 22, slot 3, examined 2; get "ab": absent, examined 4
    row (get (99 ∷ [])) (line 0 6 22 3 2 0 0 0) (1 ∷ 1 ∷ 2 ∷ 1 ∷ []) (1 ∷ 0 ∷ 0 ∷ 0 ∷ []) (1 ∷ 0 ∷ 0 ∷ 1 ∷ []) (24 ∷ 20 ∷ 0 ∷ 22 ∷ []) (99 ∷ 100 ∷ 0 ∷ []) ∷
    row (get (97 ∷ 98 ∷ [])) (line 0 8 0 0 4 0 0 0) (1 ∷ 1 ∷ 2 ∷ 1 ∷ []) (1 ∷ 0 ∷ 0 ∷ 0 ∷ []) (1 ∷ 0 ∷ 0 ∷ 1 ∷ []) (24 ∷ 20 ∷ 0 ∷ 22 ∷ []) (99 ∷ 100 ∷ 0 ∷ []) ∷
    -- contains "d": present, examined 2; contains "ab": absent, examined 4
    row (contains_key (100 ∷ [])) (line 0 7 0 0 2 0 0 0) (1 ∷ 1 ∷ 2 ∷ 1 ∷ []) (1 ∷ 0 ∷ 0 ∷ 0 ∷ []) (1 ∷ 0 ∷ 0 ∷ 1 ∷ []) (24 ∷ 20 ∷ 0 ∷ 22 ∷ []) (99 ∷ 100 ∷ 0 ∷ []) ∷
    row (contains_key (97 ∷ 98 ∷ [])) (line 0 8 0 0 4 0 0 0) (1 ∷ 1 ∷ 2 ∷ 1 ∷ []) (1 ∷ 0 ∷ 0 ∷ 0 ∷ []) (1 ∷ 0 ∷ 0 ∷ 1 ∷ []) (24 ∷ 20 ∷ 0 ∷ 22 ∷ []) (99 ∷ 100 ∷ 0 ∷ []) ∷
    -- len: 3; is_empty: holds keys; capacity: 4
    row len (line 0 2 3 0 0 0 0 0) (1 ∷ 1 ∷ 2 ∷ 1 ∷ []) (1 ∷ 0 ∷ 0 ∷ 0 ∷ []) (1 ∷ 0 ∷ 0 ∷ 1 ∷ []) (24 ∷ 20 ∷ 0 ∷ 22 ∷ []) (99 ∷ 100 ∷ 0 ∷ []) ∷
    row is_empty (line 0 4 0 0 0 0 0 0) (1 ∷ 1 ∷ 2 ∷ 1 ∷ []) (1 ∷ 0 ∷ 0 ∷ 0 ∷ []) (1 ∷ 0 ∷ 0 ∷ 1 ∷ []) (24 ∷ 20 ∷ 0 ∷ 22 ∷ []) (99 ∷ 100 ∷ 0 ∷ []) ∷
    row capacity (line 0 2 4 0 0 0 0 0) (1 ∷ 1 ∷ 2 ∷ 1 ∷ []) (1 ∷ 0 ∷ 0 ∷ 0 ∷ []) (1 ∷ 0 ∷ 0 ∷ 1 ∷ []) (24 ∷ 20 ∷ 0 ∷ 22 ∷ []) (99 ∷ 100 ∷ 0 ∷ []) ∷
    -- reserve 1 key of 1 byte: room; 2 of 2: refused 7, before 8; 1 of 2: refused 8
    row (reserve (1, 1)) (line 0 5 0 0 0 0 0 0) (1 ∷ 1 ∷ 2 ∷ 1 ∷ []) (1 ∷ 0 ∷ 0 ∷ 0 ∷ []) (1 ∷ 0 ∷ 0 ∷ 1 ∷ []) (24 ∷ 20 ∷ 0 ∷ 22 ∷ []) (99 ∷ 100 ∷ 0 ∷ []) ∷
    row (reserve (2, 2)) (line 7 0 0 0 0 0 0 0) (1 ∷ 1 ∷ 2 ∷ 1 ∷ []) (1 ∷ 0 ∷ 0 ∷ 0 ∷ []) (1 ∷ 0 ∷ 0 ∷ 1 ∷ []) (24 ∷ 20 ∷ 0 ∷ 22 ∷ []) (99 ∷ 100 ∷ 0 ∷ []) ∷
    row (reserve (1, 2)) (line 8 0 0 0 0 0 0 0) (1 ∷ 1 ∷ 2 ∷ 1 ∷ []) (1 ∷ 0 ∷ 0 ∷ 0 ∷ []) (1 ∷ 0 ∷ 0 ∷ 1 ∷ []) (24 ∷ 20 ∷ 0 ∷ 22 ∷ []) (99 ∷ 100 ∷ 0 ∷ []) ∷
    -- entry "d": occupied, slot 0, value 24, examined 2; entry "ab": refused 8
    row (entry (100 ∷ [])) (line 0 12 24 0 2 0 0 0) (1 ∷ 1 ∷ 2 ∷ 1 ∷ []) (1 ∷ 0 ∷ 0 ∷ 0 ∷ []) (1 ∷ 0 ∷ 0 ∷ 1 ∷ []) (24 ∷ 20 ∷ 0 ∷ 22 ∷ []) (99 ∷ 100 ∷ 0 ∷ []) ∷
    row (entry (97 ∷ 98 ∷ [])) (line 8 0 0 0 0 0 0 0) (1 ∷ 1 ∷ 2 ∷ 1 ∷ []) (1 ∷ 0 ∷ 0 ∷ 0 ∷ []) (1 ∷ 0 ∷ 0 ∷ 1 ∷ []) (24 ∷ 20 ∷ 0 ∷ 22 ∷ []) (99 ∷ 100 ∷ 0 ∷ []) ∷
    -- entry "e": vacant, slot 2, examined 4
    row (entry (101 ∷ [])) (line 0 13 0 2 4 0 0 0) (1 ∷ 1 ∷ 2 ∷ 1 ∷ []) (1 ∷ 0 ∷ 0 ∷ 0 ∷ []) (1 ∷ 0 ∷ 0 ∷ 1 ∷ []) (24 ∷ 20 ∷ 0 ∷ 22 ∷ []) (99 ∷ 100 ∷ 0 ∷ []) ∷
    -- the vacant handle's insert: now 30, its byte at offset 2; and once more: refused 6
    row (vacant_insert 2 (101 ∷ []) 30) (line 0 19 30 2 0 0 0 0) (1 ∷ 1 ∷ 1 ∷ 1 ∷ []) (1 ∷ 0 ∷ 2 ∷ 0 ∷ []) (1 ∷ 0 ∷ 1 ∷ 1 ∷ []) (24 ∷ 20 ∷ 30 ∷ 22 ∷ []) (99 ∷ 100 ∷ 101 ∷ []) ∷
    row (vacant_insert 2 (101 ∷ []) 31) (line 6 0 0 0 0 0 0 0) (1 ∷ 1 ∷ 1 ∷ 1 ∷ []) (1 ∷ 0 ∷ 2 ∷ 0 ∷ []) (1 ∷ 0 ∷ 1 ∷ 1 ∷ []) (24 ∷ 20 ∷ 30 ∷ 22 ∷ []) (99 ∷ 100 ∷ 101 ∷ []) ∷
    -- the occupied handle of slot 2 with key "e": value 30; with slot 3: refused 6
    row (occupied_get 2 (101 ∷ [])) (line 0 17 30 2 0 0 0 0) (1 ∷ 1 ∷ 1 ∷ 1 ∷ []) (1 ∷ 0 ∷ 2 ∷ 0 ∷ []) (1 ∷ 0 ∷ 1 ∷ 1 ∷ []) (24 ∷ 20 ∷ 30 ∷ 22 ∷ []) (99 ∷ 100 ∷ 101 ∷ []) ∷
    row (occupied_get 3 (101 ∷ [])) (line 6 0 0 0 0 0 0 0) (1 ∷ 1 ∷ 1 ∷ 1 ∷ []) (1 ∷ 0 ∷ 2 ∷ 0 ∷ []) (1 ∷ 0 ∷ 1 ∷ 1 ∷ []) (24 ∷ 20 ∷ 30 ∷ 22 ∷ []) (99 ∷ 100 ∷ 101 ∷ []) ∷
    -- its set: was 30
    row (occupied_set 2 (101 ∷ []) 32) (line 0 18 30 2 0 0 0 0) (1 ∷ 1 ∷ 1 ∷ 1 ∷ []) (1 ∷ 0 ∷ 2 ∷ 0 ∷ []) (1 ∷ 0 ∷ 1 ∷ 1 ∷ []) (24 ∷ 20 ∷ 32 ∷ 22 ∷ []) (99 ∷ 100 ∷ 101 ∷ []) ∷
    -- or_insert keeps a present value: now 32
    row (or_insert held (101 ∷ []) 40) (line 0 19 32 2 0 0 0 0) (1 ∷ 1 ∷ 1 ∷ 1 ∷ []) (1 ∷ 0 ∷ 2 ∷ 0 ∷ []) (1 ∷ 0 ∷ 1 ∷ 1 ∷ []) (24 ∷ 20 ∷ 32 ∷ 22 ∷ []) (99 ∷ 100 ∷ 101 ∷ []) ∷
    -- insert_entry replaces it: now 41
    row (insert_entry held (101 ∷ []) 41) (line 0 19 41 2 0 0 0 0) (1 ∷ 1 ∷ 1 ∷ 1 ∷ []) (1 ∷ 0 ∷ 2 ∷ 0 ∷ []) (1 ∷ 0 ∷ 1 ∷ 1 ∷ []) (24 ∷ 20 ∷ 41 ∷ 22 ∷ []) (99 ∷ 100 ∷ 101 ∷ []) ∷
    -- walk: "d" with 24, offset 1, length 1; the empty key with 20
    row (step 0 4) (line 0 14 24 0 1 1 1 1) (1 ∷ 1 ∷ 1 ∷ 1 ∷ []) (1 ∷ 0 ∷ 2 ∷ 0 ∷ []) (1 ∷ 0 ∷ 1 ∷ 1 ∷ []) (24 ∷ 20 ∷ 41 ∷ 22 ∷ []) (99 ∷ 100 ∷ 101 ∷ []) ∷
    row (step 1 4) (line 0 14 20 0 1 2 0 0) (1 ∷ 1 ∷ 1 ∷ 1 ∷ []) (1 ∷ 0 ∷ 2 ∷ 0 ∷ []) (1 ∷ 0 ∷ 1 ∷ 1 ∷ []) (24 ∷ 20 ∷ 41 ∷ 22 ∷ []) (99 ∷ 100 ∷ 101 ∷ []) ∷
    -- an occupied handle's remove of "c": removed 22; "d" and "e" fall by 1
    row (occupied_remove 3 (99 ∷ [])) (line 0 11 22 0 0 0 0 0) (1 ∷ 1 ∷ 1 ∷ 2 ∷ []) (0 ∷ 0 ∷ 1 ∷ 0 ∷ []) (1 ∷ 0 ∷ 1 ∷ 0 ∷ []) (24 ∷ 20 ∷ 41 ∷ 0 ∷ []) (100 ∷ 101 ∷ 0 ∷ []) ∷
    -- remove_entry of "d": removed 24; "e" falls by 1
    row (occupied_remove_entry 0 (100 ∷ [])) (line 0 11 24 0 0 0 0 0) (2 ∷ 1 ∷ 1 ∷ 2 ∷ []) (0 ∷ 0 ∷ 0 ∷ 0 ∷ []) (0 ∷ 0 ∷ 1 ∷ 0 ∷ []) (0 ∷ 20 ∷ 41 ∷ 0 ∷ []) (101 ∷ 0 ∷ 0 ∷ []) ∷
    -- union with the other table, which has the empty key with 77: done
    row (union_prefer_right 1) (line 0 1 0 0 0 0 0 0) (2 ∷ 1 ∷ 1 ∷ 2 ∷ []) (0 ∷ 0 ∷ 0 ∷ 0 ∷ []) (0 ∷ 0 ∷ 1 ∷ 0 ∷ []) (0 ∷ 77 ∷ 41 ∷ 0 ∷ []) (101 ∷ 0 ∷ 0 ∷ []) ∷
    -- copy of the other table: done
    row (copy 1) (line 0 1 0 0 0 0 0 0) (0 ∷ 1 ∷ 0 ∷ 0 ∷ []) (0 ∷ 0 ∷ 0 ∷ 0 ∷ []) (0 ∷ 0 ∷ 0 ∷ 0 ∷ []) (0 ∷ 77 ∷ 0 ∷ 0 ∷ []) (0 ∷ 0 ∷ 0 ∷ []) ∷
    -- clear: done, all 0
    row clear (line 0 1 0 0 0 0 0 0) (0 ∷ 0 ∷ 0 ∷ 0 ∷ []) (0 ∷ 0 ∷ 0 ∷ 0 ∷ []) (0 ∷ 0 ∷ 0 ∷ 0 ∷ []) (0 ∷ 0 ∷ 0 ∷ 0 ∷ []) (0 ∷ 0 ∷ 0 ∷ []) ∷
    []

-- A table with a live span past the arena in slot 0.
unfoldable pub damaged : ByteMemory values
damaged = map_memory (1 ∷ 0 ∷ 0 ∷ 0 ∷ []) (3 ∷ 0 ∷ 0 ∷ 0 ∷ []) (1 ∷ 0 ∷ 0 ∷ 0 ∷ []) (5 ∷ 0 ∷ 0 ∷ 0 ∷ []) (0 ∷ 0 ∷ 0 ∷ [])

unfoldable pub damaged_rows : List (Row Call (ByteMemory values))
damaged_rows =
    -- "e" has its home in slot 0, whose span ends past the arena: refused 5
    row (get (101 ∷ [])) (line 5 0 0 0 0 0 0 0) (1 ∷ 0 ∷ 0 ∷ 0 ∷ []) (3 ∷ 0 ∷ 0 ∷ 0 ∷ []) (1 ∷ 0 ∷ 0 ∷ 0 ∷ []) (5 ∷ 0 ∷ 0 ∷ 0 ∷ []) (0 ∷ 0 ∷ 0 ∷ []) ∷
    -- "c" has another path: absent, examined 1
    row (get (99 ∷ [])) (line 0 8 0 0 1 0 0 0) (1 ∷ 0 ∷ 0 ∷ 0 ∷ []) (3 ∷ 0 ∷ 0 ∷ 0 ∷ []) (1 ∷ 0 ∷ 0 ∷ 0 ∷ []) (5 ∷ 0 ∷ 0 ∷ 0 ∷ []) (0 ∷ 0 ∷ 0 ∷ []) ∷
    -- what examines every slot: refused 5
    row (insert (99 ∷ []) 7) (line 5 0 0 0 0 0 0 0) (1 ∷ 0 ∷ 0 ∷ 0 ∷ []) (3 ∷ 0 ∷ 0 ∷ 0 ∷ []) (1 ∷ 0 ∷ 0 ∷ 0 ∷ []) (5 ∷ 0 ∷ 0 ∷ 0 ∷ []) (0 ∷ 0 ∷ 0 ∷ []) ∷
    row (remove (99 ∷ [])) (line 5 0 0 0 0 0 0 0) (1 ∷ 0 ∷ 0 ∷ 0 ∷ []) (3 ∷ 0 ∷ 0 ∷ 0 ∷ []) (1 ∷ 0 ∷ 0 ∷ 0 ∷ []) (5 ∷ 0 ∷ 0 ∷ 0 ∷ []) (0 ∷ 0 ∷ 0 ∷ []) ∷
    row (entry (99 ∷ [])) (line 5 0 0 0 0 0 0 0) (1 ∷ 0 ∷ 0 ∷ 0 ∷ []) (3 ∷ 0 ∷ 0 ∷ 0 ∷ []) (1 ∷ 0 ∷ 0 ∷ 0 ∷ []) (5 ∷ 0 ∷ 0 ∷ 0 ∷ []) (0 ∷ 0 ∷ 0 ∷ []) ∷
    row len (line 5 0 0 0 0 0 0 0) (1 ∷ 0 ∷ 0 ∷ 0 ∷ []) (3 ∷ 0 ∷ 0 ∷ 0 ∷ []) (1 ∷ 0 ∷ 0 ∷ 0 ∷ []) (5 ∷ 0 ∷ 0 ∷ 0 ∷ []) (0 ∷ 0 ∷ 0 ∷ []) ∷
    row (reserve (0, 0)) (line 5 0 0 0 0 0 0 0) (1 ∷ 0 ∷ 0 ∷ 0 ∷ []) (3 ∷ 0 ∷ 0 ∷ 0 ∷ []) (1 ∷ 0 ∷ 0 ∷ 0 ∷ []) (5 ∷ 0 ∷ 0 ∷ 0 ∷ []) (0 ∷ 0 ∷ 0 ∷ []) ∷
    -- a step over slot 0: refused 5, the walk as it came
    row (step 0 1) (line 5 0 0 0 0 0 0 0) (1 ∷ 0 ∷ 0 ∷ 0 ∷ []) (3 ∷ 0 ∷ 0 ∷ 0 ∷ []) (1 ∷ 0 ∷ 0 ∷ 0 ∷ []) (5 ∷ 0 ∷ 0 ∷ 0 ∷ []) (0 ∷ 0 ∷ 0 ∷ []) ∷
    []

-- A table whose only live span, "e", begins behind a gap.
unfoldable pub gapped : ByteMemory values
gapped = map_memory (1 ∷ 0 ∷ 0 ∷ 0 ∷ []) (1 ∷ 0 ∷ 0 ∷ 0 ∷ []) (1 ∷ 0 ∷ 0 ∷ 0 ∷ []) (5 ∷ 0 ∷ 0 ∷ 0 ∷ []) (0 ∷ 101 ∷ 0 ∷ [])

unfoldable pub gapped_rows : List (Row Call (ByteMemory values))
gapped_rows =
    -- get looks at its path: found 5, slot 0, examined 1; len counts
    row (get (101 ∷ [])) (line 0 6 5 0 1 0 0 0) (1 ∷ 0 ∷ 0 ∷ 0 ∷ []) (1 ∷ 0 ∷ 0 ∷ 0 ∷ []) (1 ∷ 0 ∷ 0 ∷ 0 ∷ []) (5 ∷ 0 ∷ 0 ∷ 0 ∷ []) (0 ∷ 101 ∷ 0 ∷ []) ∷
    row len (line 0 2 1 0 0 0 0 0) (1 ∷ 0 ∷ 0 ∷ 0 ∷ []) (1 ∷ 0 ∷ 0 ∷ 0 ∷ []) (1 ∷ 0 ∷ 0 ∷ 0 ∷ []) (5 ∷ 0 ∷ 0 ∷ 0 ∷ []) (0 ∷ 101 ∷ 0 ∷ []) ∷
    -- what stores finds that the span ends beyond `used`: refused 5
    row (insert (99 ∷ []) 7) (line 5 0 0 0 0 0 0 0) (1 ∷ 0 ∷ 0 ∷ 0 ∷ []) (1 ∷ 0 ∷ 0 ∷ 0 ∷ []) (1 ∷ 0 ∷ 0 ∷ 0 ∷ []) (5 ∷ 0 ∷ 0 ∷ 0 ∷ []) (0 ∷ 101 ∷ 0 ∷ []) ∷
    row (remove (101 ∷ [])) (line 5 0 0 0 0 0 0 0) (1 ∷ 0 ∷ 0 ∷ 0 ∷ []) (1 ∷ 0 ∷ 0 ∷ 0 ∷ []) (1 ∷ 0 ∷ 0 ∷ 0 ∷ []) (5 ∷ 0 ∷ 0 ∷ 0 ∷ []) (0 ∷ 101 ∷ 0 ∷ []) ∷
    row (occupied_remove 0 (101 ∷ [])) (line 5 0 0 0 0 0 0 0) (1 ∷ 0 ∷ 0 ∷ 0 ∷ []) (1 ∷ 0 ∷ 0 ∷ 0 ∷ []) (1 ∷ 0 ∷ 0 ∷ 0 ∷ []) (5 ∷ 0 ∷ 0 ∷ 0 ∷ []) (0 ∷ 101 ∷ 0 ∷ []) ∷
    row (union_prefer_right 1) (line 5 0 0 0 0 0 0 0) (1 ∷ 0 ∷ 0 ∷ 0 ∷ []) (1 ∷ 0 ∷ 0 ∷ 0 ∷ []) (1 ∷ 0 ∷ 0 ∷ 0 ∷ []) (5 ∷ 0 ∷ 0 ∷ 0 ∷ []) (0 ∷ 101 ∷ 0 ∷ []) ∷
    -- and so does reserve, also of 0 keys
    row (reserve (0, 0)) (line 5 0 0 0 0 0 0 0) (1 ∷ 0 ∷ 0 ∷ 0 ∷ []) (1 ∷ 0 ∷ 0 ∷ 0 ∷ []) (1 ∷ 0 ∷ 0 ∷ 0 ∷ []) (5 ∷ 0 ∷ 0 ∷ 0 ∷ []) (0 ∷ 101 ∷ 0 ∷ []) ∷
    []

-- Arrays that disagree in length: an offset too few.
unfoldable pub uneven : ByteMemory values
uneven = map_memory (0 ∷ 0 ∷ 0 ∷ 0 ∷ []) (0 ∷ 0 ∷ 0 ∷ []) (0 ∷ 0 ∷ 0 ∷ 0 ∷ []) (0 ∷ 0 ∷ 0 ∷ 0 ∷ []) (0 ∷ 0 ∷ 0 ∷ [])

unfoldable pub uneven_rows : List (Row Call (ByteMemory values))
uneven_rows =
    -- every call is refused 1, before anything else
    row make (line 1 0 0 0 0 0 0 0) (0 ∷ 0 ∷ 0 ∷ 0 ∷ []) (0 ∷ 0 ∷ 0 ∷ []) (0 ∷ 0 ∷ 0 ∷ 0 ∷ []) (0 ∷ 0 ∷ 0 ∷ 0 ∷ []) (0 ∷ 0 ∷ 0 ∷ []) ∷
    row (get (99 ∷ [])) (line 1 0 0 0 0 0 0 0) (0 ∷ 0 ∷ 0 ∷ 0 ∷ []) (0 ∷ 0 ∷ 0 ∷ []) (0 ∷ 0 ∷ 0 ∷ 0 ∷ []) (0 ∷ 0 ∷ 0 ∷ 0 ∷ []) (0 ∷ 0 ∷ 0 ∷ []) ∷
    row (step 9 0) (line 1 0 0 0 0 9 0 0) (0 ∷ 0 ∷ 0 ∷ 0 ∷ []) (0 ∷ 0 ∷ 0 ∷ []) (0 ∷ 0 ∷ 0 ∷ 0 ∷ []) (0 ∷ 0 ∷ 0 ∷ 0 ∷ []) (0 ∷ 0 ∷ 0 ∷ []) ∷
    []
