-- The worked numbers of the integer map, S = 4, from any memory on, in order: each published call, the paper's numbers of its answer, and all lent lists after it. The scope's own rows, and rows for the calls that it does not work.
use Rattle.std.specs.Prelude.{ℕ, cond, List, [], ◌∷◌, eqb}
use Rattle.answers.specs.declared.Numbers.{Numbers}
use Rattle.kinds.specs.Columns.{values}
use Rattle.kinds.specs.Told.{ToldAndLeft, told}
use Rattle.int_slots.specs.Memory.{IntMemory, memory}
use Rattle.int_map_entry.specs.declared.Entered.{Entered}
use Rattle.int_map_entry.specs.declared.Entered.TheVariants.{Occupied}
use Rattle.promises.specs.IntMap.{Call, make, clear, capacity, len, is_empty, reserve, get, contains_key, remove, entry, copy, union_prefer_right, insert, occupied_get, occupied_remove, occupied_remove_entry, step, occupied_set, vacant_insert, or_insert, insert_entry, told_by}
use Rattle.worked.specs.Rows.{Row}

-- Another table, number 1.
unfoldable pub other : IntMemory values
other = memory (0 ∷ 1 ∷ 0 ∷ 0 ∷ []) (0 ∷ 12 ∷ 0 ∷ 0 ∷ []) (0 ∷ 99 ∷ 0 ∷ 0 ∷ [])

-- What a call on the table 0 tells and leaves, by the definition that its contract cites.
unfoldable pub done : IntMemory values → Call → ToldAndLeft (IntMemory values)
done m c = told_by (λ y. cond (eqb y 0) m other) 0 c

-- Some memory of 4 slots.
unfoldable pub before : IntMemory values
before = memory (9 ∷ 1 ∷ 2 ∷ 0 ∷ []) (5 ∷ 6 ∷ 7 ∷ 8 ∷ []) (1 ∷ 2 ∷ 3 ∷ 4 ∷ [])

-- An entry's answer, occupied in slot 2.
abbrev held : Entered
held = Occupied (record { slot = 2 }) 50 4

-- refusal, case, key, value, slot, examined, walk
abbrev line : ℕ → ℕ → ℕ → ℕ → ℕ → ℕ → ℕ → Numbers
line r c k v s e w = record { refusal = r; case = c; key = k; value = v; slot = s; examined = e; walk = w; offset = 0; length = 0 }

abbrev row : Call → Numbers → List ℕ → List ℕ → List ℕ → Row Call (IntMemory values)
row c n marks keys vs = record { order = c; tells = told n (memory marks keys vs) }

unfoldable pub rows : List (Row Call (IntMemory values))
rows =
    -- make, on any memory: done, all 0
    row make (line 0 1 0 0 0 0 0) (0 ∷ 0 ∷ 0 ∷ 0 ∷ []) (0 ∷ 0 ∷ 0 ∷ 0 ∷ []) (0 ∷ 0 ∷ 0 ∷ 0 ∷ []) ∷
    -- is_empty: empty; capacity: 4
    row is_empty (line 0 3 0 0 0 0 0) (0 ∷ 0 ∷ 0 ∷ 0 ∷ []) (0 ∷ 0 ∷ 0 ∷ 0 ∷ []) (0 ∷ 0 ∷ 0 ∷ 0 ∷ []) ∷
    row capacity (line 0 2 0 4 0 0 0) (0 ∷ 0 ∷ 0 ∷ 0 ∷ []) (0 ∷ 0 ∷ 0 ∷ 0 ∷ []) (0 ∷ 0 ∷ 0 ∷ 0 ∷ []) ∷
    -- insert 0→10: fresh, slot 1, examined 1
    row (insert 0 10) (line 0 9 0 0 1 1 0) (0 ∷ 1 ∷ 0 ∷ 0 ∷ []) (0 ∷ 0 ∷ 0 ∷ 0 ∷ []) (0 ∷ 10 ∷ 0 ∷ 0 ∷ []) ∷
    -- insert 4→11: fresh, slot 2, examined 2
    row (insert 4 11) (line 0 9 0 0 2 2 0) (0 ∷ 1 ∷ 1 ∷ 0 ∷ []) (0 ∷ 0 ∷ 4 ∷ 0 ∷ []) (0 ∷ 10 ∷ 11 ∷ 0 ∷ []) ∷
    -- insert 8→12: fresh, slot 3, examined 3
    row (insert 8 12) (line 0 9 0 0 3 3 0) (0 ∷ 1 ∷ 1 ∷ 1 ∷ []) (0 ∷ 0 ∷ 4 ∷ 8 ∷ []) (0 ∷ 10 ∷ 11 ∷ 12 ∷ []) ∷
    -- get 12: absent, examined 4
    row (get 12) (line 0 8 0 0 0 4 0) (0 ∷ 1 ∷ 1 ∷ 1 ∷ []) (0 ∷ 0 ∷ 4 ∷ 8 ∷ []) (0 ∷ 10 ∷ 11 ∷ 12 ∷ []) ∷
    -- get 1: absent, examined 1
    row (get 1) (line 0 8 0 0 0 1 0) (0 ∷ 1 ∷ 1 ∷ 1 ∷ []) (0 ∷ 0 ∷ 4 ∷ 8 ∷ []) (0 ∷ 10 ∷ 11 ∷ 12 ∷ []) ∷
    -- remove 0: removed 10; slot 1 has mark 2
    row (remove 0) (line 0 11 0 10 1 1 0) (0 ∷ 2 ∷ 1 ∷ 1 ∷ []) (0 ∷ 0 ∷ 4 ∷ 8 ∷ []) (0 ∷ 0 ∷ 11 ∷ 12 ∷ []) ∷
    -- insert 8→13: replaced 12, slot 3
    row (insert 8 13) (line 0 10 0 12 3 3 0) (0 ∷ 2 ∷ 1 ∷ 1 ∷ []) (0 ∷ 0 ∷ 4 ∷ 8 ∷ []) (0 ∷ 0 ∷ 11 ∷ 13 ∷ []) ∷
    -- insert 12→14: fresh, slot 1, examined 4
    row (insert 12 14) (line 0 9 0 0 1 4 0) (0 ∷ 1 ∷ 1 ∷ 1 ∷ []) (0 ∷ 12 ∷ 4 ∷ 8 ∷ []) (0 ∷ 14 ∷ 11 ∷ 13 ∷ []) ∷
    -- insert 1→15: fresh, slot 0
    row (insert 1 15) (line 0 9 0 0 0 1 0) (1 ∷ 1 ∷ 1 ∷ 1 ∷ []) (1 ∷ 12 ∷ 4 ∷ 8 ∷ []) (15 ∷ 14 ∷ 11 ∷ 13 ∷ []) ∷
    -- insert 2→16: refused 7
    row (insert 2 16) (line 7 0 0 0 0 0 0) (1 ∷ 1 ∷ 1 ∷ 1 ∷ []) (1 ∷ 12 ∷ 4 ∷ 8 ∷ []) (15 ∷ 14 ∷ 11 ∷ 13 ∷ []) ∷
    -- insert 12→17: replaced 14
    row (insert 12 17) (line 0 10 0 14 1 1 0) (1 ∷ 1 ∷ 1 ∷ 1 ∷ []) (1 ∷ 12 ∷ 4 ∷ 8 ∷ []) (15 ∷ 17 ∷ 11 ∷ 13 ∷ []) ∷
    -- walk, budget 4 each step: (1,15)
    row (step 0 4) (line 0 14 1 15 0 1 1) (1 ∷ 1 ∷ 1 ∷ 1 ∷ []) (1 ∷ 12 ∷ 4 ∷ 8 ∷ []) (15 ∷ 17 ∷ 11 ∷ 13 ∷ []) ∷
    -- (12,17)
    row (step 1 4) (line 0 14 12 17 0 1 2) (1 ∷ 1 ∷ 1 ∷ 1 ∷ []) (1 ∷ 12 ∷ 4 ∷ 8 ∷ []) (15 ∷ 17 ∷ 11 ∷ 13 ∷ []) ∷
    -- (4,11)
    row (step 2 4) (line 0 14 4 11 0 1 3) (1 ∷ 1 ∷ 1 ∷ 1 ∷ []) (1 ∷ 12 ∷ 4 ∷ 8 ∷ []) (15 ∷ 17 ∷ 11 ∷ 13 ∷ []) ∷
    -- (8,13)
    row (step 3 4) (line 0 14 8 13 0 1 4) (1 ∷ 1 ∷ 1 ∷ 1 ∷ []) (1 ∷ 12 ∷ 4 ∷ 8 ∷ []) (15 ∷ 17 ∷ 11 ∷ 13 ∷ []) ∷
    -- done
    row (step 4 4) (line 0 16 0 0 0 0 4) (1 ∷ 1 ∷ 1 ∷ 1 ∷ []) (1 ∷ 12 ∷ 4 ∷ 8 ∷ []) (15 ∷ 17 ∷ 11 ∷ 13 ∷ []) ∷
    -- reserve 0: room
    row (reserve 0) (line 0 5 0 0 0 0 0) (1 ∷ 1 ∷ 1 ∷ 1 ∷ []) (1 ∷ 12 ∷ 4 ∷ 8 ∷ []) (15 ∷ 17 ∷ 11 ∷ 13 ∷ []) ∷
    -- reserve 1: refused 7
    row (reserve 1) (line 7 0 0 0 0 0 0) (1 ∷ 1 ∷ 1 ∷ 1 ∷ []) (1 ∷ 12 ∷ 4 ∷ 8 ∷ []) (15 ∷ 17 ∷ 11 ∷ 13 ∷ []) ∷
    -- get 8: found 13, slot 3, examined 3
    row (get 8) (line 0 6 0 13 3 3 0) (1 ∷ 1 ∷ 1 ∷ 1 ∷ []) (1 ∷ 12 ∷ 4 ∷ 8 ∷ []) (15 ∷ 17 ∷ 11 ∷ 13 ∷ []) ∷
    -- contains 8: present, examined 3
    row (contains_key 8) (line 0 7 0 0 0 3 0) (1 ∷ 1 ∷ 1 ∷ 1 ∷ []) (1 ∷ 12 ∷ 4 ∷ 8 ∷ []) (15 ∷ 17 ∷ 11 ∷ 13 ∷ []) ∷
    -- contains 2: absent, examined 4
    row (contains_key 2) (line 0 8 0 0 0 4 0) (1 ∷ 1 ∷ 1 ∷ 1 ∷ []) (1 ∷ 12 ∷ 4 ∷ 8 ∷ []) (15 ∷ 17 ∷ 11 ∷ 13 ∷ []) ∷
    -- len: 4; is_empty: holds keys
    row len (line 0 2 0 4 0 0 0) (1 ∷ 1 ∷ 1 ∷ 1 ∷ []) (1 ∷ 12 ∷ 4 ∷ 8 ∷ []) (15 ∷ 17 ∷ 11 ∷ 13 ∷ []) ∷
    row is_empty (line 0 4 0 0 0 0 0) (1 ∷ 1 ∷ 1 ∷ 1 ∷ []) (1 ∷ 12 ∷ 4 ∷ 8 ∷ []) (15 ∷ 17 ∷ 11 ∷ 13 ∷ []) ∷
    -- entry 4: occupied, slot 2, value 11, examined 2
    row (entry 4) (line 0 12 0 11 2 2 0) (1 ∷ 1 ∷ 1 ∷ 1 ∷ []) (1 ∷ 12 ∷ 4 ∷ 8 ∷ []) (15 ∷ 17 ∷ 11 ∷ 13 ∷ []) ∷
    -- entry 2: refused 7, as insert
    row (entry 2) (line 7 0 0 0 0 0 0) (1 ∷ 1 ∷ 1 ∷ 1 ∷ []) (1 ∷ 12 ∷ 4 ∷ 8 ∷ []) (15 ∷ 17 ∷ 11 ∷ 13 ∷ []) ∷
    -- the occupied handle of slot 2 with key 4: value 11; with slot 1: refused 6
    row (occupied_get 2 4) (line 0 17 0 11 2 0 0) (1 ∷ 1 ∷ 1 ∷ 1 ∷ []) (1 ∷ 12 ∷ 4 ∷ 8 ∷ []) (15 ∷ 17 ∷ 11 ∷ 13 ∷ []) ∷
    row (occupied_get 1 4) (line 6 0 0 0 0 0 0) (1 ∷ 1 ∷ 1 ∷ 1 ∷ []) (1 ∷ 12 ∷ 4 ∷ 8 ∷ []) (15 ∷ 17 ∷ 11 ∷ 13 ∷ []) ∷
    -- its set: was 11
    row (occupied_set 2 4 31) (line 0 18 0 11 2 0 0) (1 ∷ 1 ∷ 1 ∷ 1 ∷ []) (1 ∷ 12 ∷ 4 ∷ 8 ∷ []) (15 ∷ 17 ∷ 31 ∷ 13 ∷ []) ∷
    -- its remove_entry: removed, key 4 and value 31
    row (occupied_remove_entry 2 4) (line 0 11 4 31 0 0 0) (1 ∷ 1 ∷ 2 ∷ 1 ∷ []) (1 ∷ 12 ∷ 0 ∷ 8 ∷ []) (15 ∷ 17 ∷ 0 ∷ 13 ∷ []) ∷
    -- entry 2: vacant, slot 2, examined 4
    row (entry 2) (line 0 13 0 0 2 4 0) (1 ∷ 1 ∷ 2 ∷ 1 ∷ []) (1 ∷ 12 ∷ 0 ∷ 8 ∷ []) (15 ∷ 17 ∷ 0 ∷ 13 ∷ []) ∷
    -- the vacant handle's insert: now 50; and once more: refused 6
    row (vacant_insert 2 2 50) (line 0 19 0 50 2 0 0) (1 ∷ 1 ∷ 1 ∷ 1 ∷ []) (1 ∷ 12 ∷ 2 ∷ 8 ∷ []) (15 ∷ 17 ∷ 50 ∷ 13 ∷ []) ∷
    row (vacant_insert 2 2 51) (line 6 0 0 0 0 0 0) (1 ∷ 1 ∷ 1 ∷ 1 ∷ []) (1 ∷ 12 ∷ 2 ∷ 8 ∷ []) (15 ∷ 17 ∷ 50 ∷ 13 ∷ []) ∷
    -- or_insert keeps a present value: now 50
    row (or_insert held 2 60) (line 0 19 0 50 2 0 0) (1 ∷ 1 ∷ 1 ∷ 1 ∷ []) (1 ∷ 12 ∷ 2 ∷ 8 ∷ []) (15 ∷ 17 ∷ 50 ∷ 13 ∷ []) ∷
    -- insert_entry replaces it: now 61
    row (insert_entry held 2 61) (line 0 19 0 61 2 0 0) (1 ∷ 1 ∷ 1 ∷ 1 ∷ []) (1 ∷ 12 ∷ 2 ∷ 8 ∷ []) (15 ∷ 17 ∷ 61 ∷ 13 ∷ []) ∷
    -- an occupied handle's remove: removed 15
    row (occupied_remove 0 1) (line 0 11 0 15 0 0 0) (2 ∷ 1 ∷ 1 ∷ 1 ∷ []) (0 ∷ 12 ∷ 2 ∷ 8 ∷ []) (0 ∷ 17 ∷ 61 ∷ 13 ∷ []) ∷
    -- a step of 1 slot over the freed slot 0: nothing, at 1, examined 1
    row (step 0 1) (line 0 15 0 0 0 1 1) (2 ∷ 1 ∷ 1 ∷ 1 ∷ []) (0 ∷ 12 ∷ 2 ∷ 8 ∷ []) (0 ∷ 17 ∷ 61 ∷ 13 ∷ []) ∷
    -- a step at 5: refused 4, the walk as it came; with budget 0: refused 3
    row (step 5 1) (line 4 0 0 0 0 0 5) (2 ∷ 1 ∷ 1 ∷ 1 ∷ []) (0 ∷ 12 ∷ 2 ∷ 8 ∷ []) (0 ∷ 17 ∷ 61 ∷ 13 ∷ []) ∷
    row (step 1 0) (line 3 0 0 0 0 0 1) (2 ∷ 1 ∷ 1 ∷ 1 ∷ []) (0 ∷ 12 ∷ 2 ∷ 8 ∷ []) (0 ∷ 17 ∷ 61 ∷ 13 ∷ []) ∷
    -- union with the other table, which has 12→99: done
    row (union_prefer_right 1) (line 0 1 0 0 0 0 0) (2 ∷ 1 ∷ 1 ∷ 1 ∷ []) (0 ∷ 12 ∷ 2 ∷ 8 ∷ []) (0 ∷ 99 ∷ 61 ∷ 13 ∷ []) ∷
    -- copy of the other table: done
    row (copy 1) (line 0 1 0 0 0 0 0) (0 ∷ 1 ∷ 0 ∷ 0 ∷ []) (0 ∷ 12 ∷ 0 ∷ 0 ∷ []) (0 ∷ 99 ∷ 0 ∷ 0 ∷ []) ∷
    -- clear: done, all 0
    row clear (line 0 1 0 0 0 0 0) (0 ∷ 0 ∷ 0 ∷ 0 ∷ []) (0 ∷ 0 ∷ 0 ∷ 0 ∷ []) (0 ∷ 0 ∷ 0 ∷ 0 ∷ []) ∷
    []

-- A table with a mark above 2 in slot 0.
unfoldable pub damaged : IntMemory values
damaged = memory (9 ∷ 1 ∷ 0 ∷ 0 ∷ []) (1 ∷ 12 ∷ 0 ∷ 0 ∷ []) (5 ∷ 6 ∷ 0 ∷ 0 ∷ [])

unfoldable pub damaged_rows : List (Row Call (IntMemory values))
damaged_rows =
    -- key 1 has its home in the damaged slot 0: refused 5
    row (get 1) (line 5 0 0 0 0 0 0) (9 ∷ 1 ∷ 0 ∷ 0 ∷ []) (1 ∷ 12 ∷ 0 ∷ 0 ∷ []) (5 ∷ 6 ∷ 0 ∷ 0 ∷ []) ∷
    row (contains_key 1) (line 5 0 0 0 0 0 0) (9 ∷ 1 ∷ 0 ∷ 0 ∷ []) (1 ∷ 12 ∷ 0 ∷ 0 ∷ []) (5 ∷ 6 ∷ 0 ∷ 0 ∷ []) ∷
    row (insert 1 7) (line 5 0 0 0 0 0 0) (9 ∷ 1 ∷ 0 ∷ 0 ∷ []) (1 ∷ 12 ∷ 0 ∷ 0 ∷ []) (5 ∷ 6 ∷ 0 ∷ 0 ∷ []) ∷
    row (remove 1) (line 5 0 0 0 0 0 0) (9 ∷ 1 ∷ 0 ∷ 0 ∷ []) (1 ∷ 12 ∷ 0 ∷ 0 ∷ []) (5 ∷ 6 ∷ 0 ∷ 0 ∷ []) ∷
    row (entry 1) (line 5 0 0 0 0 0 0) (9 ∷ 1 ∷ 0 ∷ 0 ∷ []) (1 ∷ 12 ∷ 0 ∷ 0 ∷ []) (5 ∷ 6 ∷ 0 ∷ 0 ∷ []) ∷
    row (occupied_get 0 1) (line 5 0 0 0 0 0 0) (9 ∷ 1 ∷ 0 ∷ 0 ∷ []) (1 ∷ 12 ∷ 0 ∷ 0 ∷ []) (5 ∷ 6 ∷ 0 ∷ 0 ∷ []) ∷
    row (vacant_insert 0 1 7) (line 5 0 0 0 0 0 0) (9 ∷ 1 ∷ 0 ∷ 0 ∷ []) (1 ∷ 12 ∷ 0 ∷ 0 ∷ []) (5 ∷ 6 ∷ 0 ∷ 0 ∷ []) ∷
    -- key 12 has another path: found 6, slot 1, examined 1
    row (get 12) (line 0 6 0 6 1 1 0) (9 ∷ 1 ∷ 0 ∷ 0 ∷ []) (1 ∷ 12 ∷ 0 ∷ 0 ∷ []) (5 ∷ 6 ∷ 0 ∷ 0 ∷ []) ∷
    -- what examines every slot: refused 5
    row len (line 5 0 0 0 0 0 0) (9 ∷ 1 ∷ 0 ∷ 0 ∷ []) (1 ∷ 12 ∷ 0 ∷ 0 ∷ []) (5 ∷ 6 ∷ 0 ∷ 0 ∷ []) ∷
    row is_empty (line 5 0 0 0 0 0 0) (9 ∷ 1 ∷ 0 ∷ 0 ∷ []) (1 ∷ 12 ∷ 0 ∷ 0 ∷ []) (5 ∷ 6 ∷ 0 ∷ 0 ∷ []) ∷
    row (reserve 0) (line 5 0 0 0 0 0 0) (9 ∷ 1 ∷ 0 ∷ 0 ∷ []) (1 ∷ 12 ∷ 0 ∷ 0 ∷ []) (5 ∷ 6 ∷ 0 ∷ 0 ∷ []) ∷
    row (union_prefer_right 1) (line 5 0 0 0 0 0 0) (9 ∷ 1 ∷ 0 ∷ 0 ∷ []) (1 ∷ 12 ∷ 0 ∷ 0 ∷ []) (5 ∷ 6 ∷ 0 ∷ 0 ∷ []) ∷
    -- a step over slot 0: refused 5, the walk as it came; from slot 1: (12,6)
    row (step 0 4) (line 5 0 0 0 0 0 0) (9 ∷ 1 ∷ 0 ∷ 0 ∷ []) (1 ∷ 12 ∷ 0 ∷ 0 ∷ []) (5 ∷ 6 ∷ 0 ∷ 0 ∷ []) ∷
    row (step 1 4) (line 0 14 12 6 0 1 2) (9 ∷ 1 ∷ 0 ∷ 0 ∷ []) (1 ∷ 12 ∷ 0 ∷ 0 ∷ []) (5 ∷ 6 ∷ 0 ∷ 0 ∷ []) ∷
    []

-- Arrays that disagree in length: a value too many.
unfoldable pub uneven : IntMemory values
uneven = memory (0 ∷ 0 ∷ 0 ∷ 0 ∷ []) (0 ∷ 0 ∷ 0 ∷ 0 ∷ []) (0 ∷ 0 ∷ 0 ∷ 0 ∷ 0 ∷ [])

unfoldable pub uneven_rows : List (Row Call (IntMemory values))
uneven_rows =
    -- every call is refused 1, before anything else
    row make (line 1 0 0 0 0 0 0) (0 ∷ 0 ∷ 0 ∷ 0 ∷ []) (0 ∷ 0 ∷ 0 ∷ 0 ∷ []) (0 ∷ 0 ∷ 0 ∷ 0 ∷ 0 ∷ []) ∷
    row capacity (line 1 0 0 0 0 0 0) (0 ∷ 0 ∷ 0 ∷ 0 ∷ []) (0 ∷ 0 ∷ 0 ∷ 0 ∷ []) (0 ∷ 0 ∷ 0 ∷ 0 ∷ 0 ∷ []) ∷
    row (get 1) (line 1 0 0 0 0 0 0) (0 ∷ 0 ∷ 0 ∷ 0 ∷ []) (0 ∷ 0 ∷ 0 ∷ 0 ∷ []) (0 ∷ 0 ∷ 0 ∷ 0 ∷ 0 ∷ []) ∷
    row (insert 1 7) (line 1 0 0 0 0 0 0) (0 ∷ 0 ∷ 0 ∷ 0 ∷ []) (0 ∷ 0 ∷ 0 ∷ 0 ∷ []) (0 ∷ 0 ∷ 0 ∷ 0 ∷ 0 ∷ []) ∷
    row (copy 1) (line 1 0 0 0 0 0 0) (0 ∷ 0 ∷ 0 ∷ 0 ∷ []) (0 ∷ 0 ∷ 0 ∷ 0 ∷ []) (0 ∷ 0 ∷ 0 ∷ 0 ∷ 0 ∷ []) ∷
    row (step 9 0) (line 1 0 0 0 0 0 9) (0 ∷ 0 ∷ 0 ∷ 0 ∷ []) (0 ∷ 0 ∷ 0 ∷ 0 ∷ []) (0 ∷ 0 ∷ 0 ∷ 0 ∷ 0 ∷ []) ∷
    []
