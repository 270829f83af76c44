-- Worked numbers of the byte set, S = 4, arena 3, from any memory on, in order: each published call, the paper's numbers of its answer, and all lent lists after it.
use Rattle.std.specs.Prelude.{ℕ, cond, List, [], ◌∷◌, eqb}
use Rattle.answers.specs.declared.Numbers.{Numbers}
use Rattle.kinds.specs.Columns.{nothing}
use Rattle.kinds.specs.Told.{ToldAndLeft, told}
use Rattle.byte_slots.specs.Memory.{ByteMemory}
use Rattle.byte_slots.specs.Kinds.{set_memory}
use Rattle.promises.specs.ByteSet.{Call, make, clear, capacity, len, is_empty, reserve, get, contains, insert, remove, copy, step, told_by}
use Rattle.worked.specs.Rows.{Row}

-- Another table, number 1.
unfoldable pub other : ByteMemory nothing
other = set_memory (0 ∷ 0 ∷ 1 ∷ 0 ∷ []) (0 ∷ 0 ∷ 0 ∷ 0 ∷ []) (0 ∷ 0 ∷ 1 ∷ 0 ∷ []) (103 ∷ 0 ∷ 0 ∷ [])

-- What a call on the table 0 tells and leaves, by the definition that its contract cites.
unfoldable pub done : ByteMemory nothing → Call → ToldAndLeft (ByteMemory nothing)
done m c = told_by (λ y. cond (eqb y 0) m other) 0 c

-- Some memory of 4 slots and 3 arena bytes.
unfoldable pub before : ByteMemory nothing
before = set_memory (9 ∷ 1 ∷ 2 ∷ 0 ∷ []) (7 ∷ 7 ∷ 7 ∷ 7 ∷ []) (9 ∷ 9 ∷ 9 ∷ 9 ∷ []) (5 ∷ 6 ∷ 7 ∷ [])

-- refusal, case, value, slot, examined, walk, offset, length
abbrev line : ℕ → ℕ → ℕ → ℕ → ℕ → ℕ → ℕ → ℕ → Numbers
line r c v s e w o l = record { refusal = r; case = c; key = 0; value = v; slot = s; examined = e; walk = w; offset = o; length = l }

abbrev row : Call → Numbers → List ℕ → List ℕ → List ℕ → List ℕ → Row Call (ByteMemory nothing)
row c n marks offsets lengths arena = record { order = c; tells = told n (set_memory marks offsets lengths arena) }

unfoldable pub rows : List (Row Call (ByteMemory nothing))
rows =
    -- make, on any memory: done, all 0
    row make (line 0 1 0 0 0 0 0 0) (0 ∷ 0 ∷ 0 ∷ 0 ∷ []) (0 ∷ 0 ∷ 0 ∷ 0 ∷ []) (0 ∷ 0 ∷ 0 ∷ 0 ∷ []) (0 ∷ 0 ∷ 0 ∷ []) ∷
    -- is_empty: empty
    row is_empty (line 0 3 0 0 0 0 0 0) (0 ∷ 0 ∷ 0 ∷ 0 ∷ []) (0 ∷ 0 ∷ 0 ∷ 0 ∷ []) (0 ∷ 0 ∷ 0 ∷ 0 ∷ []) (0 ∷ 0 ∷ 0 ∷ []) ∷
    -- insert the empty key: slot 1, offset 0
    row (insert []) (line 0 9 0 1 1 0 0 0) (0 ∷ 1 ∷ 0 ∷ 0 ∷ []) (0 ∷ 0 ∷ 0 ∷ 0 ∷ []) (0 ∷ 0 ∷ 0 ∷ 0 ∷ []) (0 ∷ 0 ∷ 0 ∷ []) ∷
    -- insert "ab": slot 2, offset 0
    row (insert (97 ∷ 98 ∷ [])) (line 0 9 0 2 1 0 0 0) (0 ∷ 1 ∷ 1 ∷ 0 ∷ []) (0 ∷ 0 ∷ 0 ∷ 0 ∷ []) (0 ∷ 0 ∷ 2 ∷ 0 ∷ []) (97 ∷ 98 ∷ 0 ∷ []) ∷
    -- insert "c": slot 3, offset 2
    row (insert (99 ∷ [])) (line 0 9 0 3 2 0 2 0) (0 ∷ 1 ∷ 1 ∷ 1 ∷ []) (0 ∷ 0 ∷ 0 ∷ 2 ∷ []) (0 ∷ 0 ∷ 2 ∷ 1 ∷ []) (97 ∷ 98 ∷ 99 ∷ []) ∷
    -- insert "d": refused 8
    row (insert (100 ∷ [])) (line 8 0 0 0 0 0 0 0) (0 ∷ 1 ∷ 1 ∷ 1 ∷ []) (0 ∷ 0 ∷ 0 ∷ 2 ∷ []) (0 ∷ 0 ∷ 2 ∷ 1 ∷ []) (97 ∷ 98 ∷ 99 ∷ []) ∷
    -- insert "ab": already there, slot 2, examined 1
    row (insert (97 ∷ 98 ∷ [])) (line 0 10 0 2 1 0 0 0) (0 ∷ 1 ∷ 1 ∷ 1 ∷ []) (0 ∷ 0 ∷ 0 ∷ 2 ∷ []) (0 ∷ 0 ∷ 2 ∷ 1 ∷ []) (97 ∷ 98 ∷ 99 ∷ []) ∷
    -- get "c": found, slot 3, examined 2, offset 2, length 1
    row (get (99 ∷ [])) (line 0 6 0 3 2 0 2 1) (0 ∷ 1 ∷ 1 ∷ 1 ∷ []) (0 ∷ 0 ∷ 0 ∷ 2 ∷ []) (0 ∷ 0 ∷ 2 ∷ 1 ∷ []) (97 ∷ 98 ∷ 99 ∷ []) ∷
    -- get "d": absent, examined 2
    row (get (100 ∷ [])) (line 0 8 0 0 2 0 0 0) (0 ∷ 1 ∷ 1 ∷ 1 ∷ []) (0 ∷ 0 ∷ 0 ∷ 2 ∷ []) (0 ∷ 0 ∷ 2 ∷ 1 ∷ []) (97 ∷ 98 ∷ 99 ∷ []) ∷
    -- contains "ab": present, examined 1; contains "e": absent, examined 1
    row (contains (97 ∷ 98 ∷ [])) (line 0 7 0 0 1 0 0 0) (0 ∷ 1 ∷ 1 ∷ 1 ∷ []) (0 ∷ 0 ∷ 0 ∷ 2 ∷ []) (0 ∷ 0 ∷ 2 ∷ 1 ∷ []) (97 ∷ 98 ∷ 99 ∷ []) ∷
    row (contains (101 ∷ [])) (line 0 8 0 0 1 0 0 0) (0 ∷ 1 ∷ 1 ∷ 1 ∷ []) (0 ∷ 0 ∷ 0 ∷ 2 ∷ []) (0 ∷ 0 ∷ 2 ∷ 1 ∷ []) (97 ∷ 98 ∷ 99 ∷ []) ∷
    -- remove "ab": removed, slot 2, examined 1; "c" falls by 2
    row (remove (97 ∷ 98 ∷ [])) (line 0 11 0 2 1 0 0 0) (0 ∷ 1 ∷ 2 ∷ 1 ∷ []) (0 ∷ 0 ∷ 0 ∷ 0 ∷ []) (0 ∷ 0 ∷ 0 ∷ 1 ∷ []) (99 ∷ 0 ∷ 0 ∷ []) ∷
    -- len: 2; is_empty: holds keys; capacity: 4
    row len (line 0 2 2 0 0 0 0 0) (0 ∷ 1 ∷ 2 ∷ 1 ∷ []) (0 ∷ 0 ∷ 0 ∷ 0 ∷ []) (0 ∷ 0 ∷ 0 ∷ 1 ∷ []) (99 ∷ 0 ∷ 0 ∷ []) ∷
    row is_empty (line 0 4 0 0 0 0 0 0) (0 ∷ 1 ∷ 2 ∷ 1 ∷ []) (0 ∷ 0 ∷ 0 ∷ 0 ∷ []) (0 ∷ 0 ∷ 0 ∷ 1 ∷ []) (99 ∷ 0 ∷ 0 ∷ []) ∷
    row capacity (line 0 2 4 0 0 0 0 0) (0 ∷ 1 ∷ 2 ∷ 1 ∷ []) (0 ∷ 0 ∷ 0 ∷ 0 ∷ []) (0 ∷ 0 ∷ 0 ∷ 1 ∷ []) (99 ∷ 0 ∷ 0 ∷ []) ∷
    -- reserve 2 keys of 2 bytes: room; 3 of 3: refused 7, before 8; 2 of 3: refused 8
    row (reserve (2, 2)) (line 0 5 0 0 0 0 0 0) (0 ∷ 1 ∷ 2 ∷ 1 ∷ []) (0 ∷ 0 ∷ 0 ∷ 0 ∷ []) (0 ∷ 0 ∷ 0 ∷ 1 ∷ []) (99 ∷ 0 ∷ 0 ∷ []) ∷
    row (reserve (3, 3)) (line 7 0 0 0 0 0 0 0) (0 ∷ 1 ∷ 2 ∷ 1 ∷ []) (0 ∷ 0 ∷ 0 ∷ 0 ∷ []) (0 ∷ 0 ∷ 0 ∷ 1 ∷ []) (99 ∷ 0 ∷ 0 ∷ []) ∷
    row (reserve (2, 3)) (line 8 0 0 0 0 0 0 0) (0 ∷ 1 ∷ 2 ∷ 1 ∷ []) (0 ∷ 0 ∷ 0 ∷ 0 ∷ []) (0 ∷ 0 ∷ 0 ∷ 1 ∷ []) (99 ∷ 0 ∷ 0 ∷ []) ∷
    -- walk, budget 4 each step: the empty key, at 2, examined 2; "c" at offset 0, length 1; done
    row (step 0 4) (line 0 14 0 0 2 2 0 0) (0 ∷ 1 ∷ 2 ∷ 1 ∷ []) (0 ∷ 0 ∷ 0 ∷ 0 ∷ []) (0 ∷ 0 ∷ 0 ∷ 1 ∷ []) (99 ∷ 0 ∷ 0 ∷ []) ∷
    row (step 2 4) (line 0 14 0 0 2 4 0 1) (0 ∷ 1 ∷ 2 ∷ 1 ∷ []) (0 ∷ 0 ∷ 0 ∷ 0 ∷ []) (0 ∷ 0 ∷ 0 ∷ 1 ∷ []) (99 ∷ 0 ∷ 0 ∷ []) ∷
    row (step 4 4) (line 0 16 0 0 0 4 0 0) (0 ∷ 1 ∷ 2 ∷ 1 ∷ []) (0 ∷ 0 ∷ 0 ∷ 0 ∷ []) (0 ∷ 0 ∷ 0 ∷ 1 ∷ []) (99 ∷ 0 ∷ 0 ∷ []) ∷
    -- copy of the other table, which has "g": done
    row (copy 1) (line 0 1 0 0 0 0 0 0) (0 ∷ 0 ∷ 1 ∷ 0 ∷ []) (0 ∷ 0 ∷ 0 ∷ 0 ∷ []) (0 ∷ 0 ∷ 1 ∷ 0 ∷ []) (103 ∷ 0 ∷ 0 ∷ []) ∷
    -- clear: done, all 0
    row clear (line 0 1 0 0 0 0 0 0) (0 ∷ 0 ∷ 0 ∷ 0 ∷ []) (0 ∷ 0 ∷ 0 ∷ 0 ∷ []) (0 ∷ 0 ∷ 0 ∷ 0 ∷ []) (0 ∷ 0 ∷ 0 ∷ []) ∷
    []

-- A table with a live span past the arena in slot 0.
unfoldable pub damaged : ByteMemory nothing
damaged = set_memory (1 ∷ 0 ∷ 0 ∷ 0 ∷ []) (3 ∷ 0 ∷ 0 ∷ 0 ∷ []) (1 ∷ 0 ∷ 0 ∷ 0 ∷ []) (0 ∷ 0 ∷ 0 ∷ [])

unfoldable pub damaged_rows : List (Row Call (ByteMemory nothing))
damaged_rows =
    -- "e" has its home in slot 0, whose span ends past the arena: refused 5
    row (get (101 ∷ [])) (line 5 0 0 0 0 0 0 0) (1 ∷ 0 ∷ 0 ∷ 0 ∷ []) (3 ∷ 0 ∷ 0 ∷ 0 ∷ []) (1 ∷ 0 ∷ 0 ∷ 0 ∷ []) (0 ∷ 0 ∷ 0 ∷ []) ∷
    -- "c" has another path: absent, examined 1
    row (contains (99 ∷ [])) (line 0 8 0 0 1 0 0 0) (1 ∷ 0 ∷ 0 ∷ 0 ∷ []) (3 ∷ 0 ∷ 0 ∷ 0 ∷ []) (1 ∷ 0 ∷ 0 ∷ 0 ∷ []) (0 ∷ 0 ∷ 0 ∷ []) ∷
    -- what examines every slot: refused 5
    row (insert (99 ∷ [])) (line 5 0 0 0 0 0 0 0) (1 ∷ 0 ∷ 0 ∷ 0 ∷ []) (3 ∷ 0 ∷ 0 ∷ 0 ∷ []) (1 ∷ 0 ∷ 0 ∷ 0 ∷ []) (0 ∷ 0 ∷ 0 ∷ []) ∷
    row (remove (99 ∷ [])) (line 5 0 0 0 0 0 0 0) (1 ∷ 0 ∷ 0 ∷ 0 ∷ []) (3 ∷ 0 ∷ 0 ∷ 0 ∷ []) (1 ∷ 0 ∷ 0 ∷ 0 ∷ []) (0 ∷ 0 ∷ 0 ∷ []) ∷
    row len (line 5 0 0 0 0 0 0 0) (1 ∷ 0 ∷ 0 ∷ 0 ∷ []) (3 ∷ 0 ∷ 0 ∷ 0 ∷ []) (1 ∷ 0 ∷ 0 ∷ 0 ∷ []) (0 ∷ 0 ∷ 0 ∷ []) ∷
    row (reserve (0, 0)) (line 5 0 0 0 0 0 0 0) (1 ∷ 0 ∷ 0 ∷ 0 ∷ []) (3 ∷ 0 ∷ 0 ∷ 0 ∷ []) (1 ∷ 0 ∷ 0 ∷ 0 ∷ []) (0 ∷ 0 ∷ 0 ∷ []) ∷
    -- a step over slot 0: refused 5, the walk as it came
    row (step 0 1) (line 5 0 0 0 0 0 0 0) (1 ∷ 0 ∷ 0 ∷ 0 ∷ []) (3 ∷ 0 ∷ 0 ∷ 0 ∷ []) (1 ∷ 0 ∷ 0 ∷ 0 ∷ []) (0 ∷ 0 ∷ 0 ∷ []) ∷
    []

-- Arrays that disagree in length: a length too many.
unfoldable pub uneven : ByteMemory nothing
uneven = set_memory (0 ∷ 0 ∷ 0 ∷ 0 ∷ []) (0 ∷ 0 ∷ 0 ∷ 0 ∷ []) (0 ∷ 0 ∷ 0 ∷ 0 ∷ 0 ∷ []) (0 ∷ 0 ∷ 0 ∷ [])

unfoldable pub uneven_rows : List (Row Call (ByteMemory nothing))
uneven_rows =
    -- every call is refused 1, before anything else
    row make (line 1 0 0 0 0 0 0 0) (0 ∷ 0 ∷ 0 ∷ 0 ∷ []) (0 ∷ 0 ∷ 0 ∷ 0 ∷ []) (0 ∷ 0 ∷ 0 ∷ 0 ∷ 0 ∷ []) (0 ∷ 0 ∷ 0 ∷ []) ∷
    row (get (99 ∷ [])) (line 1 0 0 0 0 0 0 0) (0 ∷ 0 ∷ 0 ∷ 0 ∷ []) (0 ∷ 0 ∷ 0 ∷ 0 ∷ []) (0 ∷ 0 ∷ 0 ∷ 0 ∷ 0 ∷ []) (0 ∷ 0 ∷ 0 ∷ []) ∷
    row (step 9 0) (line 1 0 0 0 0 9 0 0) (0 ∷ 0 ∷ 0 ∷ 0 ∷ []) (0 ∷ 0 ∷ 0 ∷ 0 ∷ []) (0 ∷ 0 ∷ 0 ∷ 0 ∷ 0 ∷ []) (0 ∷ 0 ∷ 0 ∷ []) ∷
    []
