-- Worked numbers of the integer set, S = 4, from any memory on, in order: each published call, the paper's numbers of its answer, and all lent lists after it.
use Rattle.std.specs.Prelude.{ℕ, cond, List, [], ◌∷◌, eqb}
use Rattle.answers.specs.declared.Numbers.{Numbers}
use Rattle.kinds.specs.Columns.{nothing}
use Rattle.kinds.specs.Told.{ToldAndLeft, told}
use Rattle.int_slots.specs.Memory.{IntMemory}
use Rattle.int_slots.specs.Sets.{memory}
use Rattle.promises.specs.IntSet.{Call, make, clear, capacity, len, is_empty, reserve, get, contains, insert, remove, copy, step, told_by}
use Rattle.worked.specs.Rows.{Row}

-- Another table, number 1.
unfoldable pub other : IntMemory nothing
other = memory (1 ∷ 0 ∷ 0 ∷ 0 ∷ []) (1 ∷ 0 ∷ 0 ∷ 0 ∷ [])

-- What a call on the table 0 tells and leaves, by the definition that its contract cites.
unfoldable pub done : IntMemory nothing → Call → ToldAndLeft (IntMemory nothing)
done m c = told_by (λ y. cond (eqb y 0) m other) 0 c

-- Some memory of 4 slots.
unfoldable pub before : IntMemory nothing
before = memory (9 ∷ 1 ∷ 2 ∷ 0 ∷ []) (5 ∷ 6 ∷ 7 ∷ 8 ∷ [])

-- refusal, case, key, value, slot, examined, walk
abbrev line : ℕ → ℕ → ℕ → ℕ → ℕ → ℕ → ℕ → Numbers
line r c k v s e w = record { refusal = r; case = c; key = k; value = v; slot = s; examined = e; walk = w; offset = 0; length = 0 }

abbrev row : Call → Numbers → List ℕ → List ℕ → Row Call (IntMemory nothing)
row c n marks keys = record { order = c; tells = told n (memory marks keys) }

unfoldable pub rows : List (Row Call (IntMemory nothing))
rows =
    -- make, on any memory: done, all 0
    row make (line 0 1 0 0 0 0 0) (0 ∷ 0 ∷ 0 ∷ 0 ∷ []) (0 ∷ 0 ∷ 0 ∷ 0 ∷ []) ∷
    -- is_empty: empty
    row is_empty (line 0 3 0 0 0 0 0) (0 ∷ 0 ∷ 0 ∷ 0 ∷ []) (0 ∷ 0 ∷ 0 ∷ 0 ∷ []) ∷
    -- insert 0: fresh, slot 1, examined 1
    row (insert 0) (line 0 9 0 0 1 1 0) (0 ∷ 1 ∷ 0 ∷ 0 ∷ []) (0 ∷ 0 ∷ 0 ∷ 0 ∷ []) ∷
    -- insert 4: fresh, slot 2, examined 2
    row (insert 4) (line 0 9 0 0 2 2 0) (0 ∷ 1 ∷ 1 ∷ 0 ∷ []) (0 ∷ 0 ∷ 4 ∷ 0 ∷ []) ∷
    -- insert 0: already there, slot 1, examined 1
    row (insert 0) (line 0 10 0 0 1 1 0) (0 ∷ 1 ∷ 1 ∷ 0 ∷ []) (0 ∷ 0 ∷ 4 ∷ 0 ∷ []) ∷
    -- get 4: found the key 4, slot 2, examined 2
    row (get 4) (line 0 6 4 0 2 2 0) (0 ∷ 1 ∷ 1 ∷ 0 ∷ []) (0 ∷ 0 ∷ 4 ∷ 0 ∷ []) ∷
    -- get 8: absent, examined 3
    row (get 8) (line 0 8 0 0 0 3 0) (0 ∷ 1 ∷ 1 ∷ 0 ∷ []) (0 ∷ 0 ∷ 4 ∷ 0 ∷ []) ∷
    -- contains 4: present, examined 2; contains 1: absent, examined 1
    row (contains 4) (line 0 7 0 0 0 2 0) (0 ∷ 1 ∷ 1 ∷ 0 ∷ []) (0 ∷ 0 ∷ 4 ∷ 0 ∷ []) ∷
    row (contains 1) (line 0 8 0 0 0 1 0) (0 ∷ 1 ∷ 1 ∷ 0 ∷ []) (0 ∷ 0 ∷ 4 ∷ 0 ∷ []) ∷
    -- remove 0: removed, slot 1, examined 1; and once more: absent, examined 3
    row (remove 0) (line 0 11 0 0 1 1 0) (0 ∷ 2 ∷ 1 ∷ 0 ∷ []) (0 ∷ 0 ∷ 4 ∷ 0 ∷ []) ∷
    row (remove 0) (line 0 8 0 0 0 3 0) (0 ∷ 2 ∷ 1 ∷ 0 ∷ []) (0 ∷ 0 ∷ 4 ∷ 0 ∷ []) ∷
    -- len: 1; is_empty: holds keys; capacity: 4
    row len (line 0 2 0 1 0 0 0) (0 ∷ 2 ∷ 1 ∷ 0 ∷ []) (0 ∷ 0 ∷ 4 ∷ 0 ∷ []) ∷
    row is_empty (line 0 4 0 0 0 0 0) (0 ∷ 2 ∷ 1 ∷ 0 ∷ []) (0 ∷ 0 ∷ 4 ∷ 0 ∷ []) ∷
    row capacity (line 0 2 0 4 0 0 0) (0 ∷ 2 ∷ 1 ∷ 0 ∷ []) (0 ∷ 0 ∷ 4 ∷ 0 ∷ []) ∷
    -- reserve 3: room; reserve 4: refused 7
    row (reserve 3) (line 0 5 0 0 0 0 0) (0 ∷ 2 ∷ 1 ∷ 0 ∷ []) (0 ∷ 0 ∷ 4 ∷ 0 ∷ []) ∷
    row (reserve 4) (line 7 0 0 0 0 0 0) (0 ∷ 2 ∷ 1 ∷ 0 ∷ []) (0 ∷ 0 ∷ 4 ∷ 0 ∷ []) ∷
    -- walk, budget 4 each step: 4, at 3, examined 3; nothing, at 4, examined 1; done
    row (step 0 4) (line 0 14 4 0 0 3 3) (0 ∷ 2 ∷ 1 ∷ 0 ∷ []) (0 ∷ 0 ∷ 4 ∷ 0 ∷ []) ∷
    row (step 3 4) (line 0 15 0 0 0 1 4) (0 ∷ 2 ∷ 1 ∷ 0 ∷ []) (0 ∷ 0 ∷ 4 ∷ 0 ∷ []) ∷
    row (step 4 4) (line 0 16 0 0 0 0 4) (0 ∷ 2 ∷ 1 ∷ 0 ∷ []) (0 ∷ 0 ∷ 4 ∷ 0 ∷ []) ∷
    -- copy of the other table, which has 1: done
    row (copy 1) (line 0 1 0 0 0 0 0) (1 ∷ 0 ∷ 0 ∷ 0 ∷ []) (1 ∷ 0 ∷ 0 ∷ 0 ∷ []) ∷
    -- clear: done, all 0
    row clear (line 0 1 0 0 0 0 0) (0 ∷ 0 ∷ 0 ∷ 0 ∷ []) (0 ∷ 0 ∷ 0 ∷ 0 ∷ []) ∷
    []

-- A table with a mark above 2 in slot 0.
unfoldable pub damaged : IntMemory nothing
damaged = memory (9 ∷ 1 ∷ 0 ∷ 0 ∷ []) (1 ∷ 12 ∷ 0 ∷ 0 ∷ [])

unfoldable pub damaged_rows : List (Row Call (IntMemory nothing))
damaged_rows =
    -- key 1 has its home in the damaged slot 0: refused 5
    row (get 1) (line 5 0 0 0 0 0 0) (9 ∷ 1 ∷ 0 ∷ 0 ∷ []) (1 ∷ 12 ∷ 0 ∷ 0 ∷ []) ∷
    row (contains 1) (line 5 0 0 0 0 0 0) (9 ∷ 1 ∷ 0 ∷ 0 ∷ []) (1 ∷ 12 ∷ 0 ∷ 0 ∷ []) ∷
    row (insert 1) (line 5 0 0 0 0 0 0) (9 ∷ 1 ∷ 0 ∷ 0 ∷ []) (1 ∷ 12 ∷ 0 ∷ 0 ∷ []) ∷
    row (remove 1) (line 5 0 0 0 0 0 0) (9 ∷ 1 ∷ 0 ∷ 0 ∷ []) (1 ∷ 12 ∷ 0 ∷ 0 ∷ []) ∷
    -- key 12 has another path: found, slot 1, examined 1
    row (get 12) (line 0 6 12 0 1 1 0) (9 ∷ 1 ∷ 0 ∷ 0 ∷ []) (1 ∷ 12 ∷ 0 ∷ 0 ∷ []) ∷
    -- what examines every slot: refused 5
    row len (line 5 0 0 0 0 0 0) (9 ∷ 1 ∷ 0 ∷ 0 ∷ []) (1 ∷ 12 ∷ 0 ∷ 0 ∷ []) ∷
    row is_empty (line 5 0 0 0 0 0 0) (9 ∷ 1 ∷ 0 ∷ 0 ∷ []) (1 ∷ 12 ∷ 0 ∷ 0 ∷ []) ∷
    row (reserve 0) (line 5 0 0 0 0 0 0) (9 ∷ 1 ∷ 0 ∷ 0 ∷ []) (1 ∷ 12 ∷ 0 ∷ 0 ∷ []) ∷
    -- a step over slot 0: refused 5, the walk as it came
    row (step 0 4) (line 5 0 0 0 0 0 0) (9 ∷ 1 ∷ 0 ∷ 0 ∷ []) (1 ∷ 12 ∷ 0 ∷ 0 ∷ []) ∷
    []

-- Arrays that disagree in length: a key too many.
unfoldable pub uneven : IntMemory nothing
uneven = memory (0 ∷ 0 ∷ 0 ∷ 0 ∷ []) (0 ∷ 0 ∷ 0 ∷ 0 ∷ 0 ∷ [])

unfoldable pub uneven_rows : List (Row Call (IntMemory nothing))
uneven_rows =
    -- every call is refused 1, before anything else
    row make (line 1 0 0 0 0 0 0) (0 ∷ 0 ∷ 0 ∷ 0 ∷ []) (0 ∷ 0 ∷ 0 ∷ 0 ∷ 0 ∷ []) ∷
    row (get 1) (line 1 0 0 0 0 0 0) (0 ∷ 0 ∷ 0 ∷ 0 ∷ []) (0 ∷ 0 ∷ 0 ∷ 0 ∷ 0 ∷ []) ∷
    row (step 9 0) (line 1 0 0 0 0 0 9) (0 ∷ 0 ∷ 0 ∷ 0 ∷ []) (0 ∷ 0 ∷ 0 ∷ 0 ∷ 0 ∷ []) ∷
    []
