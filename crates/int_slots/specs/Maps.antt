-- An integer map as a store, and its lent arrays as the contracts name them. The crates of the integer map share it.
use Rattle.std.specs.Prelude.{List, ℕ}
use Rattle.model.specs.Store.{Store}
use Rattle.kinds.specs.Columns.{values}
use Rattle.int_slots.specs.Memory.{IntMemory, int_store, memory}

-- An integer map as a store.
abbrev pub maps : Store ℕ ℕ
maps = int_store values

-- The lent arrays of a map.
abbrev pub MapMemory : Type 0
MapMemory = IntMemory values

-- The lent arrays of a map when a call starts, and when it ends.
abbrev pub before : List ℕ → List ℕ → List ℕ → IntMemory values
before marks keys vs = memory marks keys vs

abbrev pub after : List ℕ → List ℕ → List ℕ → IntMemory values
after marks keys vs = memory marks keys vs
