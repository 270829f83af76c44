-- An integer set as a store, and its lent arrays as the contracts name them. The crates of the integer set share it.
use Rattle.std.specs.Prelude.{ℕ, List}
use Rattle.model.specs.Store.{Store}
use Rattle.kinds.specs.Columns.{nothing}
use Rattle.int_slots.specs.Memory.{IntMemory, int_store}

-- An integer set as a store: no values stand beside its keys.
abbrev pub sets : Store ℕ (Unit {0})
sets = int_store nothing

-- The lent arrays of a set.
abbrev pub SetMemory : Type 0
SetMemory = IntMemory nothing

-- The lent lists of a set.
abbrev pub memory : List ℕ → List ℕ → IntMemory nothing
memory marks keys = record { marks = marks; keys = keys; words = tt }

-- The lent arrays of a set when a call starts, and when it ends.
abbrev pub before : List ℕ → List ℕ → IntMemory nothing
before marks keys = memory marks keys

abbrev pub after : List ℕ → List ℕ → IntMemory nothing
after marks keys = memory marks keys
