-- The lent arrays of a byte map as the contracts name them. The crates of the byte map share it.
use Rattle.std.specs.Prelude.{ℕ, List}
use Rattle.kinds.specs.Columns.{values}
use Rattle.byte_slots.specs.Memory.{ByteMemory}
use Rattle.byte_slots.specs.Kinds.{map_memory}

-- At one moment.
abbrev pub map_now : List ℕ → List ℕ → List ℕ → List ℕ → List ℕ → ByteMemory values
map_now marks offsets lengths vs arena = map_memory marks offsets lengths vs arena

-- When a call starts, and when it ends.
abbrev pub before : List ℕ → List ℕ → List ℕ → List ℕ → List ℕ → ByteMemory values
before marks offsets lengths vs arena = map_now marks offsets lengths vs arena

abbrev pub after : List ℕ → List ℕ → List ℕ → List ℕ → List ℕ → ByteMemory values
after marks offsets lengths vs arena = map_now marks offsets lengths vs arena
