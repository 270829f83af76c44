-- The lent arrays of a byte set as the contracts name them. The crates of the byte set share it.
use Rattle.std.specs.Prelude.{List, ℕ}
use Rattle.kinds.specs.Columns.{nothing}
use Rattle.byte_slots.specs.Memory.{ByteMemory}
use Rattle.byte_slots.specs.Kinds.{set_memory}

-- When a call starts, and when it ends.
abbrev pub before : List ℕ → List ℕ → List ℕ → List ℕ → ByteMemory nothing
before marks offsets lengths arena = set_memory marks offsets lengths arena

abbrev pub after : List ℕ → List ℕ → List ℕ → List ℕ → ByteMemory nothing
after marks offsets lengths arena = set_memory marks offsets lengths arena
