-- A byte set's sizes, by the test of the keys' arrays.
use Rattle.std.proofs.Common.{Bool, true, false, ◌≡◌, List, ℕ}
use Rattle.kinds.specs.Columns.{nothing}
use Rattle.tables.specs.Reading.{probing}
use Rattle.byte_slots.specs.Memory.{Spans, fitting}
use Rattle.byte_slots.specs.Kinds.{SetMemory, sets, as_set}
use Rattle.byte_slots.specs.Probing.{path_of}
use Rattle.byte_slots.proofs.Bridge.{path_is}

module _ (s : Spans) {b : Bool} (p : b ≡ fitting s) where
  pub fit : b ≡ true → sets.sized (as_set s) ≡ true
  fit q = rw (← p, q)

  pub unfit : b ≡ false → sets.sized (as_set s) ≡ false
  unfit q = rw (← p, q)

-- What the path of a key in a set found is the path over the spans.
pub probing_set : (m : SetMemory) (k : List ℕ) → probing sets m k ≡ path_of m.spans k
unfolding probing
probing_set m k = path_is nothing m k
