-- An integer map is an integer set with a column: where the column is as long as the marks, they have the same sizes, damage and length.
use Rattle.std.proofs.Common.{true, ◌≡◌, refl, length}
use Rattle.kinds.specs.Columns.{Column}
use Rattle.kinds.specs.Marks.{words_of}
use Rattle.kinds.proofs.Alike.{stand_beside}
use Rattle.kinds.proofs.Beside.{Beside}
use Rattle.int_slots.specs.Memory.{IntMemory, int_store}
use Rattle.int_slots.specs.Sets.{sets, memory}

module _ {W : Type 0} (C : Column W) (m : IntMemory C) (long : C.long m.words (length m.marks) ≡ true) where
  pub beside_set : Beside (int_store C) sets m (memory m.marks m.keys)
  beside_set = stand_beside (words_of m.marks) (words_of m.keys) (C.read m.words) (λ i. tt) (int_store C) sets refl refl (rw long) refl refl refl refl
