-- The lent places of an integer table, and which of them each write names.
use Rattle.std.specs.Prelude.{ℕ, Bool, false, ◌⊎◌, eqb, get_or}
use Rattle.std.proofs.Common.{inl, inr}
use Rattle.model.specs.Places.{Places}
use Rattle.kinds.specs.Columns.{Column}
use Rattle.int_slots.specs.Memory.{IntMemory, int_store}

-- A slot's mark, its key, and what stands beside the key.
pub data Place : Type 0 where
  mark_at key_at beside_at : ℕ → Place

-- What stands in a place.
unfoldable pub word_in : {W : Type 0} (C : Column W) → IntMemory C → Place → ℕ ⊎ W
word_in C m (mark_at i) = inl (get_or m.marks i 0)
word_in C m (key_at i) = inl (get_or m.keys i 0)
word_in C m (beside_at i) = inr (C.read m.words i)

-- A value written over names what stands beside the slot's key.
unfoldable pub names_over : ℕ → Place → Bool
names_over i (mark_at j) = false
names_over i (key_at j) = false
names_over i (beside_at j) = eqb j i

-- A slot filled or freed names all that stands in it.
unfoldable pub slot_names : ℕ → Place → Bool
slot_names i (mark_at j) = eqb j i
slot_names i (key_at j) = eqb j i
slot_names i (beside_at j) = eqb j i

-- The places of an integer table.
abbrev pub places : {W : Type 0} (C : Column W) → Places (int_store C)
places {W} C = record {
  Place = Place;
  Word = ℕ ⊎ W;
  word = word_in C;
  over_names = names_over;
  fill_names = λ m i k. slot_names i;
  free_names = λ m i. slot_names i;
}
