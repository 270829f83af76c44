-- The lent places of a byte table, and which of them each write names.
use Rattle.std.specs.Prelude.{ℕ, ◌+◌, Bool, true, false, cond, ◌&&◌, List, ◌⊎◌, eqb, ltb, leb, length, get_or}
use Rattle.std.proofs.Common.{inl, inr}
use Rattle.model.specs.Places.{Places}
use Rattle.kinds.specs.Columns.{Column}
use Rattle.byte_slots.specs.Memory.{Spans, end_at, used_of, ByteMemory, byte_store}

-- A slot's mark, its offset, its length, what stands beside its key, and a byte of the arena.
pub data Place : Type 0 where
  mark_at offset_at length_at beside_at byte_at : ℕ → Place

-- What stands in a place.
unfoldable pub word_in : {W : Type 0} (C : Column W) → ByteMemory C → Place → ℕ ⊎ W
word_in C m (mark_at i) = inl (get_or m.spans.marks i 0)
word_in C m (offset_at i) = inl (get_or m.spans.offsets i 0)
word_in C m (length_at i) = inl (get_or m.spans.lengths i 0)
word_in C m (beside_at i) = inr (C.read m.words i)
word_in C m (byte_at b) = inl (get_or m.spans.arena b 0)

-- A value written over names what stands beside the slot's key.
unfoldable pub names_over : ℕ → Place → Bool
names_over i (mark_at j) = false
names_over i (offset_at j) = false
names_over i (length_at j) = false
names_over i (beside_at j) = eqb j i
names_over i (byte_at b) = false

-- A slot filled names all that stands in it, and as many bytes from `used` on as the key has.
unfoldable pub names_fill : Spans → ℕ → List ℕ → Place → Bool
names_fill s i k (mark_at j) = eqb j i
names_fill s i k (offset_at j) = eqb j i
names_fill s i k (length_at j) = eqb j i
names_fill s i k (beside_at j) = eqb j i
names_fill s i k (byte_at b) = leb (used_of s) b && ltb b (used_of s + length k)

-- A slot freed names all that stands in it, each live offset from its span's end on, and the bytes from its span on up to `used`.
unfoldable pub names_free : Spans → ℕ → Place → Bool
names_free s i (mark_at j) = eqb j i
names_free s i (offset_at j) = cond (eqb j i) true (eqb (get_or s.marks j 0) 1 && leb (end_at s i) (get_or s.offsets j 0))
names_free s i (length_at j) = eqb j i
names_free s i (beside_at j) = eqb j i
names_free s i (byte_at b) = leb (get_or s.offsets i 0) b && ltb b (used_of s)

-- The places of a byte table.
abbrev pub places : {W : Type 0} (C : Column W) → Places (byte_store C)
places {W} C = record {
  Place = Place;
  Word = ℕ ⊎ W;
  word = word_in C;
  over_names = names_over;
  fill_names = λ m i k. names_fill m.spans i k;
  free_names = λ m i. names_free m.spans i;
}
