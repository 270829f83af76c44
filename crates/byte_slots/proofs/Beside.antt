-- A byte map is a byte set with a column: where the column is as long as the marks, they have the same sizes, damage and length, and find the same.
use Rattle.std.proofs.Common.{Bool, true, false, List, ◌≡◌, refl, ℕ, zero, suc, leb, length, get_or}
use Rattle.model.specs.Slots.{Keys, live}
use Rattle.model.proofs.Cases.{clash}
use Rattle.kinds.specs.Probing.{look_at}
use Rattle.tables.specs.Reading.{mark_in}
use Rattle.kinds.specs.Columns.{Column}
use Rattle.kinds.proofs.Alike.{stand_beside}
use Rattle.kinds.proofs.Beside.{Beside}
use Rattle.byte_slots.specs.Kinds.{sets, as_set}
use Rattle.byte_slots.specs.Marks.{mark_of}
use Rattle.byte_slots.specs.Memory.{Spans, ByteMemory, byte_store, key_at, end_at, spanned, slots_of}
use Rattle.byte_slots.proofs.Marks.{slots_cells}

module _ {W : Type 0} (C : Column W) (m : ByteMemory C) (long : C.long m.words (length m.spans.marks) ≡ true) where
  pub beside_set : Beside (byte_store C) sets m (as_set m.spans)
  beside_set = stand_beside (mark_of m.spans) (key_at m.spans) (C.read m.words) (λ i. tt) (byte_store C) sets (slots_cells m.spans (C.read m.words)) (slots_cells m.spans (λ i. tt)) (rw long) refl refl refl refl

-- The mark of a slot, and what it says to a path, whatever value stands beside its key.
module _ {V W : Type 0} (s : Spans) (v : ℕ → V) (w : ℕ → W) (i : ℕ) where
  inside_or_not : (b : Bool) (m : ℕ) (k : List ℕ) → mark_in (spanned b m k (v i)) ≡ mark_in (spanned b m k (w i))
  unfolding mark_in spanned
  inside_or_not b zero k = refl
  inside_or_not true (suc zero) k = refl
  inside_or_not false (suc zero) k = refl
  inside_or_not b (suc (suc zero)) k = refl
  inside_or_not b (suc (suc (suc m))) k = refl

  pub mark_slots : mark_in (slots_of s v i) ≡ mark_in (slots_of s w i)
  unfolding slots_of
  mark_slots = inside_or_not (leb (end_at s i) (length s.arena)) (get_or s.marks i 0) (key_at s i)

  look_or_not : (E : Keys (List ℕ)) (k : List ℕ) (b : Bool) (m : ℕ) (a : List ℕ) → look_at E k (spanned b m a (v i)) ≡ look_at E k (spanned b m a (w i))
  unfolding look_at spanned
  look_or_not E k b zero a = refl
  look_or_not E k true (suc zero) a = refl
  look_or_not E k false (suc zero) a = refl
  look_or_not E k b (suc (suc zero)) a = refl
  look_or_not E k b (suc (suc (suc m))) a = refl

  pub look_slots : (E : Keys (List ℕ)) (k : List ℕ) → look_at E k (slots_of s v i) ≡ look_at E k (slots_of s w i)
  unfolding slots_of
  look_slots E k = look_or_not E k (leb (end_at s i) (length s.arena)) (get_or s.marks i 0) (key_at s i)

-- the value of a live slot is what stands beside it
module _ {W : Type 0} {w : W} {k : List ℕ} where
  word_in : (b : Bool) (m : ℕ) (a : List ℕ) (v : W) → spanned b m a v ≡ live k w → w ≡ v
  unfolding spanned
  word_in b zero a v e = clash cc
  word_in true (suc zero) a v e = cc
  word_in false (suc zero) a v e = clash cc
  word_in b (suc (suc zero)) a v e = clash cc
  word_in b (suc (suc (suc m))) a v e = clash cc

  pub word_held : (s : Spans) (v : ℕ → W) (i : ℕ) → slots_of s v i ≡ live k w → w ≡ v i
  unfolding slots_of
  word_held s v i e = word_in (leb (end_at s i) (length s.arena)) (get_or s.marks i 0) (key_at s i) (v i) e
