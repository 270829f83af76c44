-- Integer tables on any memory: a write does no damage, and changes only the places that it names.
use Prim.Native.Nat.{ℕ}
use mathlib.Core.Bool.{false}
use mathlib.Core.Logic.{inl, inr}
use mathlib.Core.Path.{◌≡◌, refl, ap}
use borrow.Author.Tests.{eqb-false}
use lib.ListN.{set}
use lib.Seq.{get_or-set_other}
use Rattle.model.specs.Lawful.{Steady}
use Rattle.model.specs.Places.{Apart}
use Rattle.kinds.specs.Columns.{Column}
use Rattle.kinds.proofs.Columns.{LawfulColumn}
use Rattle.int_slots.specs.Memory.{IntMemory, int_store}
use Rattle.int_slots.specs.Places.{Place, mark_at, key_at, beside_at, word_in, names_over, slot_names, places}
use Rattle.int_slots.proofs.Lawful.{int_lawful}

module _ {W : Type 0} (C : Column W) (O : LawfulColumn C) where
  -- Integer tables are steady: no write of theirs does damage.
  pub int_steady : Steady (int_store C)
  int_steady = record {
    homes = (int_lawful C O).homes;
    room = λ m z h. (int_lawful C O).within m z tt;
    over_steady = λ m i k v w z h l q. let x = (int_lawful C O).over_wrote m i k v w z tt l q in
        record { slots = x.slots; size = x.size; home = x.home; bytes = x.bytes; sized = x.sized; good = refl };
    fill_steady = λ m i k v z h l q u. let x = (int_lawful C O).fill_wrote m i k v z tt l q u in
        record { slots = x.slots; size = x.size; home = x.home; bytes = x.bytes; sized = x.sized; good = refl };
  }

  over_kept : (m : IntMemory C) (i : ℕ) (v : W) (p : Place) → names_over i p ≡ false → word_in C ((int_store C).over m i v) p ≡ word_in C m p
  unfolding names_over word_in
  over_kept m i v (mark_at j) e = refl
  over_kept m i v (key_at j) e = refl
  over_kept m i v (beside_at j) e = ap inr (O.read_other m.words i j v (eqb-false j i e))

  slot_kept : (m : IntMemory C) (mark key : ℕ) (ws : C.Words) (i : ℕ) → ((j : ℕ) → (j ≡ i → ⊥) → C.read ws j ≡ C.read m.words j) → (p : Place) → slot_names i p ≡ false → word_in C record { marks = set m.marks i mark; keys = set m.keys i key; words = ws } p ≡ word_in C m p
  unfolding slot_names word_in
  slot_kept m mark key ws i h (mark_at j) e = ap inl (get_or-set_other m.marks i j mark 0 (eqb-false j i e))
  slot_kept m mark key ws i h (key_at j) e = ap inl (get_or-set_other m.keys i j key 0 (eqb-false j i e))
  slot_kept m mark key ws i h (beside_at j) e = ap inr (h j (eqb-false j i e))

  -- Each write changes only the places that it names.
  pub int_apart : Apart (int_store C) (places C)
  int_apart = record {
    over_apart = λ m i v p. over_kept m i v p;
    fill_apart = λ m i k v p z h l u. slot_kept m 1 k (C.write m.words i v) i (λ j. O.read_other m.words i j v) p;
    free_apart = λ m i k w p z h l q. slot_kept m 2 0 (C.blank m.words i) i (λ j. O.blank_other m.words i j) p;
  }
