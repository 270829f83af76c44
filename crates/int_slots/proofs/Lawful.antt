-- Integer tables are a lawful store, for maps and sets alike: each write changes the slots as it should.
use Prim.Native.Nat.{ℕ, zero, suc, ◌<◌}
use mathlib.Core.Bool.{true, ◌&&◌}
use mathlib.Core.Path.{◌≡◌, refl, sym, ap, fun_ext}
use native.Mathlib.Omega.{arith}
use borrow.Author.Tests.{ltb-true, eqb-true}
use lib.Dec.{eqb, ltb, leb}
use lib.ListN.{length, get_or, replicate, length-set, length-replicate}
use lib.Seq.{get_or-set_same, get_or-set_other}
use Rattle.model.specs.Slots.{Slot, never, freed, damaged, live, Table, put, made, total, weigh}
use Rattle.model.specs.Store.{used}
use Rattle.model.specs.Lawful.{Lawful}
use Rattle.model.proofs.Cases.{both, by_eq, clash}
use Rattle.digest.specs.Home.{home_of_word, slots_fit}
use Rattle.digest.proofs.Bounds.{home_word_below}
use Rattle.kinds.specs.Columns.{Column}
use Rattle.kinds.proofs.Columns.{LawfulColumn}
use Rattle.kinds.specs.Marks.{cell}
use Rattle.int_slots.specs.Memory.{IntMemory, int_store}

zeros : (n j : ℕ) → ◌≡◌ {A = ℕ} (get_or (replicate n 0) j 0) 0
zeros zero j = refl
zeros (suc n) zero = refl
zeros (suc n) (suc j) = zeros n j

nothing_weighs : {W : Type 0} (s : Slot ℕ W) → weigh (λ k. 0) s ≡ 0
unfolding weigh
nothing_weighs never = refl
nothing_weighs freed = refl
nothing_weighs damaged = refl
nothing_weighs (live a v) = refl

module _ {W : Type 0} (C : Column W) (O : LawfulColumn C) where
  -- what right sizes say of the three columns
  sizes_say : (m : IntMemory C) → (int_store C).sized m ≡ true → (0 < length m.marks) × (length m.keys ≡ length m.marks) × (C.long m.words (length m.marks) ≡ true)
  sizes_say m e =
      let (a, b) = both (slots_fit (length m.marks)) (eqb (length m.marks) (length m.keys) && C.long m.words (length m.marks)) e in
      let (c, d) = both (eqb (length m.marks) (length m.keys)) (C.long m.words (length m.marks)) b in
      let (f, g) = both (ltb 0 (length m.marks)) (leb (length m.marks) 4096) a in
      (ltb-true 0 (length m.marks) f, sym (eqb-true (length m.marks) (length m.keys) c), d)

  weightless : (t : Table ℕ W) (n : ℕ) → total (λ k. 0) t n ≡ 0
  unfolding total
  weightless t zero = refl
  weightless t (suc n) = omega (arith, weightless t n, nothing_weighs (t n))

  -- a table that has the slot s at i, and elsewhere the old slots, is the changed table
  changed : (t u : Table ℕ W) (i : ℕ) (s : Slot ℕ W) → u i ≡ s → ((j : ℕ) → (j ≡ i → ⊥) → u j ≡ t j) → u ≡ put t i s
  unfolding put
  changed t u i s here there = fun_ext (λ j. by_eq j i (λ r e. rw (e, r) here) (λ r e. rw e (there j r)))

  -- a live slot's mark is 1, and its key is the key
  cell_live : (a b k : ℕ) (v w : W) → cell a b v ≡ live k w → (x : W) → cell a b x ≡ live k x
  unfolding cell
  cell_live zero b k v w e x = clash cc
  cell_live (suc zero) b k v w e x = ap (λ n. live n x) (cc)
  cell_live (suc (suc zero)) b k v w e x = clash cc
  cell_live (suc (suc (suc a))) b k v w e x = clash cc

  pub int_lawful : Lawful (int_store C)
  unfolding used cell made
  int_lawful = record {
    homes = λ m k e. home_word_below 0 (length m.marks) k (sizes_say m e).0;
    unharmed = λ m e g s. refl;
    within = λ m e g. omega (arith, weightless ((int_store C).slots m) (length m.marks));
    over_wrote = λ m i k v w e g l q.
        let (a, b, c) = sizes_say m e in record {
          slots = changed ((int_store C).slots m) ((int_store C).slots ((int_store C).over m i v)) i (live k v)
              (rw (O.read_same m.words (length m.marks) i v c l) (cell_live (get_or m.marks i 0) (get_or m.keys i 0) k (C.read m.words i) w q v))
              (λ j h. rw (O.read_other m.words i j v h));
          size = refl;
          home = refl;
          bytes = refl;
          sized = rw (O.long_write m.words (length m.marks) i v);
          good = tt;
        };
    fill_wrote = λ m i k v e g l q u.
        let (a, b, c) = sizes_say m e in record {
          slots = changed ((int_store C).slots m) ((int_store C).slots ((int_store C).fill m i k v)) i (live k v)
              (rw (get_or-set_same m.marks i 1 0 l, get_or-set_same m.keys i k 0 (omega arith), O.read_same m.words (length m.marks) i v c l))
              (λ j h. rw (get_or-set_other m.marks i j 1 0 h, get_or-set_other m.keys i j k 0 h, O.read_other m.words i j v h));
          size = length-set m.marks i 1;
          home = ap (λ n k. home_of_word 0 n k) (length-set m.marks i 1);
          bytes = refl;
          sized = rw (length-set m.marks i 1, length-set m.keys i k, O.long_write m.words (length m.marks) i v);
          good = tt;
        };
    free_wrote = λ m i k w e g l q.
        record {
          slots = changed ((int_store C).slots m) ((int_store C).slots ((int_store C).free m i)) i freed
              (rw (get_or-set_same m.marks i 2 0 l))
              (λ j h. rw (get_or-set_other m.marks i j 2 0 h, get_or-set_other m.keys i j 0 0 h, O.blank_other m.words i j h));
          size = length-set m.marks i 2;
          home = ap (λ n k. home_of_word 0 n k) (length-set m.marks i 2);
          bytes = refl;
          sized = rw (length-set m.marks i 2, length-set m.keys i 0, O.long_blank m.words (length m.marks) i);
          good = tt;
        };
    wipe_wrote = λ m e. record {
      slots = fun_ext (λ j. rw (zeros (length m.marks) j));
      size = length-replicate {A = ℕ} (length m.marks) 0;
      home = ap (λ n k. home_of_word 0 n k) (length-replicate {A = ℕ} (length m.marks) 0);
      bytes = refl;
      sized = rw (length-replicate {A = ℕ} (length m.marks) 0, length-replicate {A = ℕ} (length m.keys) 0, O.long_wipe m.words (length m.marks));
      good = tt;
    };
    over_size = λ m i v. refl;
    fill_size = λ m i k v. length-set m.marks i 1;
    free_size = λ m i. length-set m.marks i 2;
    wipe_size = λ m. length-replicate {A = ℕ} (length m.marks) 0;
  }
