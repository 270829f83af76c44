-- The two columns keep what a column owes.
use Prim.Native.Nat.{ℕ, ◌<◌}
use mathlib.Core.Bool.{true}
use mathlib.Core.Path.{◌≡◌, refl, ap}
use native.Mathlib.Omega.{arith}
use borrow.Author.Tests.{eqb-true}
use lib.Dec.{eqb}
use lib.ListN.{length, length-set, length-replicate}
use lib.Seq.{get_or-set_same, get_or-set_other}
use Rattle.kinds.specs.Columns.{Column, values, nothing}

-- What a column owes: a written word is read back, the others stay, and its length stays.
pub record LawfulColumn {W : Type 0} (C : Column W) : Type 0 where
  pub read_same : (ws : C.Words) (n i : ℕ) (v : W) → C.long ws n ≡ true → i < n → C.read (C.write ws i v) i ≡ v
  pub read_other : (ws : C.Words) (i j : ℕ) (v : W) → (j ≡ i → ⊥) → C.read (C.write ws i v) j ≡ C.read ws j
  pub blank_other : (ws : C.Words) (i j : ℕ) → (j ≡ i → ⊥) → C.read (C.blank ws i) j ≡ C.read ws j
  pub long_write : (ws : C.Words) (n i : ℕ) (v : W) → C.long (C.write ws i v) n ≡ C.long ws n
  pub long_blank : (ws : C.Words) (n i : ℕ) → C.long (C.blank ws i) n ≡ C.long ws n
  pub long_wipe : (ws : C.Words) (n : ℕ) → C.long (C.wipe ws) n ≡ C.long ws n

pub values_lawful : LawfulColumn values
values_lawful = record {
  read_same = λ ws n i v e l. get_or-set_same ws i v 0 (omega (arith, eqb-true n (length ws) e));
  read_other = λ ws i j v h. get_or-set_other ws i j v 0 h;
  blank_other = λ ws i j h. get_or-set_other ws i j 0 0 h;
  long_write = λ ws n i v. ap (λ k. eqb n k) (length-set ws i v);
  long_blank = λ ws n i. ap (λ k. eqb n k) (length-set ws i 0);
  long_wipe = λ ws n. ap (λ k. eqb n k) (length-replicate {A = ℕ} (length ws) 0);
}

pub nothing_lawful : LawfulColumn nothing
nothing_lawful = record {
  read_same = λ ws n i v e l. refl;
  read_other = λ ws i j v h. refl;
  blank_other = λ ws i j h. refl;
  long_write = λ ws n i v. refl;
  long_blank = λ ws n i. refl;
  long_wipe = λ ws n. refl;
}
