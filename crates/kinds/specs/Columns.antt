-- What stands beside the keys: the values of a map, or nothing in a set.
use Rattle.std.specs.Prelude.{ℕ, Bool, true, List, eqb, length, get_or, set, replicate}

-- A column of words, one a slot: whether it has so many, what stands at a slot, and how it is written.
pub record Column (W : Type 0) : Type 1 where
  pub Words : Type 0
  pub long : Words → ℕ → Bool
  pub read : Words → ℕ → W
  pub write : Words → ℕ → W → Words
  pub blank : Words → ℕ → Words
  pub wipe : Words → Words

-- A map's values: one u64 a slot.
abbrev pub values : Column ℕ
values = record {
  Words = List ℕ;
  long = λ ws n. eqb n (length ws);
  read = λ ws i. get_or ws i 0;
  write = λ ws i v. set ws i v;
  blank = λ ws i. set ws i 0;
  wipe = λ ws. replicate (length ws) 0;
}

-- A set has no values.
abbrev pub nothing : Column (Unit {0})
nothing = record {
  Words = Unit {0};
  long = λ ws n. true;
  read = λ ws i. tt;
  write = λ ws i v. tt;
  blank = λ ws i. tt;
  wipe = λ ws. tt;
}
