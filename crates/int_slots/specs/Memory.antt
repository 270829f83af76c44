-- The lent lists of an integer table as one record, what its slots hold, and the store that they are.
use Rattle.std.specs.Prelude.{ℕ, Bool, false, ◌&&◌, List, refl, eqb, length, set, replicate}
use Rattle.std.proofs.Common.{eqb-true, eq-eqb, sym}
use Rattle.model.specs.Slots.{Keys}
use Rattle.model.specs.Store.{Store}
use Rattle.digest.specs.Home.{home_of_word, slots_fit}
use Rattle.kinds.specs.Columns.{Column, values}
use Rattle.kinds.specs.Marks.{cells_of, words_of}

-- Marks, keys, and what stands beside the keys.
pub record IntMemory {W : Type 0} (C : Column W) : Type 0 where
  pub marks : List ℕ
  pub keys : List ℕ
  pub words : C.Words

-- Integer keys are equal as numbers.
abbrev pub integers : Keys ℕ
integers = record { same = λ a b. eqb b a; right = λ a b e. sym (eqb-true b a e); self = λ a. eq-eqb a a refl }

-- An integer table as a store. Keys take no arena bytes and have no refusal of their own; a storing call examines its path alone.
abbrev pub int_store : {W : Type 0} (C : Column W) → Store ℕ W
int_store C = record {
  State = IntMemory C;
  keys = integers;
  weight = λ k. 0;
  size = λ m. length m.marks;
  slots = λ m. cells_of (words_of m.marks) (words_of m.keys) (C.read m.words);
  home = λ m k. home_of_word 0 (length m.marks) k;
  bytes = λ m. 0;
  sized = λ m. slots_fit (length m.marks) && (eqb (length m.marks) (length m.keys) && C.long m.words (length m.marks));
  asked = λ k. 0;
  kept = λ k. 0;
  carried = λ m. 0;
  damaged_fully = λ m. false;
  good = λ m. Unit {0};
  over = λ m i v. record { marks = m.marks; keys = m.keys; words = C.write m.words i v };
  fill = λ m i k v. record { marks = set m.marks i 1; keys = set m.keys i k; words = C.write m.words i v };
  free = λ m i. record { marks = set m.marks i 2; keys = set m.keys i 0; words = C.blank m.words i };
  wipe = λ m. record { marks = replicate (length m.marks) 0; keys = replicate (length m.keys) 0; words = C.wipe m.words };
}

-- Marks and keys agree in length, and a table may have so many slots.
unfoldable pub fitting : List ℕ → List ℕ → Bool
fitting marks keys = slots_fit (length marks) && eqb (length marks) (length keys)

-- The lent lists of a map.
abbrev pub memory : List ℕ → List ℕ → List ℕ → IntMemory values
memory marks keys vs = record { marks = marks; keys = keys; words = vs }
