-- On any memory: what a slot holds is what its mark says, and sizes and keys are right exactly when the scope says so.
use Prim.Native.Nat.{ℕ, zero, suc, ◌+◌, ◌≤◌, ◌<◌}
use mathlib.Core.Bool.{true, ◌&&◌}
use mathlib.Core.List.{List}
use mathlib.Core.Logic.{◌↔◌, ◌⊎◌, inl, inr}
use mathlib.Core.Path.{◌≡◌, refl}
use native.Mathlib.Omega.{arith}
use borrow.Author.Tests.{ltb-true, leb-true, leb-false, eqb-true, lt-ltb, le-leb, eq-eqb}
use lib.Dec.{ltb, leb, eqb}
use lib.ListN.{length, get_or}
use Rattle.model.proofs.Cases.{by_bool, both}
use Rattle.kinds.specs.Columns.{Column, values, nothing}
use Rattle.kinds.specs.Marks.{cell}
use Rattle.int_slots.specs.Memory.{IntMemory, int_store}
use Rattle.byte_slots.specs.Memory.{ByteMemory, byte_store, part, end_at, key_at, fitting, asked_of, kept_of, offset_of, length_of}
use Rattle.byte_slots.proofs.Held.{by_slot}
use Rattle.promises.specs.Marks.{SlotSays, mark_0, mark_1, mark_1_past, mark_2, mark_above}

cell_says : {K W : Type 0} (n : ℕ) (k : K) (v : W) → SlotSays n (Unit {0}) k v (cell n k v)
unfolding cell
cell_says zero k v = mark_0 refl refl
cell_says (suc zero) k v = mark_1 refl tt refl
cell_says (suc (suc zero)) k v = mark_2 refl refl
cell_says (suc (suc (suc n))) k v = mark_above (omega arith) refl

-- A slot of an integer table.
pub int_slot_says : {W : Type 0} (C : Column W) (m : IntMemory C) (i : ℕ) → SlotSays (get_or m.marks i 0) (Unit {0}) (get_or m.keys i 0) (C.read m.words i) ((int_store C).slots m i)
int_slot_says C m i = cell_says (get_or m.marks i 0) (get_or m.keys i 0) (C.read m.words i)

-- A slot of a byte table: its key is its part of the arena.
pub byte_slot_says : {W : Type 0} (C : Column W) (m : ByteMemory C) (i : ℕ) → SlotSays (get_or m.spans.marks i 0) (offset_of m.spans i + length_of m.spans i ≤ length m.spans.arena) (part m.spans.arena (offset_of m.spans i) (length_of m.spans i)) (C.read m.words i) ((byte_store C).slots m i)
unfolding end_at key_at
byte_slot_says C m i = by_slot m.spans (C.read m.words) i (λ a q. mark_0 a q) (λ a l q. mark_1 a l q) (λ a l q. mark_1_past a (λ w. omega arith) q) (λ a q. mark_2 a q) (λ a q. mark_above a q)

-- The sizes of integer arrays, with what stands beside the keys.
int_sized : {W : Type 0} (C : Column W) (m : IntMemory C) → ((int_store C).sized m ≡ true) ↔ ((0 < length m.marks) × (length m.marks ≤ 4096) × (length m.marks ≡ length m.keys) × (C.long m.words (length m.marks) ≡ true))
int_sized C m = let S = length m.marks in let k = length m.keys in (
  (λ e.
      let (a, b) = both (ltb 0 S && leb S 4096) (eqb S k && C.long m.words S) e in
      let (f, g) = both (ltb 0 S) (leb S 4096) a in
      let (c, d) = both (eqb S k) (C.long m.words S) b in
      (ltb-true 0 S f, leb-true S 4096 g, eqb-true S k c, d)),
  (λ (f, g, c, d). rw (lt-ltb 0 S f, le-leb S 4096 g, eq-eqb S k c, d)),
)

-- An integer map, an integer set.
pub int_map_sizes : (m : IntMemory values) → ((int_store values).sized m ≡ true) ↔ ((0 < length m.marks) × (length m.marks ≤ 4096) × (length m.marks ≡ length m.keys) × (length m.marks ≡ length m.words))
int_map_sizes m = let S = length m.marks in (
  (λ e. let (f, g, c, d) = (int_sized values m).0 e in (f, g, c, eqb-true S (length m.words) d)),
  (λ (f, g, c, d). (int_sized values m).1 (f, g, c, eq-eqb S (length m.words) d)),
)

pub int_set_sizes : (m : IntMemory nothing) → ((int_store nothing).sized m ≡ true) ↔ ((0 < length m.marks) × (length m.marks ≤ 4096) × (length m.marks ≡ length m.keys))
int_set_sizes m = (
  (λ e. let (f, g, c, d) = (int_sized nothing m).0 e in (f, g, c)),
  (λ (f, g, c). (int_sized nothing m).1 (f, g, c, refl)),
)

-- The sizes of byte arrays, with what stands beside the keys.
byte_sized : {W : Type 0} (C : Column W) (m : ByteMemory C) → ((byte_store C).sized m ≡ true) ↔ ((0 < length m.spans.marks) × (length m.spans.marks ≤ 4096) × (length m.spans.marks ≡ length m.spans.offsets) × (length m.spans.marks ≡ length m.spans.lengths) × (length m.spans.arena ≤ 32768) × (C.long m.words (length m.spans.marks) ≡ true))
unfolding fitting
byte_sized C m = let S = length m.spans.marks in let o = length m.spans.offsets in let l = length m.spans.lengths in let a = length m.spans.arena in (
  (λ e.
      let (p, d) = both ((ltb 0 S && leb S 4096) && (eqb S o && (eqb S l && leb a 32768))) (C.long m.words S) e in
      let (q, r) = both (ltb 0 S && leb S 4096) (eqb S o && (eqb S l && leb a 32768)) p in
      let (f, g) = both (ltb 0 S) (leb S 4096) q in
      let (x, y) = both (eqb S o) (eqb S l && leb a 32768) r in
      let (u, v) = both (eqb S l) (leb a 32768) y in
      (ltb-true 0 S f, leb-true S 4096 g, eqb-true S o x, eqb-true S l u, leb-true a 32768 v, d)),
  (λ (f, g, x, u, v, d). rw (lt-ltb 0 S f, le-leb S 4096 g, eq-eqb S o x, eq-eqb S l u, le-leb a 32768 v, d)),
)

-- A byte map, a byte set.
pub byte_map_sizes : (m : ByteMemory values) → ((byte_store values).sized m ≡ true) ↔ ((0 < length m.spans.marks) × (length m.spans.marks ≤ 4096) × (length m.spans.marks ≡ length m.spans.offsets) × (length m.spans.marks ≡ length m.spans.lengths) × (length m.spans.arena ≤ 32768) × (length m.spans.marks ≡ length m.words))
byte_map_sizes m = let S = length m.spans.marks in (
  (λ e. let (f, g, x, u, v, d) = (byte_sized values m).0 e in (f, g, x, u, v, eqb-true S (length m.words) d)),
  (λ (f, g, x, u, v, d). (byte_sized values m).1 (f, g, x, u, v, eq-eqb S (length m.words) d)),
)

pub byte_set_sizes : (m : ByteMemory nothing) → ((byte_store nothing).sized m ≡ true) ↔ ((0 < length m.spans.marks) × (length m.spans.marks ≤ 4096) × (length m.spans.marks ≡ length m.spans.offsets) × (length m.spans.marks ≡ length m.spans.lengths) × (length m.spans.arena ≤ 32768))
byte_set_sizes m = (
  (λ e. let (f, g, x, u, v, d) = (byte_sized nothing m).0 e in (f, g, x, u, v)),
  (λ (f, g, x, u, v). (byte_sized nothing m).1 (f, g, x, u, v, refl)),
)

-- A byte key is refused 2 exactly when it has more than 255 bytes, asked for or to be stored.
pub key_lengths : (k : List ℕ) → ((length k ≤ 255) × (asked_of k ≡ 0) × (kept_of k ≡ 0)) ⊎ ((255 < length k) × (asked_of k ≡ 2) × (kept_of k ≡ 2))
unfolding asked_of kept_of
key_lengths k = by_bool (leb (length k) 255)
    (λ e. inl (leb-true (length k) 255 e, rw e, rw e))
    (λ e. inr (leb-false (length k) 255 e, rw e, rw e))
