-- What fitting sizes say, and the test of a key that is asked for.
use Rattle.std.proofs.Common.{ℕ, ◌≤◌, ◌<◌, Bool, true, ◌&&◌, List, ◌≡◌, sym, ◌∙◌, ltb-true, leb-true, le-leb, eqb-true, ltb, leb, eqb, length}
use Rattle.model.proofs.Cases.{both, by_bool}
use Rattle.digest.specs.Home.{home_of, slots_fit, key_fits, key_limit}
use Rattle.digest.proofs.Bounds.{home_below}
use Rattle.byte_slots.specs.Memory.{Spans, fitting, arena_limit, asked_of}
use Rattle.byte_slots.specs.Probing.{path_of, probing}

-- Marks, offsets and lengths of one length that is not 0 and within its limit, and an arena within its own.
pub record Sized (s : Spans) : Type 0 where
  pub some : 0 < length s.marks
  pub few : length s.marks ≤ 4096
  pub offsets : length s.offsets ≡ length s.marks
  pub lengths : length s.lengths ≡ length s.marks
  pub arena : length s.arena ≤ 32768

module _ (s : Spans) where
  pub fitting_says : fitting s ≡ true → Sized s
  unfolding fitting
  fitting_says f =
      let (a, b) = both (slots_fit (length s.marks)) (eqb (length s.marks) (length s.offsets) && (eqb (length s.marks) (length s.lengths) && leb (length s.arena) arena_limit)) f in
      let (c, d) = both (eqb (length s.marks) (length s.offsets)) (eqb (length s.marks) (length s.lengths) && leb (length s.arena) arena_limit) b in
      let (e, g) = both (eqb (length s.marks) (length s.lengths)) (leb (length s.arena) arena_limit) d in
      let (h, k) = both (ltb 0 (length s.marks)) (leb (length s.marks) 4096) a in
      record {
        some = ltb-true 0 (length s.marks) h;
        few = leb-true (length s.marks) 4096 k;
        offsets = sym (eqb-true (length s.marks) (length s.offsets) c);
        lengths = sym (eqb-true (length s.marks) (length s.lengths) e);
        arena = leb-true (length s.arena) arena_limit g;
      }

-- the test of a key that is asked for
pub asked_test : (k : List ℕ) → key_fits (length k) ≡ eqb (asked_of k) 0
unfolding asked_of
asked_test k = by_bool (key_fits (length k)) (λ e. rw e) (λ e. rw e)

-- where sizes fit, the probing of a short key is its path
pub probing_short : (s : Spans) (k : List ℕ) → fitting s ≡ true → length k ≤ key_limit → probing s k ≡ path_of s k
unfolding probing
probing_short s k f l = rw (f, sym (asked_test k), le-leb (length k) key_limit l)

-- where sizes fit, a key's home slot is one of the table's, and each slot has an offset and a length
pub home_fits : (s : Spans) (k : List ℕ) {b : Bool} → b ≡ fitting s → {h : ℕ} → b ≡ true → h ≡ home_of 0 (length s.marks) k → (h < length s.marks) × (length s.offsets ≡ length s.marks) × (length s.lengths ≡ length s.marks)
home_fits s k p q e = let z = fitting_says s (sym p ∙ q) in (rw e (home_below 0 (length s.marks) k z.some), z.offsets, z.lengths)
