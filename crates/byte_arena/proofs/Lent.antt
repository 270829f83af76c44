-- A part of an arena, lent to a call and given back: a key copied over it, bytes moved down, and a gap closed.
use Rattle.std.proofs.Common.{ℕ, ◌+◌, ◌-◌, ◌≤◌, ◌<◌, List, ◌++◌, append_assoc, ◌≡◌, refl, sym, ◌∙◌, ap, arith, eq-eqb, length, get_or, take, drop, set, replicate, length-drop, length-set, length-append, drop-drop, get_or-drop, drop_at, take_at, length-take-le}
use Rattle.std.proofs.Math.Seq.{paste, paste-zero, paste-suc, length_paste_head}
use native.Mathlib.Numerals.{add-one}
use Rattle.lists.proofs.Parts.{get_d_behind, length_part}
use Rattle.arrays.specs.Whole.{copied}
use Rattle.byte_slots.specs.Memory.{part, pasted, closed}
use Rattle.byte_slots.proofs.Arena.{length_pasted}

-- The bytes from u on, copied over with as many of a key, are the arena with the key pasted.
pub pasted_end : (a : List ℕ) (u : ℕ) (k l : List ℕ) → u + length k ≤ length a → l ≡ copied (take (u + length k - u) (drop u a)) k → take u a ++ (l ++ drop (u + length k - u) (drop u a)) ≡ pasted a u k
unfolding pasted copied
pasted_end a u k l fits e =
    let n : u + length k - u ≡ length k = omega arith in
    let m : length (take (length k) (drop u a)) ≡ length k = length_part a u (length k) fits in
    rw (e, n, eq-eqb (length (take (length k) (drop u a))) (length k) m, drop-drop)

-- The first i of so many bytes of the arena a moved down: it is b now.
pub record Moving (a : List ℕ) (to from count i : ℕ) (b : List ℕ) : Type 0 where
  pub within : i ≤ count
  pub long : length b ≡ length a
  pub moved : b ≡ paste a to (drop from a) i

module _ (a : List ℕ) (to from count : ℕ) where
  pub moving_more : (i : ℕ) (b : List ℕ) → to ≤ from → from + count ≤ length a → i < count → Moving a to from count i b → Moving a to from count (i + 1) (set b (to + i) (get_or b (from + i) 0))
  moving_more i b d l n m = record { within = omega arith; long = length-set b (to + i) (get_or b (from + i) 0) ∙ m.long; moved = next }
    where
      stands : get_or b (from + i) 0 ≡ get_or (drop from a) i 0
      stands =
          rw m.moved (get_d_behind (take to a ++ take i (drop from a)) (drop (to + i) a) (to + i) (from + i) 0 (length_paste_head a to (drop from a) i (omega arith) (omega (arith, length-drop from a))) (omega arith))
          ∙ get_or-drop (to + i) a (from + i - (to + i)) 0 ∙ ap (λ x. get_or a x 0) (omega arith) ∙ sym (get_or-drop from a i 0)

      next : set b (to + i) (get_or b (from + i) 0) ≡ paste a to (drop from a) (i + 1)
      next = rw (stands, m.moved, add-one) (paste-suc a to (drop from a) i 0 (omega arith) (omega (arith, length-drop from a)))

  pub moving_all : (i : ℕ) (b : List ℕ) → to ≤ from → from + count ≤ length a → count ≤ i → Moving a to from count i b → b ≡ pasted a to (part a from count)
  unfolding pasted part
  moving_all i b d l n m = let e : i ≡ count = omega arith in m.moved ∙ rw (e, length_part a from count l) (append_assoc (take to a) (take count (drop from a)) (drop (to + count) a))

-- The bytes behind a span moved down, and those that they left, cleared, are the arena with the gap closed.
pub closed_end : (a b z : List ℕ) (o l u : ℕ) → o + l ≤ u → u ≤ length a → b ≡ pasted a o (part a (o + l) (u - (o + l))) → z ≡ replicate (length (take (u - (u - l)) (drop (u - l) b))) 0 → take (u - l) b ++ (z ++ drop (u - (u - l)) (drop (u - l) b)) ≡ closed a o l u
unfolding pasted closed part
closed_end a b z o l u h n e f = rw (f, length_part b (u - l) (u - (u - l)) (omega (arith, long)), count, front, behind) (append_assoc (take o a) p (replicate l 0 ++ drop u a))
  where
    p : List ℕ
    p = part a (o + l) (u - (o + l))

    count : u - (u - l) ≡ l
    count = omega arith

    moved : length p ≡ u - (o + l)
    moved = length_part a (o + l) (u - (o + l)) (omega arith)

    long : length b ≡ length a
    long = ap length e ∙ length_pasted a o p (omega (arith, moved))

    kept : length (take o a ++ p) ≡ u - l
    kept = length-append (take o a) p ∙ omega (arith, moved, length-take-le o a (omega arith))

    apart : b ≡ (take o a ++ p) ++ drop (o + length p) a
    apart = e ∙ sym (append_assoc (take o a) p (drop (o + length p) a))

    front : take (u - l) b ≡ take o a ++ p
    front = rw apart (take_at (take o a ++ p) (drop (o + length p) a) (u - l) kept)

    past : o + length p + l ≡ u
    past = omega (arith, moved)

    behind : drop l (drop (u - l) b) ≡ drop u a
    behind = rw apart (ap (drop l) (drop_at (take o a ++ p) (drop (o + length p) a) (u - l) kept) ∙ drop-drop l (o + length p) a ∙ ap (λ x. drop x a) past)
