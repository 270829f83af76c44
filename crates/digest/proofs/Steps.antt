-- The turns of the two digest loops: what is left, from the state after one byte, gives the same digest.
-- Assumes nothing.
use Rattle.std.proofs.Common.{◌≡◌, ℕ, zero, suc, ◌+◌, ◌-◌, ◌/◌, ◌%◌, ◌<◌, ◌≤◌, List, length, get_or, drop, add-one, arith, drop_of_length-le, drop-cons}
use Rattle.lists.specs.Bytes.{le}
use Rattle.digest.specs.Digest.{mix_of, more_of}

-- One turn over a list: its byte i is mixed in.
pub byte_turn : (bytes : List ℕ) (i h r : ℕ) → i < length bytes → r ≡ mix_of h (get_or bytes i 0)
    → more_of r (drop (i + 1) bytes) ≡ more_of h (drop i bytes)
unfolding more_of
byte_turn bytes i h r l e = rw (e, add-one, drop-cons bytes i 0)

-- No byte left: the state is the digest.
pub byte_end : (bytes : List ℕ) (i h d : ℕ) → length bytes ≤ i → more_of h (drop i bytes) ≡ d → h ≡ d
unfolding more_of
byte_end bytes i h d l e = rw (drop_of_length-le bytes l) at e

-- One turn over a number's bytes: the lowest of n is mixed in.
pub word_turn : (n x h r : ℕ) → 0 < n → r ≡ mix_of h (x % 256)
    → more_of r (le (n - 1) (x / 256)) ≡ more_of h (le n x)
unfolding more_of le
word_turn zero x h r l e = let z : ⊥ = omega arith in absurd z
word_turn (suc n) x h r l e =
    let m : suc n - 1 ≡ n = omega arith in
    rw (m, e)

-- No byte left of a number: the state is the digest.
pub word_end : (n x h d : ℕ) → n ≤ 0 → more_of h (le n x) ≡ d → h ≡ d
unfolding more_of le
word_end n x h d l e =
    let z : n ≡ 0 = omega arith in
    rw z at e
