-- The paper's worked rule: among 4 slots a u64 key below 256 has home (key mod 4) xor 1. One test over all 256 keys, which the
-- checker computes, and the law that turns it into the rule at each. Assumes nothing.
use Rattle.std.proofs.Common.{arith, ◌≡◌, ℕ, zero, suc, ◌%◌, ◌<◌, Bool, true, false, ◌&&◌, T, eqb, ⊎_elim, le_of_suc-le-suc, eq-or-lt_of_le, eqb→eq}
use lib.Bits.{bit_xor}
use Rattle.lists.specs.Bytes.{le}
use Rattle.digest.specs.Digest.{mix_of, more_of}
use Rattle.digest.specs.Home.{home_of_word}

-- Whether the rule holds of a key.
right : ℕ → Bool
right x = eqb (home_of_word 0 4 x) (bit_xor (x % 4) 1)

-- Whether a test passes at every number below n.
abbrev below : (ℕ → Bool) → ℕ → Bool
below f zero = true
below f (suc n) = f n && below f n

both : (a b : Bool) → T (a && b) → T a × T b
both true b t = (tt, t)
both false b t = absurd t

-- A test that passes below n passes at each number there.
at : (f : ℕ → Bool) (n : ℕ) → T (below f n) → (k : ℕ) → k < n → T (f k)
at f zero t k l = let z : ⊥ = omega arith in absurd z
at f (suc n) t k l =
    let p : T (f n) × T (below f n) = both (f n) (below f n) t in
    ⊎_elim (λ e. rw e p.0) (λ m. at f n p.1 k m) (eq-or-lt_of_le (le_of_suc-le-suc l))

-- Among 4 slots a u64 key below 256 has home (key mod 4) xor 1.
pub home_of_four : (x : ℕ) → x < 256 → home_of_word 0 4 x ≡ bit_xor (x % 4) 1
unfolding right mix_of more_of le
home_of_four x l = eqb→eq (home_of_word 0 4 x) (bit_xor (x % 4) 1) (at right 256 tt x l)
