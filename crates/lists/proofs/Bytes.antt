-- Numbers as bytes: the bytes of a number give it back, and the number of bytes gives them back.
-- Assumes nothing.
use mathlib.Core.Path.{◌≡◌, refl}
use mathlib.Core.List.{List, [], ◌∷◌}
use Prim.Native.Nat.{ℕ, zero, suc, ◌+◌, ◌*◌, ◌/◌, ◌%◌, ◌^◌, ◌<◌}
use native.Mathlib.Omega.{arith}
use native.Mathlib.Nat.{pow-suc}
use lib.ListN.{length, get_or}
use Rattle.lists.specs.Bytes.{le, num}

-- The bytes of a number that they can hold are that number's.
pub num_le : (n x : ℕ) → x < 256 ^ n → num (le n x) ≡ x
unfolding le num
num_le zero x h = omega arith
num_le (suc n) x h = rw (num_le n (x / 256) (omega (arith, pow-suc 256 n))) (omega arith)

-- The number of some bytes, as that many bytes, is those bytes.
pub le_num : (bs : List ℕ) → ((i : ℕ) → i < length bs → get_or bs i 0 < 256) → le (length bs) (num bs) ≡ bs
unfolding le num
le_num [] h = refl
le_num (b ∷ bs) h =
    let l : b < 256 = h 0 (omega arith) in
    let m : (b + 256 * num bs) % 256 ≡ b = omega arith in
    let d : (b + 256 * num bs) / 256 ≡ num bs = omega arith in
    rw (m, d, le_num bs (λ i k. h (suc i) (omega arith)))
