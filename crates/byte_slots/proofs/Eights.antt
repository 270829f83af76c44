-- Bytes joined to one number, low byte first: two halves make the whole, and one number has one string of eight.
use Rattle.std.proofs.Common.{ℕ, zero, suc, ◌+◌, ◌*◌, ◌/◌, ◌%◌, ◌^◌, ◌≤◌, ◌<◌, List, ◌++◌, ◌≡◌, ap, sym, ◌∙◌, pow-suc, mod-eq_of_lt, arith, length, get_or, take, drop, drop-cons, drop-drop, take-add}
use Rattle.lists.specs.Bytes.{le, num}
use Rattle.lists.proofs.Bytes.{num_le}

-- a number's low bytes, then its high ones
low_high : (n m x y : ℕ) → x < 256 ^ n → le (n + m) (x + y * 256 ^ n) ≡ le n x ++ le m y
unfolding le
low_high zero m x y l =
    let e : zero + m ≡ m = omega arith in
    let f : x + y * 256 ^ zero ≡ y = omega arith in
    rw (e, f)
low_high (suc n) m x y l =
    let k : suc n + m ≡ suc (n + m) = omega arith in
    let low : (x + y * 256 ^ suc n) % 256 ≡ x % 256 = rw (pow-suc 256 n) (omega arith) in
    let high : (x + y * 256 ^ suc n) / 256 ≡ x / 256 + y * 256 ^ n = rw (pow-suc 256 n) (omega arith) in
    let less : x / 256 < 256 ^ n = omega (arith, pow-suc 256 n) in
    rw (k, low, high, low_high n m (x / 256) y less)

-- one byte is its number
one_at : (s : List ℕ) (i : ℕ) → i < length s → get_or s i 0 < 256 → le 1 (get_or s i 0) ≡ take 1 (drop i s)
unfolding le
one_at s i l h =
    let e : get_or s i 0 % 256 ≡ get_or s i 0 = omega arith in
    rw (drop-cons s i 0 l, e)

-- n bytes and the next n, which are shifted past them and lose none by that
pub joined : (n w x y : ℕ) (s : List ℕ) (i : ℕ) → x < 256 ^ n → y * 256 ^ n < w → le n x ≡ take n (drop i s) → le n y ≡ take n (drop (i + n) s)
    → le (n + n) (x + y * 256 ^ n % w) ≡ take (n + n) (drop i s)
joined n w x y s i l m p q = rw (mod-eq_of_lt m, low_high n n x y l, take-add n n (drop i s), drop-drop n i s, p, q)

-- a byte and the next
pub joined_two : (s : List ℕ) (i : ℕ) → i + 2 ≤ length s → get_or s i 0 < 256 → get_or s (i + 1) 0 < 256
    → le 2 (get_or s i 0 + get_or s (i + 1) 0 * 256 % 65536) ≡ take 2 (drop i s)
joined_two s i l h k =
    joined 1 65536 (get_or s i 0) (get_or s (i + 1) 0) s i (omega arith) (omega arith) (one_at s i (omega arith) h) (one_at s (i + 1) (omega arith) k)

-- other numbers have other bytes
pub one_number : (n x y : ℕ) → x < 256 ^ n → y < 256 ^ n → le n x ≡ le n y → x ≡ y
one_number n x y l m e = sym (num_le n x l) ∙ ap num e ∙ num_le n y m
