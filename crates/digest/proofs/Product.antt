-- The product with the published prime, 2^40 + 435, modulo 2^64, from shifts and sums that wrap: 435 is 3 + 48 + 384.
-- Assumes nothing.
use Rattle.std.proofs.Common.{◌≡◌, ℕ, ◌+◌, ◌*◌, ◌/◌, ◌%◌, ◌^◌, sym, ap, ◌∙◌, mul_assoc, add-mul, arith}
use native.Mathlib.Nat.{add-mod-mod, mod-add-mod, mod-add-div, add-mul-mod_self_left}
use Rattle.digest.specs.Digest.{prime}

-- A number that wrapped before it was shifted is shifted the same.
wrapped : (a k : ℕ) → a % 2 ^ 64 * k % 2 ^ 64 ≡ a * k % 2 ^ 64
wrapped a k =
    let e : a * k ≡ a % 2 ^ 64 * k + 2 ^ 64 * (a / 2 ^ 64 * k) = ap (λ x. x * k) (sym (mod-add-div a (2 ^ 64))) ∙ add-mul (a % 2 ^ 64) (2 ^ 64 * (a / 2 ^ 64)) k ∙ ap (λ x. a % 2 ^ 64 * k + x) (mul_assoc (2 ^ 64) (a / 2 ^ 64) k) in
    sym (ap (λ x. x % 2 ^ 64) e ∙ add-mul-mod_self_left (a % 2 ^ 64 * k) (2 ^ 64) (a / 2 ^ 64 * k))

-- By 3 h, then 51 h, then 435 h.
pub product : (h t m s r : ℕ) → t ≡ (h + h * 2 % 2 ^ 64) % 2 ^ 64 → m ≡ (t + t * 16 % 2 ^ 64) % 2 ^ 64 → s ≡ (m + t * 128 % 2 ^ 64) % 2 ^ 64
    → r ≡ (s + h * 1099511627776 % 2 ^ 64) % 2 ^ 64 → r ≡ h * prime % 2 ^ 64
product h t m s r a b c d =
    let e : h + h * 2 + (h + h * 2) * 16 + (h + h * 2) * 128 + h * 1099511627776 ≡ h * prime = omega arith in
    rw (d, c, b, a) (simp (wrapped, add-mod-mod, mod-add-mod) (ap (λ x. x % 2 ^ 64) e))
