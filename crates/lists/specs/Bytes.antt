-- Numbers as bytes, low byte first.
-- Assumes nothing.
use Rattle.std.specs.Prelude.{List, [], ◌∷◌, ℕ, zero, suc, ◌+◌, ◌*◌, ◌/◌, ◌%◌}

-- The number x as n bytes, low byte first.
unfoldable pub le : ℕ → ℕ → List ℕ
le zero x = []
le (suc n) x = x % 256 ∷ le n (x / 256)

-- The number that a list of bytes stands for, low byte first.
unfoldable pub num : List ℕ → ℕ
num [] = 0
num (b ∷ bs) = b + 256 * num bs
