-- The decimal digits of a number, and the value in which `Decimal::of` hands them out.
use Rattle.std.specs.Prelude.{ℕ, zero, suc, ◌+◌, ◌-◌, ◌/◌, ◌%◌, cond, List, [], ◌∷◌, ◌++◌, ltb, length, replicate}
use Rattle.lines.specs.declared.Decimal.{Decimal}

-- The digits of n, at most k of them, no zero in front: those of n / 10, where there are any, and then the last.
unfoldable pub digits_within : ℕ → ℕ → List ℕ
digits_within zero n = []
digits_within (suc k) n = cond (ltb n 10) ((48 + n) ∷ []) (digits_within k (n / 10) ++ ((48 + n % 10) ∷ []))

-- The digits of a number below 2^64: it has at most twenty.
unfoldable pub digits_of : ℕ → List ℕ
digits_of n = digits_within 20 n

-- A number in decimal: twenty bytes, of which the last are its digits and the others 0, and where the digits begin.
abbrev pub decimal_of : ℕ → Decimal
decimal_of n = record { digits = replicate (20 - length (digits_of n)) 0 ++ digits_of n; from = 20 - length (digits_of n) }
