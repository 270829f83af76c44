-- The reader as functions on its states: what each function of the code answers.
use Rattle.std.specs.Prelude.{ℕ, ◌+◌, ◌-◌, ◌*◌, cond, ◌&&◌, List, [], ◌∷◌, eqb, ltb}
use Rattle.std.proofs.Math.Option.{Option, none, some}
use Rattle.lines.specs.declared.Order.{Order}
use Rattle.lines.specs.declared.Order.TheVariants.{Bad}
use Rattle.lines.specs.declared.Digits.{Digits}
use Rattle.lines.specs.declared.Digits.TheVariants.{Empty, Number, Broken}
use Rattle.lines.specs.declared.Reading.{Reading}
use Rattle.lines.specs.declared.Reading.TheVariants.{Start, Letter, Key, Pair, Alone, Lost}
use Rattle.lines.specs.Grammar.{is_digit, limit, alone_order, key_order, pair_order, count_order}

-- A number with a byte behind it: a digit makes it ten times as large and adds its own value, as long as that is below the limit.
abbrev pub grown_of : ℕ → ℕ → Digits
grown_of n b = cond (is_digit b && ltb (n * 10 + (b - 48)) limit) (Number (n * 10 + (b - 48))) Broken

-- A word with a byte more.
abbrev pub more_of : Digits → ℕ → Digits
more_of Empty b = grown_of 0 b
more_of (Number n) b = grown_of n b
more_of Broken b = Broken

-- The number that a word is.
abbrev pub number_of : Digits → Option ℕ
number_of Empty = none
number_of (Number n) = some n
number_of Broken = none

-- A line with a space more.
abbrev pub spaced_of : Reading → Reading
spaced_of Start = Lost
spaced_of (Letter c) = Key c Empty
spaced_of (Key c k) = Pair c k Empty
spaced_of (Pair c k v) = Lost
spaced_of (Alone n) = Lost
spaced_of Lost = Lost

-- A line with a byte more that is no space.
abbrev pub joined_of : Reading → ℕ → Reading
joined_of Start b = Letter b
joined_of (Letter c) b = Lost
joined_of (Key c k) b = Key c (more_of k b)
joined_of (Pair c k v) b = Pair c k (more_of v b)
joined_of (Alone n) b = Alone (more_of n b)
joined_of Lost b = Lost

-- A line with a byte more.
abbrev pub step_of : Reading → ℕ → Reading
step_of r b = cond (eqb b 32) (spaced_of r) (joined_of r b)

-- What a line asks for, if it ends here.
abbrev pub order_of : Reading → Order
order_of Start = Bad
order_of (Letter c) = alone_order c
order_of (Key c k) = key_order c (number_of k)
order_of (Pair c k v) = pair_order c (number_of k) (number_of v)
order_of (Alone n) = count_order (number_of n)
order_of Lost = Bad

-- The state after a list of bytes, one step a byte.
unfoldable pub read_from : Reading → List ℕ → Reading
read_from r [] = r
read_from r (b ∷ bs) = read_from (step_of r b) bs
