-- The grammar of a line of `slots`, on the whole line as a list of bytes: words between single spaces, a letter first, then numbers.
use Rattle.std.specs.Prelude.{ℕ, ◌+◌, ◌-◌, ◌*◌, ◌^◌, Bool, true, false, cond, ◌&&◌, List, [], ◌∷◌, eqb, leb, ltb}
use Rattle.std.proofs.Math.Option.{Option, none, some}
use Rattle.lines.specs.declared.Order.{Order}
use Rattle.lines.specs.declared.Order.TheVariants.{Insert, Remove, Get, Walk, Count, Bad}

-- A decimal digit is a byte from 48, `0`, to 57, `9`.
abbrev pub is_digit : ℕ → Bool
is_digit b = leb 48 b && leb b 57

-- Each byte of the word is a digit.
unfoldable pub all_digits : List ℕ → Bool
all_digits [] = true
all_digits (b ∷ bs) = is_digit b && all_digits bs

-- The value of a number n with the digits of the word behind it.
unfoldable pub value_from : ℕ → List ℕ → ℕ
value_from n [] = n
value_from n (b ∷ bs) = value_from (n * 10 + (b - 48)) bs

-- Numbers are below this.
unfoldable pub limit : ℕ
limit = 2 ^ 64

-- The number that a word is: at least one digit, digits only, a value below the limit.
unfoldable pub number : List ℕ → Option ℕ
number [] = none
number (b ∷ bs) = cond (all_digits (b ∷ bs) && ltb (value_from 0 (b ∷ bs)) limit) (some (value_from 0 (b ∷ bs))) none

-- A byte before the words of the rest: a space ends a word that is empty so far, another byte joins the first word.
unfoldable pub cut : Bool → ℕ → List (List ℕ) → List (List ℕ)
cut true b ws = [] ∷ ws
cut false b [] = (b ∷ []) ∷ []
cut false b (w ∷ ws) = (b ∷ w) ∷ ws

-- The words of a line, between spaces (byte 32): one more than it has spaces.
unfoldable pub words : List ℕ → List (List ℕ)
words [] = [] ∷ []
words (b ∷ bs) = cut (eqb b 32) b (words bs)

-- The first word must be one byte, the letter.
unfoldable pub on_letter : List ℕ → (ℕ → Order) → Order
on_letter [] f = Bad
on_letter (c ∷ []) f = f c
on_letter (c ∷ d ∷ w) f = Bad

-- A letter alone: `w` (119).
abbrev pub alone_order : ℕ → Order
alone_order c = cond (eqb c 119) Walk Bad

-- A letter and a key: `r` (114) or `g` (103).
abbrev pub key_order : ℕ → Option ℕ → Order
key_order c none = Bad
key_order c (some k) = cond (eqb c 114) (Remove k) (cond (eqb c 103) (Get k) Bad)

-- A letter, a key and a value: `i` (105).
abbrev pub pair_order : ℕ → Option ℕ → Option ℕ → Order
pair_order c none v = Bad
pair_order c (some k) none = Bad
pair_order c (some k) (some v) = cond (eqb c 105) (Insert k v) Bad

-- What the words of a line ask for: one, two or three of them.
unfoldable pub words_order : List (List ℕ) → Order
words_order [] = Bad
words_order (l ∷ []) = on_letter l alone_order
words_order (l ∷ k ∷ []) = on_letter l (λ c. key_order c (number k))
words_order (l ∷ k ∷ v ∷ []) = on_letter l (λ c. pair_order c (number k) (number v))
words_order (l ∷ k ∷ v ∷ w ∷ ws) = Bad

-- What a line asks for.
unfoldable pub line_of : List ℕ → Order
line_of line = words_order (words line)

-- A number or none, as the order of the count line.
abbrev pub count_order : Option ℕ → Order
count_order none = Bad
count_order (some n) = Count n

-- What the count line asks for: it is one number.
unfoldable pub count_of : List ℕ → Order
count_of line = count_order (number line)
