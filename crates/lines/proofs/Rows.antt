-- Lines, count lines and numbers written out, each with what it must come to, computed by the checker: the edges of the grammar.
-- Assumes nothing.
use Prim.Native.Nat.{ℕ}
use Prim.Native.Char.{code}
use Prim.Native.String.{String}
use mathlib.Core.Path.{◌≡◌, refl}
use mathlib.Core.List.{List, [], ◌∷◌, map}
use Rattle.lines.specs.declared.Order.{Order}
use Rattle.lines.specs.declared.Order.TheVariants.{Insert, Remove, Get, Walk, Count, Bad}
use Rattle.lines.specs.Grammar.{all_digits, value_from, limit, number, cut, words, on_letter, words_order, line_of, count_of}
use Rattle.lines.specs.Decimal.{digits_within, digits_of}

-- The bytes of a text: its characters' codes.
pub bytes : String → List ℕ
bytes String.[] = []
bytes (String.◌∷◌ c t) = code c ∷ bytes t

-- A line and what it asks for.
pub record Row : Type 0 where
  pub line : String
  pub order : Order

infix 90 ◌asks◌
abbrev pub ◌asks◌ : String → Order → Row
line asks order = record { line = line; order = order }

-- Lines after the first.
abbrev pub rows : List Row
rows =
    "i 0 10" asks Insert 0 10 ∷
    "r 0" asks Remove 0 ∷
    "g 4" asks Get 4 ∷
    "w" asks Walk ∷
    "i 18446744073709551615 18446744073709551615" asks Insert 18446744073709551615 18446744073709551615 ∷
    "i 18446744073709551616 1" asks Bad ∷
    "g 99999999999999999999999" asks Bad ∷
    "g 00000000000000000000000000000004" asks Get 4 ∷
    "" asks Bad ∷
    "w " asks Bad ∷
    " w" asks Bad ∷
    "W" asks Bad ∷
    "ww" asks Bad ∷
    "w 1" asks Bad ∷
    "i  1 2" asks Bad ∷
    "i 1 2 " asks Bad ∷
    "i 1 " asks Bad ∷
    "i 1" asks Bad ∷
    "i 1 2 3" asks Bad ∷
    "r 1 2" asks Bad ∷
    "g" asks Bad ∷
    "g " asks Bad ∷
    "g -1" asks Bad ∷
    "g +1" asks Bad ∷
    "i 1 0x2" asks Bad ∷
    "g\t1" asks Bad ∷
    "w\r" asks Bad ∷
    "\0" asks Bad ∷
    "gg 1" asks Bad ∷
    "4" asks Bad ∷
    []

-- First lines.
abbrev pub counts : List Row
counts =
    "4" asks Count 4 ∷
    "0004" asks Count 4 ∷
    "0" asks Count 0 ∷
    "18446744073709551615" asks Count 18446744073709551615 ∷
    "18446744073709551617" asks Bad ∷
    "" asks Bad ∷
    "abc" asks Bad ∷
    "+4" asks Bad ∷
    "-1" asks Bad ∷
    " 4" asks Bad ∷
    "4 " asks Bad ∷
    "4\r" asks Bad ∷
    "4 5" asks Bad ∷
    "i 0 1" asks Bad ∷
    []

pub lines_right : map (λ (r : Row). line_of (bytes r.line)) rows ≡ map (λ (r : Row). r.order) rows
unfolding bytes line_of words words_order number cut on_letter all_digits value_from limit
lines_right = refl

pub counts_right : map (λ (r : Row). count_of (bytes r.line)) counts ≡ map (λ (r : Row). r.order) counts
unfolding bytes count_of number all_digits value_from limit
counts_right = refl

pub digits_right :
    map digits_of (0 ∷ 7 ∷ 10 ∷ 100 ∷ 18446744073709551615 ∷ []) ≡ map bytes ("0" ∷ "7" ∷ "10" ∷ "100" ∷ "18446744073709551615" ∷ [])
unfolding bytes digits_of digits_within
digits_right = refl
