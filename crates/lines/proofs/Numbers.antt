-- A word is read as the grammar says: after its last byte the state of its digits is the number that the word is, if it is one.
-- Assumes nothing.
use Prim.Native.Nat.{ℕ, ◌+◌, ◌-◌, ◌*◌, ◌≤◌, ◌<◌}
use native.Mathlib.Omega.{arith}
use native.Mathlib.Nat.{le_refl, le_trans}
use mathlib.Core.Path.{◌≡◌, refl}
use mathlib.Core.Bool.{Bool, true, false, cond, ◌&&◌, and-false}
use mathlib.Core.List.{List, [], ◌∷◌}
use mathlib.Core.Option.{Option, none, some}
use lib.Dec.{ltb, lit<}
use borrow.Author.Tests.{ltb-true, ltb-false, lt-ltb, le-ltb}
use Rattle.lines.specs.declared.Digits.{Digits}
use Rattle.lines.specs.declared.Digits.TheVariants.{Empty, Number, Broken}
use Rattle.lines.specs.Grammar.{is_digit, all_digits, value_from, limit, number}
use Rattle.lines.specs.Reader.{more_of, number_of}

-- A number is below another or not; the test is known in each case.
pub by_below : (a b : ℕ) {P : Type 0} → (a < b → ltb a b ≡ true → P) → (b ≤ a → ltb a b ≡ false → P) → P
by_below a b {P} f g = go (ltb a b) refl
  where
    go : (t : Bool) → ltb a b ≡ t → P
    go true e = f (ltb-true a b e) e
    go false e = g (ltb-false a b e) e

-- The state of the digits after a word.
unfoldable pub more_all : Digits → List ℕ → Digits
more_all d [] = d
more_all d (b ∷ bs) = more_all (more_of d b) bs

-- What is no number stays none.
pub broken_stays : (w : List ℕ) → more_all Broken w ≡ Broken
unfolding more_all
broken_stays [] = refl
broken_stays (b ∷ bs) = broken_stays bs

-- A number behind which digits are written is no smaller than before.
value_grows : (n : ℕ) (w : List ℕ) → n ≤ value_from n w
unfolding value_from
value_grows n [] = le_refl n
value_grows n (b ∷ bs) = le_trans (omega arith) (value_grows (n * 10 + (b - 48)) bs)

-- The number n with the digits of w behind it, where that is a number.
unfoldable within : ℕ → List ℕ → Option ℕ
within n w = cond (all_digits w && ltb (value_from n w) limit) (some (value_from n w)) none

-- One byte: t says whether it is a digit, and n is the number with it.
one_byte : (t : Bool) (n : ℕ) (w : List ℕ) →
    (n < limit → number_of (more_all (Number n) w) ≡ within n w) →
    number_of (more_all (cond (t && ltb n limit) (Number n) Broken) w)
    ≡ cond ((t && all_digits w) && ltb (value_from n w) limit) (some (value_from n w)) none
unfolding within
one_byte false n w h = rw broken_stays
one_byte true n w h =
    by_below n limit
    (λ l e. rw e (h l))
    (λ g e. rw (e, broken_stays, le-ltb (value_from n w) limit (le_trans g (value_grows n w)), and-false))

word_from : (n : ℕ) (w : List ℕ) → n < limit → number_of (more_all (Number n) w) ≡ within n w
unfolding more_all within all_digits value_from
word_from n [] h = rw (lt-ltb n limit h)
word_from n (b ∷ bs) h = one_byte (is_digit b) (n * 10 + (b - 48)) bs (word_from (n * 10 + (b - 48)) bs)

-- THE LAW: the state after a word says the number that the grammar gives it.
pub word_read : (w : List ℕ) → number_of (more_all Empty w) ≡ number w
unfolding more_all within number limit
word_read [] = refl
word_read (b ∷ bs) = word_from 0 (b ∷ bs) (lit< tt)
