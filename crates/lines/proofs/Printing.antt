-- The digits of a number read back as that number and begin with no zero; and the invariant of the loop that writes them.
-- Assumes nothing.
use Prim.Native.Nat.{ℕ, zero, suc, ◌+◌, ◌-◌, ◌*◌, ◌/◌, ◌%◌, ◌^◌, ◌≤◌, ◌<◌}
use native.Mathlib.Omega.{arith}
use native.Mathlib.Nat.{div-add-mod', div-lt_iff_lt-mul, pow-suc, lt_of_lt_of_le, le_refl}
use mathlib.Core.Path.{◌≡◌, refl, ap, ◌∙◌, sym}
use mathlib.Core.Bool.{true, ◌&&◌}
use mathlib.Core.List.{List, [], ◌∷◌, ◌++◌, append-nil}
use mathlib.Core.Option.{some}
use lib.Dec.{lit<, lit≤}
use lib.ListN.{length, get_or, set, take, drop, length-append, length-set, length-drop, replicate, length-replicate, get_or-append}
use lib.Seq.{append_snoc, take-take, take-set-le, drop-cons, drop-set-lt, drop_at, get_or-set_same, set_split}
use borrow.Author.Tests.{lt-ltb, le-ltb, le-leb}
use Rattle.lines.specs.Grammar.{is_digit, all_digits, value_from, limit, number}
use Rattle.lines.specs.declared.Decimal.{Decimal}
use Rattle.lines.specs.Decimal.{digits_within, digits_of, decimal_of}
use Rattle.lines.proofs.Numbers.{by_below}

-- A number of one digit has that digit.
one_digit : (k n : ℕ) → n < 10 → digits_within (suc k) n ≡ (48 + n) ∷ []
unfolding digits_within
one_digit k n h = rw (lt-ltb n 10 h)

-- A larger one has those of n / 10 and then the last.
more_digits : (k n : ℕ) → 10 ≤ n → digits_within (suc k) n ≡ digits_within k (n / 10) ++ ((48 + n % 10) ∷ [])
unfolding digits_within
more_digits k n h = rw (le-ltb n 10 h)

-- Without its last digit a number of at most k + 1 digits has at most k.
shorter : (k n : ℕ) → n < 10 ^ suc k → n / 10 < 10 ^ k
shorter k n h = (div-lt_iff_lt-mul (lit< tt)).1 (rw pow-suc at h)

in_twenty : (n : ℕ) → n < limit → n < 10 ^ 20
unfolding limit
in_twenty n h = lt_of_lt_of_le h (lit≤ tt)

-- ---- the digits read back

all_snoc : (w : List ℕ) (d : ℕ) → d < 10 → all_digits (w ++ ((48 + d) ∷ [])) ≡ all_digits w
unfolding all_digits
all_snoc [] d h =
    let low : 48 ≤ 48 + d = omega arith in
    let high : 48 + d ≤ 57 = omega arith in
    rw (le-leb 48 (48 + d) low, le-leb (48 + d) 57 high)
all_snoc (b ∷ w) d h = ap (λ t. is_digit b && t) (all_snoc w d h)

value_snoc : (n : ℕ) (w : List ℕ) (d : ℕ) → value_from n (w ++ ((48 + d) ∷ [])) ≡ value_from n w * 10 + d
unfolding value_from
value_snoc n [] d = omega arith
value_snoc n (b ∷ w) d = value_snoc (n * 10 + (b - 48)) w d

digits_all : (k n : ℕ) → all_digits (digits_within k n) ≡ true
unfolding digits_within all_digits
digits_all zero n = refl
digits_all (suc k) n =
    by_below n 10
    (λ l e. rw (one_digit k n l) (all_snoc [] n l))
    (λ g e. rw (more_digits k n g, all_snoc (digits_within k (n / 10)) (n % 10) (omega arith)) (digits_all k (n / 10)))

digits_value : (k n : ℕ) → n < 10 ^ k → value_from 0 (digits_within k n) ≡ n
unfolding digits_within value_from
digits_value zero n h = omega arith
digits_value (suc k) n h =
    by_below n 10
    (λ l e. rw (one_digit k n l) (omega arith))
    (λ g e. rw (more_digits k n g, value_snoc, digits_value k (n / 10) (shorter k n h)) (div-add-mod' n 10))

digits_some : (k n : ℕ) → 0 < length (digits_within (suc k) n)
digits_some k n =
    by_below n 10
    (λ l e. rw (one_digit k n l) (lit< tt))
    (λ g e. rw (more_digits k n g, length-append) (omega arith))

number_some : (w : List ℕ) → 0 < length w → all_digits w ≡ true → value_from 0 w < limit → number w ≡ some (value_from 0 w)
unfolding number
number_some [] p e h = let z : ⊥ = omega arith in absurd z
number_some (b ∷ bs) p e h = rw (e, lt-ltb (value_from 0 (b ∷ bs)) limit h)

-- THE LAW of writing: the digits of a number read back as that number.
pub round_trip : (n : ℕ) → n < limit → number (digits_of n) ≡ some n
unfolding digits_of
round_trip n h =
    let v : value_from 0 (digits_of n) ≡ n = digits_value 20 n (in_twenty n h) in
    number_some (digits_of n) (digits_some 19 n) (digits_all 20 n) (rw v h) ∙ ap some v

first_digit : (k n : ℕ) → 0 < n → n < 10 ^ suc k → 48 < get_or (digits_within (suc k) n) 0 0
first_digit zero n p h = rw (one_digit 0 n h) (omega arith)
first_digit (suc k) n p h =
    by_below n 10
    (λ l e. rw (one_digit (suc k) n l) (omega arith))
    (λ g e. let q : 0 < n / 10 = omega arith in
    rw (more_digits (suc k) n g, get_or-append (digits_within (suc k) (n / 10)) ((48 + n % 10) ∷ []) 0 0 (digits_some k (n / 10)))
    (first_digit k (n / 10) q (shorter (suc k) n h)))

-- THE LAW of their form: a number above 0 is written with no zero in front.
pub no_leading_zero : (n : ℕ) → 0 < n → n < limit → 48 < get_or (digits_of n) 0 0
unfolding digits_of
no_leading_zero n p h = first_digit 19 n p (in_twenty n h)

-- What a caller writes, from `from` to the end, is the digits.
pub printed : (n : ℕ) → drop (decimal_of n).from (decimal_of n).digits ≡ digits_of n
printed n = let k = 20 - length (digits_of n) in drop_at (replicate k 0) (digits_of n) k (length-replicate k 0)

-- ---- the loop: at place i the number rest is still to be written

pub record Printing (n : ℕ) (out : List ℕ) (i rest : ℕ) : Type 0 where
  pub place : i < 20
  pub short : rest < 10 ^ suc i
  pub long : length out ≡ 20
  pub blank : take (suc i) out ≡ replicate (suc i) 0
  pub digits : digits_within (suc i) rest ++ drop (suc i) out ≡ digits_of n

pub starts : (n : ℕ) → n < 2 ^ 64 → Printing n (replicate 20 0) 19 n
unfolding digits_of limit
starts n h = record { place = lit< tt; short = in_twenty n h; long = refl; blank = refl; digits = append-nil (digits_within 20 n) }

-- a store at i, seen from i on
stored : (out : List ℕ) (i d : ℕ) → i < length out → drop i (set out i d) ≡ d ∷ drop (suc i) out
stored out i d h =
    let l : i < length (set out i d) = rw length-set h in
    let m : i < suc i = omega arith in
    rw (drop-cons (set out i d) i 0 l, get_or-set_same out i d 0 h, drop-set-lt (suc i) out i d m)

take_blank : (i : ℕ) → ◌≡◌ {A = List ℕ} (take i (replicate (suc i) 0)) (replicate i 0)
take_blank zero = refl
take_blank (suc i) = ap (λ (l : List ℕ). 0 ∷ l) (take_blank i)

-- what is blank up to i + 1 is blank up to i
fewer : (i : ℕ) (out : List ℕ) → take (suc i) out ≡ replicate (suc i) 0 → take i out ≡ replicate i 0
fewer i out e =
    let l : i ≤ suc i = omega arith in
    sym (take-take i (suc i) out l) ∙ ap (take i) e ∙ take_blank i

-- a number of two digits or more has a place before this one
pub earlier : (n : ℕ) (out : List ℕ) (i rest : ℕ) → Printing n out i rest → 9 < rest → 1 ≤ i
earlier n out zero rest p h = let z : ⊥ = omega (arith, p.short) in absurd z
earlier n out (suc i) rest p h = omega arith

pub goes : (n : ℕ) (out : List ℕ) (i rest : ℕ) → Printing n out i rest → 9 < rest →
    Printing n (set out i (48 + rest % 10)) (i - 1) (rest / 10)
goes n out zero rest p h = let z : ⊥ = omega (arith, p.short) in absurd z
goes n out (suc i) rest p h =
    let e : suc i - 1 ≡ i = omega arith in
    let l : suc i < length out = omega (arith, p.long, p.place) in
    rw e (record {
      place = omega (arith, p.place);
      short = shorter (suc i) rest p.short;
      long = rw length-set p.long;
      blank = take-set-le (suc i) out (suc i) (48 + rest % 10) (le_refl (suc i)) ∙ fewer (suc i) out p.blank;
      digits = rw (stored out (suc i) (48 + rest % 10) l) (rw (more_digits (suc i) rest h, append_snoc) at p.digits);
    })

pub ends : (n : ℕ) (out : List ℕ) (i rest : ℕ) → Printing n out i rest → rest < 10 →
    ◌≡◌ {A = Decimal} (record { digits = set out i (48 + rest); from = i }) (decimal_of n)
ends n out i rest p h =
    let l : i < length out = omega (arith, p.long, p.place) in
    let all : (48 + rest) ∷ drop (suc i) out ≡ digits_of n = rw (one_digit i rest h) at p.digits in
    let e : 20 - length (digits_of n) ≡ i = omega (arith, ap length all, length-drop (suc i) out, p.long, p.place) in
    rw (e, set_split out i (48 + rest) l, all, fewer i out p.blank)
