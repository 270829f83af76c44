-- A line is read as the grammar says: one step a byte from the start, and then the order, is what the grammar gives the whole line.
-- Assumes nothing.
use Prim.Native.Nat.{ℕ}
use mathlib.Core.Path.{◌≡◌, refl, ap, ◌∙◌, sym}
use mathlib.Core.Bool.{Bool, true, false, cond}
use mathlib.Core.List.{List, [], ◌∷◌}
use lib.Dec.{eqb}
use borrow.Author.Tests.{eqb-true}
use Rattle.lines.specs.declared.Order.{Order}
use Rattle.lines.specs.declared.Order.TheVariants.{Bad}
use Rattle.lines.specs.declared.Digits.{Digits}
use Rattle.lines.specs.declared.Digits.TheVariants.{Empty, Number, Broken}
use Rattle.lines.specs.declared.Reading.{Reading}
use Rattle.lines.specs.declared.Reading.TheVariants.{Start, Letter, Key, Pair, Alone, Lost}
use Rattle.lines.specs.Grammar.{cut, words, on_letter, count_order, words_order, line_of, count_of}
use Rattle.lines.specs.Reader.{more_of, number_of, spaced_of, joined_of, step_of, order_of, read_from}
use Rattle.lines.proofs.Numbers.{more_all, broken_stays, word_read}

-- The state after a word, which has no space.
unfoldable join_all : Reading → List ℕ → Reading
join_all r [] = r
join_all r (b ∷ bs) = join_all (joined_of r b) bs

-- The state after more words, a space before each.
unfoldable onward : Reading → List (List ℕ) → Reading
onward r [] = r
onward r (w ∷ ws) = onward (join_all (spaced_of r) w) ws

-- The state after all words of a line.
unfoldable through : Reading → List (List ℕ) → Reading
through r [] = r
through r (w ∷ ws) = onward (join_all r w) ws

-- ---- byte by byte is word by word

-- a line has at least one word
record Full (ws : List (List ℕ)) : Type 0 where
  first : List ℕ
  rest : List (List ℕ)
  is : ws ≡ first ∷ rest

cut_full : (t : Bool) (b : ℕ) (ws : List (List ℕ)) → Full (cut t b ws)
unfolding cut
cut_full true b ws = record { first = []; rest = ws; is = refl }
cut_full false b [] = record { first = b ∷ []; rest = []; is = refl }
cut_full false b (w ∷ ws) = record { first = b ∷ w; rest = ws; is = refl }

words_full : (bs : List ℕ) → Full (words bs)
unfolding words
words_full [] = record { first = []; rest = []; is = refl }
words_full (b ∷ bs) = cut_full (eqb b 32) b (words bs)

one_byte : (t : Bool) (b : ℕ) (r : Reading) (w : List ℕ) (ws : List (List ℕ)) →
    through (cond t (spaced_of r) (joined_of r b)) (w ∷ ws) ≡ through r (cut t b (w ∷ ws))
unfolding through onward join_all cut
one_byte true b r w ws = refl
one_byte false b r w ws = refl

by_words : (line : List ℕ) (r : Reading) → read_from r line ≡ through r (words line)
unfolding read_from words through onward join_all
by_words [] r = refl
by_words (b ∷ bs) r =
    let f = words_full bs in
    by_words bs (step_of r b) ∙ rw f.is (one_byte (eqb b 32) b r f.first f.rest)

-- ---- what each kind of state makes of a word

lost_joins : (w : List ℕ) → join_all Lost w ≡ Lost
unfolding join_all
lost_joins [] = refl
lost_joins (b ∷ bs) = lost_joins bs

lost_onward : (ws : List (List ℕ)) → onward Lost ws ≡ Lost
unfolding onward
lost_onward [] = refl
lost_onward (w ∷ ws) = rw lost_joins (lost_onward ws)

key_joins : (c : ℕ) (k : Digits) (w : List ℕ) → join_all (Key c k) w ≡ Key c (more_all k w)
unfolding join_all more_all
key_joins c k [] = refl
key_joins c k (b ∷ bs) = key_joins c (more_of k b) bs

pair_joins : (c : ℕ) (k v : Digits) (w : List ℕ) → join_all (Pair c k v) w ≡ Pair c k (more_all v w)
unfolding join_all more_all
pair_joins c k v [] = refl
pair_joins c k v (b ∷ bs) = pair_joins c k (more_of v b) bs

-- ---- the words of a line

-- a first word that is no letter
no_letter : (l : List ℕ) (ws : List (List ℕ)) → ((f : ℕ → Order) → on_letter l f ≡ Bad) → words_order (l ∷ ws) ≡ Bad
unfolding words_order
no_letter l [] h = h _
no_letter l (k ∷ []) h = h _
no_letter l (k ∷ v ∷ []) h = h _
no_letter l (k ∷ v ∷ w ∷ ws) h = refl

-- a letter, and the words behind it
letter_read : (c : ℕ) (ws : List (List ℕ)) → order_of (onward (Letter c) ws) ≡ words_order ((c ∷ []) ∷ ws)
unfolding onward words_order on_letter
letter_read c [] = refl
letter_read c (k ∷ []) = rw (key_joins, word_read)
letter_read c (k ∷ v ∷ []) = rw (key_joins, pair_joins, word_read k, word_read v)
letter_read c (k ∷ v ∷ w ∷ ws) = rw (key_joins, pair_joins, lost_joins, lost_onward ws)

words_read : (ws : List (List ℕ)) → order_of (through Start ws) ≡ words_order ws
unfolding through onward join_all words_order on_letter
words_read [] = refl
words_read ([] ∷ []) = refl
words_read ([] ∷ k ∷ ws) = rw (lost_joins, lost_onward ws) (sym (no_letter [] (k ∷ ws) (λ f. refl)))
words_read ((c ∷ []) ∷ ws) = letter_read c ws
words_read ((c ∷ d ∷ w) ∷ ws) = rw (lost_joins w, lost_onward ws) (sym (no_letter (c ∷ d ∷ w) ws (λ f. refl)))

-- THE LAW of a line.
pub line_read : (line : List ℕ) → order_of (read_from Start line) ≡ line_of line
unfolding line_of
line_read line = ap order_of (by_words line Start) ∙ words_read (words line)

-- ---- the count line

lost_reads : (line : List ℕ) → read_from Lost line ≡ Lost
unfolding through
lost_reads line = let f = words_full line in by_words line Lost ∙ rw (f.is, lost_joins, lost_onward f.rest)

space_breaks : (d : Digits) (b : ℕ) → b ≡ 32 → more_of d b ≡ Broken
space_breaks Empty b e = rw e
space_breaks (Number n) b e = rw e
space_breaks Broken b e = refl

-- A byte of the count line: t says whether it is a space.
count_byte : (t : Bool) (b : ℕ) (d : Digits) (bs : List ℕ) → eqb b 32 ≡ t →
    order_of (read_from (Alone (more_of d b)) bs) ≡ count_order (number_of (more_all (more_of d b) bs)) →
    order_of (read_from (cond t Lost (Alone (more_of d b))) bs) ≡ count_order (number_of (more_all (more_of d b) bs))
count_byte false b d bs e h = h
count_byte true b d bs e h = rw (lost_reads, space_breaks d b (eqb-true b 32 e), broken_stays)

count_from : (d : Digits) (line : List ℕ) → order_of (read_from (Alone d) line) ≡ count_order (number_of (more_all d line))
unfolding read_from more_all
count_from d [] = refl
count_from d (b ∷ bs) = count_byte (eqb b 32) b d bs refl (count_from (more_of d b) bs)

-- THE LAW of the count line.
pub count_read : (line : List ℕ) → order_of (read_from (Alone Empty) line) ≡ count_of line
unfolding count_of
count_read line = count_from Empty line ∙ ap count_order (word_read line)
