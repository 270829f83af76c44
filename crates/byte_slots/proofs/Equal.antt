-- Two byte strings compared, by eights and byte by byte.
use Rattle.std.proofs.Common.{ℕ, zero, suc, ◌+◌, ◌^◌, ◌≤◌, ◌<◌, true, false, List, [], ◌∷◌, ◌≡◌, refl, ap, sym, ◌∙◌, add-one, arith, eq-eqb, ne_eqb, length, get_or, take, drop, drop-cons, drop-drop}
use lib.Seq.{drop-length}
use Rattle.model.proofs.Cases.{by_bool}
use Rattle.lists.specs.Bytes.{le}
use Rattle.byte_slots.specs.Keys.{same_bytes, same_right}
use Rattle.byte_slots.proofs.Eights.{one_number}

-- the comparison's state: of one length, and equal so far
pub record Alike (a b : List ℕ) (i : ℕ) : Type 0 where
  pub within : i ≤ length a
  pub long : length a ≡ length b
  pub rest : same_bytes (drop i a) (drop i b) ≡ same_bytes a b

-- strings of different lengths differ
pub unlike : (a b : List ℕ) → (length a ≡ length b → ⊥) → false ≡ same_bytes a b
unlike a b h = by_bool (same_bytes a b)
    (λ e. let z : b ≡ a = same_right b a e in absurd (h (rw z)))
    (λ e. sym e)

-- equal first n bytes decide nothing
same_behind : (n : ℕ) (a b : List ℕ) → take n a ≡ take n b → same_bytes (drop n a) (drop n b) ≡ same_bytes a b
unfolding same_bytes
same_behind zero a b e = refl
same_behind (suc n) [] [] e = refl
same_behind (suc n) [] (y ∷ ys) e = let z : 0 ≡ suc (length (take n ys)) = ap length e in absurd (omega arith)
same_behind (suc n) (x ∷ xs) [] e = let z : suc (length (take n xs)) ≡ 0 = ap length e in absurd (omega arith)
same_behind (suc n) (x ∷ xs) (y ∷ ys) e =
    let f : x ≡ y = ap (λ l. get_or l 0 0) e in
    let g : take n xs ≡ take n ys = ap (drop 1) e in
    rw (same_behind n xs ys g, eq-eqb x y f)

module _ {a b : List ℕ} {i : ℕ} (w : Alike a b i) where
  step : i < length a → same_bytes (get_or a i 0 ∷ drop (suc i) a) (get_or b i 0 ∷ drop (suc i) b) ≡ same_bytes a b
  step l = rw (← drop-cons a i 0 l, ← drop-cons b i 0 (omega arith)) w.rest

  -- equal bytes go on
  pub alike_more : i < length a → get_or a i 0 ≡ get_or b i 0 → Alike a b (i + 1)
  unfolding same_bytes
  alike_more l e = record {
    within = omega arith;
    long = w.long;
    rest = rw (← step l, add-one, eq-eqb (get_or a i 0) (get_or b i 0) e);
  }

  -- other bytes end it
  pub alike_not : i < length a → (get_or a i 0 ≡ get_or b i 0 → ⊥) → false ≡ same_bytes a b
  unfolding same_bytes
  alike_not l h = rw (← step l, ne_eqb (get_or a i 0) (get_or b i 0) h)

  -- eight bytes that are one number go on
  pub alike_eight : {x y : ℕ} → i + 8 ≤ length a → le 8 x ≡ take 8 (drop i a) → le 8 y ≡ take 8 (drop i b) → x ≡ y → Alike a b (i + 8)
  alike_eight {x} {y} l p q e =
      let f : take 8 (drop i a) ≡ take 8 (drop i b) = sym p ∙ ap (le 8) e ∙ q in
      let g : same_bytes (drop (i + 8) a) (drop (i + 8) b) ≡ same_bytes (drop i a) (drop i b) =
      rw (← drop-drop 8 i a, ← drop-drop 8 i b) (same_behind 8 (drop i a) (drop i b) f) in
      record { within = omega arith; long = w.long; rest = g ∙ w.rest }

  -- eight bytes that are two numbers end it
  pub alike_other : {x y : ℕ} → x < 256 ^ 8 → y < 256 ^ 8 → le 8 x ≡ take 8 (drop i a) → le 8 y ≡ take 8 (drop i b) → (x ≡ y → ⊥) → false ≡ same_bytes a b
  alike_other {x} {y} l m p q h = by_bool (same_bytes a b)
      (λ e. let f : drop i b ≡ drop i a = same_right (drop i b) (drop i a) (w.rest ∙ e) in
      absurd (h (one_number 8 x y l m (p ∙ ap (take 8) (sym f) ∙ sym q))))
      (λ e. sym e)

  -- and the end of both says that they are equal
  pub alike_end : length a ≤ i → true ≡ same_bytes a b
  unfolding same_bytes
  alike_end l =
      let e : i ≡ length a = omega arith in
      let f : i ≡ length b = omega arith in
      let p : drop i a ≡ [] = rw e (drop-length a) in
      let q : drop i b ≡ [] = rw f (drop-length b) in
      rw (← w.rest, p, q)
