-- What a copied array holds; and the invariant of a loop that writes an array place by place: below i it holds what it is to hold.
use Rattle.std.proofs.Common.{ℕ, ◌+◌, ◌≤◌, ◌<◌, List, take, ◌≡◌, refl, sym, ◌∙◌, arith, eqb-true, eq-eqb, ne_eqb, Bool, true, false, eqb, length, get_or, set, replicate, length-set, get_or-set_same, get_or-set_other, ext_get_or}
use Rattle.std.proofs.lemmas.Bool.{eqb-false}
use Rattle.std.proofs.lemmas.List.{length-replicate, get_or-replicate, take_more, take_more_set, take_all}
use Rattle.arrays.specs.Whole.{copied}

pub record Below (src s : List ℕ) (i : ℕ) : Type 0 where
  pub long : length s ≡ length src
  pub within : i ≤ length src
  pub same : (j : ℕ) → j < i → get_or s j 0 ≡ get_or src j 0

pub below_none : (src s : List ℕ) → length s ≡ length src → Below src s 0
below_none src s e = record { long = e; within = omega arith; same = λ j l. let z : ⊥ = omega arith in absurd z }

pub below_more : (src s : List ℕ) (i v : ℕ) → i < length src → v ≡ get_or src i 0 → Below src s i → Below src (set s i v) (i + 1)
below_more src s i v l e b = record {
  long = length-set s i v ∙ b.long;
  within = omega arith;
  same = λ j c. go j c (eqb j i) refl;
}
  where
    go : (j : ℕ) → j < i + 1 → (t : Bool) → eqb j i ≡ t → get_or (set s i v) j 0 ≡ get_or src j 0
    go j c true q = let r : j ≡ i = eqb-true j i q in rw r (get_or-set_same s i v 0 (omega (arith, b.long)) ∙ e)
    go j c false q = get_or-set_other s i j v 0 (eqb-false j i q) ∙ b.same j (omega (arith, eqb-false j i q))

pub below_all : (src s : List ℕ) (i : ℕ) → length src ≤ i → Below src s i → s ≡ src
below_all src s i l b = ext_get_or 0 s src b.long (λ j c. b.same j (omega (arith, b.long)))

-- the same where all places are to hold 0, as many as the list has
pub zero_none : (s : List ℕ) → Below (replicate (length s) 0) s 0
zero_none s = below_none (replicate (length s) 0) s (sym (length-replicate {A = ℕ} (length s) 0))

pub zero_more : (n : ℕ) (s : List ℕ) (i : ℕ) → i < n → Below (replicate n 0) s i → Below (replicate n 0) (set s i 0) (i + 1)
zero_more n s i l b = below_more (replicate n 0) s i 0 (rw (length-replicate {A = ℕ} n 0) l) (sym (get_or-replicate n i 0 0 l)) b

pub zero_long : (n : ℕ) (s : List ℕ) (i : ℕ) → Below (replicate n 0) s i → length s ≡ n
zero_long n s i b = b.long ∙ length-replicate {A = ℕ} n 0

pub zero_all : (n : ℕ) (s : List ℕ) (i : ℕ) → n ≤ i → Below (replicate n 0) s i → s ≡ replicate n 0
zero_all n s i l b = below_all (replicate n 0) s i (rw (length-replicate {A = ℕ} n 0) l) b

-- a copy onto a list of equal length, element by element: below i the list holds the other's
pub copied_more : {A : Type 0} (to from s : List A) (i : ℕ) (x : A) → length to ≡ length from → length s ≡ length to → i < length to → x ≡ get_or from i x → take i s ≡ take i from → take (i + 1) (set s i x) ≡ take (i + 1) from
copied_more to from s i x e l c p b = rw (take_more_set s i x (omega (arith, l)), take_more from i x (omega (arith, e)), b, ← p)

pub copied_all : {A : Type 0} (to from : List A) {s : List A} {i : ℕ} → length to ≡ length from → length s ≡ length to → length to ≤ i → take i s ≡ take i from → s ≡ copied to from
unfolding copied
copied_all to from {s} {i} e l c b = rw (eq-eqb (length to) (length from) e) (rw (take_all i s (omega (arith, l)), take_all i from (omega (arith, e))) at b)

-- and onto one of another length the list as it was
pub copied_not : {A : Type 0} (to from : List A) → (length to ≡ length from → ⊥) → to ≡ copied to from
unfolding copied
copied_not to from h = rw (ne_eqb (length to) (length from) h)

-- what is a copy onto a list of equal length is the other list
pub copied_whole : {A : Type 0} (to from : List A) {a : List A} → length to ≡ length from → a ≡ copied to from → a ≡ from
unfolding copied
copied_whole to from e p = p ∙ (rw (eq-eqb (length to) (length from) e))
