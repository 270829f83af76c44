-- Parts of lists by their elements: a stretch from a place on, what stands behind a first list, and a list of zeros.
-- Assumes nothing.
use mathlib.Core.Path.{◌≡◌, refl, subst, ◌∙◌, sym}
use mathlib.Core.List.{List, ◌++◌}
use Prim.Native.Nat.{ℕ, zero, suc, ◌+◌, ◌-◌, ◌≤◌, ◌<◌}
use native.Mathlib.Omega.{arith}
use lib.ListN.{length, get_or, take, drop, replicate, length-take, length-drop}
use lib.Seq.{get_or-append-add, get_or-take, get_or-drop, ext_get_or}

-- Zeros are zeros wherever one looks.
pub get_d_zeros : (n i : ℕ) → ◌≡◌ {A = ℕ} (get_or (replicate n 0) i 0) 0
get_d_zeros zero i = refl
get_d_zeros (suc n) zero = refl
get_d_zeros (suc n) (suc i) = get_d_zeros n i

module _ {A : Type 0} where
  -- Behind a first list of n elements stand the second's.
  pub get_d_behind : (xs ys : List A) (n i : ℕ) (d : A) → length xs ≡ n → n ≤ i → get_or (xs ++ ys) i d ≡ get_or ys (i - n) d
  get_d_behind xs ys n i d e h =
      let f : length xs + (i - n) ≡ i = omega arith in
      subst (λ k. get_or (xs ++ ys) k d ≡ get_or ys (i - n) d) f (get_or-append-add xs ys (i - n) d)

  -- The l elements from o on are l, and have these elements.
  pub length_part : (xs : List A) (o l : ℕ) → o + l ≤ length xs → length (take l (drop o xs)) ≡ l
  length_part xs o l h = simp (length-take, length-drop) (omega arith)

  pub get_d_part : (xs : List A) (o l i : ℕ) (d : A) → i < l → get_or (take l (drop o xs)) i d ≡ get_or xs (o + i) d
  get_d_part xs o l i d h = get_or-take l (drop o xs) i d h ∙ get_or-drop o xs i d

  -- Two stretches of l elements are equal where their elements are.
  pub same_part : (xs ys : List A) (o p l : ℕ) (d : A) → o + l ≤ length xs → p + l ≤ length ys → ((i : ℕ) → i < l → get_or xs (o + i) d ≡ get_or ys (p + i) d) → take l (drop o xs) ≡ take l (drop p ys)
  same_part xs ys o p l d a b h =
      ext_get_or d (take l (drop o xs)) (take l (drop p ys)) (length_part xs o l a ∙ sym (length_part ys p l b))
      (λ i c. let k : i < l = omega (arith, length_part xs o l a) in get_d_part xs o l i d k ∙ h i k ∙ sym (get_d_part ys p l i d k))
