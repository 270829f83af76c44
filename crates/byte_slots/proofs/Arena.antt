-- The arena after a key was put behind its used bytes, and after a gap was closed: its bytes one by one, and the spans that stay.
use Rattle.std.proofs.Common.{ℕ, ◌+◌, ◌-◌, ◌≤◌, ◌<◌, List, ◌++◌, ◌≡◌, refl, ◌∙◌, ap, arith, length, get_or, take, drop, replicate, length-append, length-take, length-drop, length-take-le, get_or-take, get_or-drop, ext_get_or}
use lib.ListN.{length-replicate, get_or-append}
use Rattle.lists.proofs.Parts.{get_d_zeros, get_d_behind, length_part, get_d_part, same_part}
use Rattle.byte_slots.specs.Memory.{part, pasted, closed}

module _ (a : List ℕ) (u : ℕ) (k : List ℕ) (fits : u + length k ≤ length a) where
  first : length (take u a) ≡ u
  first = length-take-le u a (omega arith)

  -- The arena keeps its size.
  pub length_pasted : length (pasted a u k) ≡ length a
  unfolding pasted
  length_pasted = simp (length-append, length-take, length-drop) (omega arith)

  -- Below u the bytes are the old ones, then come the key's, and behind them the old ones.
  pub pasted_before : (i : ℕ) → i < u → get_or (pasted a u k) i 0 ≡ get_or a i 0
  unfolding pasted
  pasted_before i l = get_or-append (take u a) _ 0 i (omega (arith, first)) ∙ get_or-take u a i 0 l

  pub pasted_key : (i : ℕ) → u ≤ i → i < u + length k → get_or (pasted a u k) i 0 ≡ get_or k (i - u) 0
  unfolding pasted
  pasted_key i b l = get_d_behind (take u a) _ u i 0 first b ∙ get_or-append k _ 0 (i - u) (omega arith)

  pub pasted_after : (i : ℕ) → u + length k ≤ i → get_or (pasted a u k) i 0 ≡ get_or a i 0
  unfolding pasted
  pasted_after i l =
      get_d_behind (take u a) _ u i 0 first (omega arith) ∙ get_d_behind k _ (length k) (i - u) 0 refl (omega arith)
      ∙ get_or-drop (u + length k) a (i - u - length k) 0 ∙ ap (λ x. get_or a x 0) (omega arith)

  -- The spans below u keep their bytes, and the new span has the key's.
  pub part_pasted : (o l : ℕ) → o + l ≤ u → part (pasted a u k) o l ≡ part a o l
  unfolding part
  part_pasted o l h = same_part (pasted a u k) a o o l 0 (omega (arith, length_pasted)) (omega arith) (λ i b. pasted_before (o + i) (omega arith))

  pub part_pasted_key : part (pasted a u k) u (length k) ≡ k
  unfolding part
  part_pasted_key =
      let n : length (take (length k) (drop u (pasted a u k))) ≡ length k = length_part (pasted a u k) u (length k) (omega (arith, length_pasted)) in
      ext_get_or 0 (take (length k) (drop u (pasted a u k))) k n
      (λ i b. get_d_part (pasted a u k) u (length k) i 0 (omega arith) ∙ pasted_key (u + i) (omega arith) (omega arith) ∙ ap (λ x. get_or k x 0) (omega arith))

module _ (a : List ℕ) (o l u : ℕ) (below : o + l ≤ u) (fits : u ≤ length a) where
  front : length (take o a) ≡ o
  front = length-take-le o a (omega arith)

  moving : length (part a (o + l) (u - (o + l))) ≡ u - (o + l)
  unfolding part
  moving = length_part a (o + l) (u - (o + l)) (omega arith)

  -- The arena keeps its size.
  pub length_closed : length (closed a o l u) ≡ length a
  unfolding closed part
  length_closed = simp (length-append, length-take, length-drop, length-replicate) (omega arith)

  -- Below o the bytes are the old ones, then come those from o + l up to u, then l zeros, and from u on the old ones.
  pub closed_before : (i : ℕ) → i < o → get_or (closed a o l u) i 0 ≡ get_or a i 0
  unfolding closed
  closed_before i h = get_or-append (take o a) _ 0 i (omega (arith, front)) ∙ get_or-take o a i 0 h

  behind : (i : ℕ) → o ≤ i → get_or (closed a o l u) i 0 ≡ get_or (part a (o + l) (u - (o + l)) ++ (replicate l 0 ++ drop u a)) (i - o) 0
  unfolding closed
  behind i h = get_d_behind (take o a) _ o i 0 front h

  pub closed_moved : (i : ℕ) → o ≤ i → i + l < u → get_or (closed a o l u) i 0 ≡ get_or a (i + l) 0
  unfolding part
  closed_moved i b h =
      behind i b ∙ get_or-append (part a (o + l) (u - (o + l))) _ 0 (i - o) (omega (arith, moving))
      ∙ get_d_part a (o + l) (u - (o + l)) (i - o) 0 (omega arith) ∙ ap (λ x. get_or a x 0) (omega arith)

  beyond_moved : (i : ℕ) → u ≤ i + l → get_or (closed a o l u) i 0 ≡ get_or (replicate l 0 ++ drop u a) (i - (u - l)) 0
  beyond_moved i h =
      behind i (omega arith) ∙ get_d_behind (part a (o + l) (u - (o + l))) _ (u - (o + l)) (i - o) 0 moving (omega arith)
      ∙ ap (λ x. get_or (replicate l 0 ++ drop u a) x 0) (omega arith)

  pub closed_vacated : (i : ℕ) → u ≤ i + l → i < u → get_or (closed a o l u) i 0 ≡ 0
  closed_vacated i b h =
      beyond_moved i b ∙ get_or-append (replicate l 0) _ 0 (i - (u - l)) (omega (arith, length-replicate {A = ℕ} l 0)) ∙ get_d_zeros l (i - (u - l))

  pub closed_after : (i : ℕ) → u ≤ i → get_or (closed a o l u) i 0 ≡ get_or a i 0
  closed_after i h =
      beyond_moved i (omega arith) ∙ get_d_behind (replicate l 0) _ l (i - (u - l)) 0 (length-replicate {A = ℕ} l 0) (omega arith)
      ∙ get_or-drop u a (i - (u - l) - l) 0 ∙ ap (λ x. get_or a x 0) (omega arith)

  -- The spans before the gap keep their bytes where they were, and those behind it l bytes lower.
  pub part_closed_before : (p n : ℕ) → p + n ≤ o → part (closed a o l u) p n ≡ part a p n
  unfolding part
  part_closed_before p n h = same_part (closed a o l u) a p p n 0 (omega (arith, length_closed)) (omega arith) (λ i b. closed_before (p + i) (omega arith))

  pub part_closed_behind : (p n : ℕ) → o + l ≤ p → p + n ≤ u → part (closed a o l u) (p - l) n ≡ part a p n
  unfolding part
  part_closed_behind p n b h = same_part (closed a o l u) a (p - l) p n 0 (omega (arith, length_closed)) (omega arith)
      (λ i c. closed_moved (p - l + i) (omega arith) (omega arith) ∙ ap (λ x. get_or a x 0) (omega arith))
