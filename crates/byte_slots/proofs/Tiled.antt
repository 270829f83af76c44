-- Live spans that tile a number of bytes: one more behind them, one fewer with the gap closed, and no byte uncovered.
use Rattle.std.proofs.Common.{ℕ, zero, suc, ◌+◌, ◌-◌, ◌≤◌, ◌<◌, ◌⊎◌, inl, inr, ⊎_elim, ◌≡◌, refl, sym, subst, arith, leb-true, leb-false, leb}
use Rattle.model.specs.Slots.{Table, total, weigh}
use Rattle.model.proofs.Cases.{by_bool, by_lt}
use Rattle.byte_slots.specs.Memory.{fall, Tiled}

-- An offset p stays before the gap from o of length l, or falls by l from behind it.
pub data Side (o l p n q : ℕ) : Type 0 where
  before : q ≡ p → p + n ≤ o → Side o l p n q
  behind : q + l ≡ p → o + l ≤ p → Side o l p n q

-- An offset that fell as it should is on one side.
pub side : (o l p n q : ℕ) → q ≡ fall (o + l) l 1 p → (p < o + l → p + n ≤ o) → Side o l p n q
unfolding fall
side o l p n q e h = by_bool (leb (o + l) p)
    (λ t. let r : q ≡ p - l = rw t at e in behind (omega (arith, leb-true (o + l) p t)) (leb-true (o + l) p t))
    (λ t. let r : q ≡ p = rw t at e in before r (h (leb-false (o + l) p t)))

-- The span of j after the gap from o of length l is closed.
pub record Lowered (live : ℕ → Type 0) (off len off' len' : ℕ → ℕ) (o l j : ℕ) : Type 0 where
  pub was : live j
  pub offset : off' j ≡ fall (o + l) l 1 (off j)
  pub length : len' j ≡ len j
  pub clear : off j < o + l → off j + len j ≤ o

-- The span of j after i took l bytes from u on.
pub data Extended (live : ℕ → Type 0) (off len off' len' : ℕ → ℕ) (u l i j : ℕ) : Type 0 where
  new : j ≡ i → off' j ≡ u → len' j ≡ l → Extended live off len off' len' u l i j
  old : live j → off' j ≡ off j → len' j ≡ len j → Extended live off len off' len' u l i j

-- It ends that much later at the latest.
pub extended_end : {live : ℕ → Type 0} {off len off' len' : ℕ → ℕ} {u l i j : ℕ} → ((n : ℕ) → live n → off n + len n ≤ u) → Extended live off len off' len' u l i j → off' j + len' j ≤ u + l
extended_end ends (new q e f) = omega arith
extended_end {j = j} ends (old a e f) = omega (arith, ends j a)

module _ {live : ℕ → Type 0} {off len : ℕ → ℕ} {u : ℕ} (T : Tiled live off len u) where
  -- Where a gap is closed the rest tile that much less.
  pub close : {live' : ℕ → Type 0} {off' len' : ℕ → ℕ} (o l : ℕ) → o + l ≤ u → ((j : ℕ) → live' j → Lowered live off len off' len' o l j) → Tiled live' off' len' (u - l)
  close {live'} {off'} {len'} o l below h = record {
    ends = λ i a. end i (h i a) (side o l (off i) (len i) (off' i) (h i a).offset (h i a).clear);
    apart = λ i j a b d c. lies i j (h i a) (h j b) d c (side o l (off i) (len i) (off' i) (h i a).offset (h i a).clear) (side o l (off j) (len j) (off' j) (h j b).offset (h j b).clear);
  }
    where
      end : (i : ℕ) → Lowered live off len off' len' o l i → Side o l (off i) (len i) (off' i) → off' i + len' i ≤ u - l
      end i r (before e a) = omega arith
      end i r (behind e a) = omega (arith, T.ends i r.was)

      lies : (i j : ℕ) → Lowered live off len off' len' o l i → Lowered live off len off' len' o l j → (i ≡ j → ⊥) → off' j < off' i + len' i → Side o l (off i) (len i) (off' i) → Side o l (off j) (len j) (off' j) → off' j + len' j ≤ off' i
      lies i j r q d c (before e a) (before f b) = omega (arith, T.apart i j r.was q.was d (omega arith))
      lies i j r q d c (before e a) (behind f b) = omega arith
      lies i j r q d c (behind e a) (before f b) = omega arith
      lies i j r q d c (behind e a) (behind f b) = omega (arith, T.apart i j r.was q.was d (omega arith))

  -- With one more span behind them they tile that much more.
  pub extend : {live' : ℕ → Type 0} {off' len' : ℕ → ℕ} (i l : ℕ) → ((j : ℕ) → live' j → Extended live off len off' len' u l i j) → Tiled live' off' len' (u + l)
  extend {live'} {off'} {len'} i l h = record { ends = λ j a. extended_end T.ends (h j a); apart = λ j k a b d c. lies j k (h j a) (h k b) d c }
    where
      lies : (j k : ℕ) → Extended live off len off' len' u l i j → Extended live off len off' len' u l i k → (j ≡ k → ⊥) → off' k < off' j + len' j → off' k + len' k ≤ off' j
      lies j k (new q e f) (new r g m) d c = let z : ⊥ = d (omega arith) in absurd z
      lies j k (new q e f) (old b g m) d c = omega (arith, T.ends k b)
      lies j k (old a e f) (new r g m) d c = let z : ⊥ = omega (arith, T.ends j a) in absurd z
      lies j k (old a e f) (old b g m) d c = omega (arith, T.apart j k a b d (omega arith))

-- A slot weighs its span's length where it is live, and nothing where it is not.
pub data Counted (live : Type 0) (w l : ℕ) : Type 0 where
  counts : live → w ≡ l → Counted live w l
  idle : (live → ⊥) → w ≡ 0 → Counted live w l

-- What a counted slot weighs.
pub weighs : {live : Type 0} {w l : ℕ} → Counted live w l → (live → w ≡ l) × ((live → ⊥) → w ≡ 0)
weighs (counts a e) = ((λ b. e), (λ d. absurd (d a)))
weighs (idle a e) = ((λ b. absurd (a b)), (λ d. e))

-- Spans that tile u bytes weigh at most u.
pub pack : {K W : Type 0} (g : K → ℕ) (t : Table K W) (n : ℕ) {live : ℕ → Type 0} {off len : ℕ → ℕ} {u : ℕ} → Tiled live off len u → ((i : ℕ) → i < n → Counted (live i) (weigh g (t i)) (len i)) → total g t n ≤ u
unfolding total
pack g t zero T h = omega arith
pack g t (suc n) {live} {off} {len} {u} T h = one (h n (omega arith)) (pack g t n T (λ i l. h i (omega arith)))
    (λ a. pack g t n (close T {live' = λ j. live j × (j ≡ n → ⊥)} {off' = λ j. fall (off n + len n) (len n) 1 (off j)} {len' = len} (off n) (len n) (T.ends n a)
    (λ j b. record { was = b.0; offset = refl; length = refl; clear = λ c. T.apart n j a b.0 (λ q. b.1 (sym q)) c }))
    (λ i l. rest i l (h i (omega arith))))
  where
    one : Counted (live n) (weigh g (t n)) (len n) → total g t n ≤ u → (live n → total g t n ≤ u - len n) → total g t n + weigh g (t n) ≤ u
    one (counts a e) p q = omega (arith, q a, T.ends n a)
    one (idle a e) p q = omega arith

    rest : (i : ℕ) → i < n → Counted (live i) (weigh g (t i)) (len i) → Counted (live i × (i ≡ n → ⊥)) (weigh g (t i)) (len i)
    rest i l (counts a e) = counts (a, λ q. omega arith) e
    rest i l (idle a e) = idle (λ b. a b.0) e

-- one of the first n numbers has a property that is decided, or none has
map_probe : {P : ℕ → Type 0} (n : ℕ) → ((i : ℕ) → i < n → P i ⊎ (P i → ⊥)) → ((i : ℕ) × P i) ⊎ ((i : ℕ) → i < n → P i → ⊥)
map_probe zero h = inr (λ i l p. omega arith)
map_probe {P} (suc n) h = ⊎_elim (λ p. inl (n, p))
    (λ q. ⊎_elim inl (λ none. inr (λ i l p. by_lt i n (λ b e. none i b p) (λ b e. let r : i ≡ n = omega arith in q (subst P r p)))) (map_probe n (λ i l. h i (omega arith))))
    (h n (omega arith))

-- Spans that tile u bytes and weigh u cover each of these.
pub cover : {K W : Type 0} (g : K → ℕ) (t : Table K W) (n : ℕ) {live : ℕ → Type 0} {off len : ℕ → ℕ} {u : ℕ} → Tiled live off len u → ((i : ℕ) → i < n → Counted (live i) (weigh g (t i)) (len i)) → ((i : ℕ) → live i → i < n) → total g t n ≡ u → (k : ℕ) → k < u → (i : ℕ) × live i × (off i ≤ k) × (k < off i + len i)
cover g t n {live} {off} {len} {u} T h high e k l = ⊎_elim (λ r. (r.0, r.1.0, r.1.1, r.1.2)) (λ none. absurd (hole none)) (map_probe n (λ i b. decided i (h i b)))
  where
    Holds : ℕ → Type 0
    Holds i = live i × (off i ≤ k) × (k < off i + len i)

    decided : (i : ℕ) → Counted (live i) (weigh g (t i)) (len i) → Holds i ⊎ (Holds i → ⊥)
    decided i (idle a f) = inr (λ p. a p.0)
    decided i (counts a f) = by_lt k (off i) (λ b x. inr (λ p. omega arith)) (λ b x. by_lt k (off i + len i) (λ c y. inl (a, b, c)) (λ c y. inr (λ p. omega arith)))

    hole : ((i : ℕ) → i < n → Holds i → ⊥) → ⊥
    hole none = omega (
      arith,
      pack g t n (close T {live' = live} {off' = λ j. fall (k + 1) 1 1 (off j)} {len' = len} k 1 (omega arith)
          (λ j a. record { was = a; offset = refl; length = refl; clear = λ c. by_lt k (off j + len j) (λ b x. absurd (none j (high j a) (a, omega arith, b))) (λ b x. b) })) h,
    )
