-- Laws of tables and of the finite map over their live slots.
use Prim.Native.Nat.{ℕ, zero, suc, ◌+◌, ◌≤◌, ◌<◌}
use mathlib.Core.Bool.{true, false}
use mathlib.Core.Path.{◌≡◌, refl, sym, ◌∙◌, ap, subst}
use mathlib.Core.Option.{Option, none, some}
use mathlib.Core.Logic.{◌⊎◌, inl, inr, ⊎_elim, ◌↔◌}
use native.Mathlib.Omega.{arith}
use borrow.Author.Tests.{eq-eqb, ne_eqb}
use Rattle.model.specs.Slots.{Slot, never, freed, damaged, live, Table, Keys, put, frees, is_damaged, holds, weigh, total, count, any_damaged, value_in, look}
use Rattle.model.proofs.Cases.{by_bool, by_lt, by_eq, clash}

module _ {K W : Type 0} (t : Table K W) (i : ℕ) (s : Slot K W) where
  pub put_same : put t i s i ≡ s
  unfolding put
  put_same = rw (eq-eqb i i refl)

  pub put_other : (j : ℕ) → (j ≡ i → ⊥) → put t i s j ≡ t j
  unfolding put
  put_other j h = rw (ne_eqb j i h)

-- a slot is free exactly when its mark is 0 or 2
pub frees_is : {K W : Type 0} (s : Slot K W) → (frees s ≡ true) ↔ ((s ≡ never) ⊎ (s ≡ freed))
unfolding frees
frees_is never = ((λ e. inl refl), (λ x. refl))
frees_is freed = ((λ e. inr refl), (λ x. refl))
frees_is damaged = ((λ e. clash cc), (λ x. ⊎_elim (λ e. clash cc) (λ e. clash cc) x))
frees_is (live a v) = ((λ e. clash cc), (λ x. ⊎_elim (λ e. clash cc) (λ e. clash cc) x))

-- which slot a changed table has at j
pub by_put : {K W : Type 0} {A : Type 0} (t : Table K W) (i : ℕ) (s : Slot K W) (j : ℕ) → (j ≡ i → put t i s j ≡ s → A) → ((j ≡ i → ⊥) → put t i s j ≡ t j → A) → A
by_put t i s j here there = by_eq j i (λ q e. here q (rw q (put_same t i s))) (λ q e. there q (put_other t i s j q))

module _ {K W : Type 0} (E : Keys K) (k : K) where
  pub holds_live : (s : Slot K W) (v : W) → s ≡ live k v → holds E k s ≡ true
  unfolding holds
  holds_live s v e = rw e (E.self k)

  -- a slot that holds the key is live with it and some value
  pub holds_value : (s : Slot K W) → holds E k s ≡ true → (v : W) × (s ≡ live k v)
  unfolding holds
  holds_value never e = clash cc
  holds_value freed e = clash cc
  holds_value damaged e = clash cc
  holds_value (live a v) e = (v, ap (λ b. live b v) (sym (E.right k a e)))

  pub lacks : (s : Slot K W) → ((v : W) → s ≡ live k v → ⊥) → holds E k s ≡ false
  lacks s h = by_bool (holds E k s) (λ e. let (v, q) = holds_value s e in absurd (h v q)) (λ e. e)

  pub value_lacks : (s : Slot K W) (o : Option W) → holds E k s ≡ false → value_in E k s o ≡ o
  unfolding holds value_in
  value_lacks never o e = refl
  value_lacks freed o e = refl
  value_lacks damaged o e = refl
  value_lacks (live a v) o e = rw e

  value_holds : (s : Slot K W) (o : Option W) (v : W) → s ≡ live k v → value_in E k s o ≡ some v
  unfolding value_in
  value_holds s o v e = rw (e, E.self k)

  module _ (t : Table K W) where
    pub look_none : (n : ℕ) → ((i : ℕ) → i < n → holds E k (t i) ≡ false) → look E t n k ≡ none
    unfolding look
    look_none zero h = refl
    look_none (suc n) h = value_lacks (t n) (look E t n k) (h n (omega arith)) ∙ look_none n (λ i l. h i (omega arith))

    -- the last live slot with the key decides
    pub look_last : (n i : ℕ) (v : W) → i < n → t i ≡ live k v → ((j : ℕ) → i < j → j < n → holds E k (t j) ≡ false) → look E t n k ≡ some v
    unfolding look
    look_last zero i v l e h = let z : ⊥ = omega arith in absurd z
    look_last (suc n) i v l e h = by_lt i n
        (λ l' x. value_lacks (t n) (look E t n k) (h n l' (omega arith)) ∙ look_last n i v l' e (λ j a b. h j a (omega arith)))
        (λ l' x. let q : i ≡ n = omega arith in value_holds (t n) (look E t n k) v (rw q at e))

    pub look_some : (n : ℕ) (v : W) → look E t n k ≡ some v → (i : ℕ) × (i < n) × (t i ≡ live k v)
    unfolding look
    look_some zero v e = clash cc
    look_some (suc n) v e = by_bool (holds E k (t n))
        (λ p. let (w, q) = holds_value (t n) p in
        let r : some w ≡ some v = sym (value_holds (t n) (look E t n k) w q) ∙ e in
        (n, omega arith, q ∙ ap (λ x. live k x) cc))
        (λ p. let (i, l, q) = look_some n v (sym (value_lacks (t n) (look E t n k) p) ∙ e) in (i, omega arith, q))

    pub look_gone : (n i : ℕ) → look E t n k ≡ none → i < n → holds E k (t i) ≡ false
    unfolding look
    look_gone zero i e l = let z : ⊥ = omega arith in absurd z
    look_gone (suc n) i e l = by_bool (holds E k (t n))
        (λ p. let (w, q) = holds_value (t n) p in
        let r : some w ≡ none = sym (value_holds (t n) (look E t n k) w q) ∙ e in
        clash cc)
        (λ p. by_lt i n (λ l' x. look_gone n i (sym (value_lacks (t n) (look E t n k) p) ∙ e) l') (λ l' x. let q : i ≡ n = omega arith in rw q p))

module _ {K W : Type 0} (g : K → ℕ) where
  pub total_same : (t u : Table K W) (n : ℕ) → ((i : ℕ) → i < n → t i ≡ u i) → total g t n ≡ total g u n
  unfolding total
  total_same t u zero h = refl
  total_same t u (suc n) h = omega (arith, total_same t u n (λ i l. h i (omega arith)), ap (λ s. weigh g s) (h n (omega arith)))

  -- a changed slot changes the total by its weight
  pub total_put : (t : Table K W) (i : ℕ) (s : Slot K W) (n : ℕ) → i < n → total g (put t i s) n + weigh g (t i) ≡ total g t n + weigh g s
  unfolding total
  total_put t i s zero l = let z : ⊥ = omega arith in absurd z
  total_put t i s (suc n) l = by_lt i n
      (λ l' x. omega (arith, total_put t i s n l', ap (λ c. weigh g c) (put_other t i s n (omega arith))))
      (λ l' x. let q : i ≡ n = omega arith in
      let a : total g (put t i s) n ≡ total g t n = total_same (put t i s) t n (λ j b. put_other t i s j (omega arith)) in
      let c : put t i s n ≡ s = subst (λ j. put t i s j ≡ s) q (put_same t i s) in
      let d : weigh g (t i) ≡ weigh g (t n) = ap (λ j. weigh g (t j)) q in
      omega (arith, a, d, ap (λ c. weigh g c) c))

module _ {K W : Type 0} where
  weigh_one : (s : Slot K W) → weigh (λ k. 1) s ≤ 1
  unfolding weigh
  weigh_one never = omega arith
  weigh_one freed = omega arith
  weigh_one damaged = omega arith
  weigh_one (live a v) = omega arith

  pub count_high : (t : Table K W) (n : ℕ) → count t n ≤ n
  unfolding total
  count_high t zero = omega arith
  count_high t (suc n) = omega (arith, count_high t n, weigh_one (t n))

  live_weighs : (s : Slot K W) → weigh (λ k. 1) s ≡ 1 → (a : K) × (v : W) × (s ≡ live a v)
  unfolding weigh
  live_weighs never e = absurd (omega arith)
  live_weighs freed e = absurd (omega arith)
  live_weighs damaged e = absurd (omega arith)
  live_weighs (live a v) e = (a, v, refl)

  -- where the count is the number of slots, every slot is live
  pub count_full : (t : Table K W) (n : ℕ) → count t n ≡ n → (i : ℕ) → i < n → (a : K) × (v : W) × (t i ≡ live a v)
  unfolding total
  count_full t zero e i l = let z : ⊥ = omega arith in absurd z
  count_full t (suc n) e i l = by_lt i n
      (λ l' x. count_full t n (omega (arith, count_high t n, weigh_one (t n))) i l')
      (λ l' x. let q : i ≡ n = omega arith in rw q (live_weighs (t n) (omega (arith, count_high t n, weigh_one (t n)))))

  -- where no slot is free or damaged, the count is the number of slots
  pub full_count : (t : Table K W) (n : ℕ) → ((i : ℕ) → i < n → weigh (λ k. 1) (t i) ≡ 1) → count t n ≡ n
  unfolding total
  full_count t zero h = refl
  full_count t (suc n) h = omega (arith, full_count t n (λ i l. h i (omega arith)), h n (omega arith))

  hurts_not : (s : Slot K W) → (s ≡ damaged → ⊥) → is_damaged s ≡ false
  unfolding is_damaged
  hurts_not never h = refl
  hurts_not freed h = refl
  hurts_not damaged h = absurd (h refl)
  hurts_not (live a v) h = refl

  pub damaged_not : (t : Table K W) (n : ℕ) → ((i : ℕ) → i < n → t i ≡ damaged → ⊥) → any_damaged t n ≡ false
  unfolding any_damaged
  damaged_not t zero h = refl
  damaged_not t (suc n) h = rw (hurts_not (t n) (h n (omega arith))) (damaged_not t n (λ i l. h i (omega arith)))

  hurts_bad : (s : Slot K W) → s ≡ damaged → is_damaged s ≡ true
  unfolding is_damaged
  hurts_bad s e = rw e

  pub damaged_bad : (t : Table K W) (n i : ℕ) → i < n → t i ≡ damaged → any_damaged t n ≡ true
  unfolding any_damaged
  damaged_bad t zero i l e = let z : ⊥ = omega arith in absurd z
  damaged_bad t (suc n) i l e = by_lt i n
      (λ l' x. by_bool (is_damaged (t n)) (λ p. rw p) (λ p. rw p (damaged_bad t n i l' e)))
      (λ l' x. let q : i ≡ n = omega arith in rw (hurts_bad (t n) (rw q at e)))

  bad_hurts : (s : Slot K W) → is_damaged s ≡ true → s ≡ damaged
  unfolding is_damaged
  bad_hurts never e = clash cc
  bad_hurts freed e = clash cc
  bad_hurts damaged e = refl
  bad_hurts (live a v) e = clash cc

  pub damaged_where : (t : Table K W) (n : ℕ) → any_damaged t n ≡ true → (i : ℕ) × (i < n) × (t i ≡ damaged)
  unfolding any_damaged
  damaged_where t zero e = clash cc
  damaged_where t (suc n) e = by_bool (is_damaged (t n))
      (λ p. (n, omega arith, bad_hurts (t n) p))
      (λ p. let (i, l, q) = damaged_where t n (rw p at e) in (i, omega arith, q))
