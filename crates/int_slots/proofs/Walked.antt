-- How far a path has come, by the slot where it stands.
use Rattle.std.proofs.Common.{ℕ, ◌+◌, ◌<◌, ◌≡◌, arith, lt-ltb, le-ltb}
use Rattle.model.proofs.Cases.{by_lt}
use Rattle.kinds.specs.declared.Probed.TheVariants.{Free}
use Rattle.kinds.specs.Probing.{first_free, next_slot, ended}
use Rattle.int_slots.specs.Probing.{walked}

module _ (S h : ℕ) (inside : h < S) where
  pub walked_home : walked S h h ≡ 0
  unfolding walked
  walked_home = rw (le-ltb h h (omega arith)) (omega arith)

  pub walked_below : (s : ℕ) → s < S → walked S h s < S
  unfolding walked
  walked_below s l = by_lt s h (λ a e. rw e (omega arith)) (λ a e. rw e (omega arith))

  -- the next slot is one further, where it is not the home slot again
  pub walked_next : (s : ℕ) {t : ℕ} → s < S → t ≡ next_slot S s → (t ≡ h → ⊥) → walked S h t ≡ walked S h s + 1
  unfolding walked next_slot
  walked_next s {t} l q n = by_lt (s + 1) S
      (λ a e.
      let p : t ≡ s + 1 = rw e at q in
      by_lt s h
      (λ b f. by_lt (s + 1) h (λ c g. rw (p, f, g) (omega arith)) (λ c g. absurd (n (omega (arith, p)))))
      (λ b f. rw (p, f, le-ltb (s + 1) h (omega arith)) (omega arith)))
      (λ a e.
      let p : t ≡ 0 = rw e at q in
      by_lt 0 h
      (λ b f. by_lt s h (λ c g. let z : ⊥ = omega arith in absurd z) (λ c g. rw (p, f, g) (omega arith)))
      (λ b f. absurd (n (omega (arith, p)))))

  -- and else all slots were examined
  pub walked_last : (s : ℕ) {t : ℕ} → s < S → t ≡ next_slot S s → t ≡ h → walked S h s + 1 ≡ S
  unfolding walked next_slot
  walked_last s {t} l q n = by_lt (s + 1) S
      (λ a e. let p : t ≡ s + 1 = rw e at q in rw (lt-ltb s h (omega (arith, p, n))) (omega (arith, p, n)))
      (λ a e. let p : t ≡ 0 = rw e at q in rw (le-ltb s h (omega (arith, p, n))) (omega (arith, p, n)))

-- where a path comes to a slot that was never used, there is a free one
pub never_free : (S free : ℕ) {slot f e : ℕ} → slot < S → f ≡ first_free S free slot → Free f e ≡ ended S f e
unfolding first_free ended
never_free S free {slot} {f} l p = by_lt free S
    (λ a q. rw (p, q, lt-ltb free S a))
    (λ a q. rw (p, q, lt-ltb slot S l))
