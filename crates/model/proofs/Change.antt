-- What a changed slot does to the map of a sound table: only the changed key is looked up differently.
use Prim.Native.Nat.{ℕ, zero, suc, ◌<◌}
use mathlib.Core.Bool.{true, false, cond}
use mathlib.Core.Path.{◌≡◌, refl, sym, ◌∙◌, ap, ap₂}
use mathlib.Core.Option.{none, some}
use Rattle.model.specs.Slots.{Slot, never, freed, damaged, live, Table, Keys, put, frees, holds, value_in, look}
use Rattle.model.specs.Path.{at, free_at}
use Rattle.model.specs.Sound.{SoundSlots}
use Rattle.model.proofs.Cases.{by_same, clash}
use Rattle.model.proofs.Slots.{put_same, by_put, lacks, value_lacks, look_none}
use Rattle.model.proofs.Path.{at_below, free_here}
use Rattle.model.proofs.Sound.{sound_look, fresh_sound, replaced_sound}

module _ {K W : Type 0} (E : Keys K) where
  -- a slot changed between two slots that lack the key changes nothing for it
  pub look_other : (a : K) (t : Table K W) (i : ℕ) (s : Slot K W) (n : ℕ) → holds E a s ≡ false → holds E a (t i) ≡ false → look E (put t i s) n a ≡ look E t n a
  unfolding look
  look_other a t i s zero p q = refl
  look_other a t i s (suc n) p q = by_put t i s n
      (λ e r. value_lacks E a (put t i s n) (look E (put t i s) n a) (ap (λ c. holds E a c) r ∙ p) ∙ look_other a t i s n p q ∙ sym (value_lacks E a (t n) (look E t n a) (rw e q)))
      (λ e r. ap₂ (λ c o. value_in E a c o) r (look_other a t i s n p q))

  frees_lacks : (a : K) (s : Slot K W) → frees s ≡ true → holds E a s ≡ false
  unfolding frees holds
  frees_lacks a never e = refl
  frees_lacks a freed e = refl
  frees_lacks a damaged e = refl
  frees_lacks a (live x v) e = clash cc

  -- a slot live with k lacks every other key
  live_lacks : (k a : K) (s : Slot K W) (v : W) → s ≡ live k v → E.same a k ≡ false → holds E a s ≡ false
  unfolding holds
  live_lacks k a s v e h = rw e h

  -- a freed slot takes its key out of the map, where each live key stands once
  pub removed_look : (S : ℕ) (t : Table K W) → ((i j : ℕ) (k : K) (v w : W) → i < S → j < S → t i ≡ live k v → t j ≡ live k w → i ≡ j) → (k : K) (i : ℕ) (w : W) → i < S → t i ≡ live k w → (a : K) → look E (put t i freed) S a ≡ cond (E.same a k) none (look E t S a)
  unfolding holds
  removed_look S t once k i w l e a = by_same E a k
      (λ q p. rw (p, q) (look_none E k (put t i freed) S (λ j b. by_put t i freed j
      (λ x r. rw r)
      (λ x r. rw r (lacks E k (t j) (λ y c. x (once j i k y w b l c e)))))))
      (λ p. rw p (look_other a t i freed S refl (live_lacks k a (t i) w e p)))

  module _ (S : ℕ) (home : K → ℕ) (homes : (k : K) → home k < S) (t : Table K W) (o : SoundSlots S home t) (k : K) where
    pub fresh_look : (v : W) → look E t S k ≡ none → free_at S (home k) t < S → (a : K) → look E (put t (at S (home k) (free_at S (home k) t)) (live k v)) S a ≡ cond (E.same a k) (some v) (look E t S a)
    fresh_look v e l a =
        let i : ℕ = at S (home k) (free_at S (home k) t) in
        by_same E a k
        (λ q p. rw (p, q) (sound_look E S home homes (put t i (live k v)) (fresh_sound E S home homes t o k v e l) k i v (at_below S (home k) (free_at S (home k) t) (homes k) l) (put_same t i (live k v))))
        (λ p. rw p (look_other a t i (live k v) S (live_lacks k a (live k v) v refl p) (frees_lacks a (t i) (free_here S (home k) t l))))

    pub replaced_look : (i : ℕ) (v w : W) → i < S → t i ≡ live k w → (a : K) → look E (put t i (live k v)) S a ≡ cond (E.same a k) (some v) (look E t S a)
    replaced_look i v w l e a = by_same E a k
        (λ q p. rw (p, q) (sound_look E S home homes (put t i (live k v)) (replaced_sound E S home homes t o k i v w l e) k i v l (put_same t i (live k v))))
        (λ p. rw p (look_other a t i (live k v) S (live_lacks k a (live k v) v refl p) (live_lacks k a (t i) w e p)))
