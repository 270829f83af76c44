-- Laws of sound tables: the path finds what is there, and changed slots keep a table sound.
use Prim.Native.Nat.{ℕ, ◌≤◌, ◌<◌}
use mathlib.Core.Bool.{Bool, true, false}
use mathlib.Core.Path.{◌≡◌, refl, sym, ◌∙◌, ap, subst}
use mathlib.Core.Option.{Option, none, some}
use native.Mathlib.Omega.{arith}
use Rattle.model.specs.Slots.{Slot, never, freed, damaged, live, Table, Keys, put, made, frees, weigh, count, look}
use Rattle.model.specs.Path.{at, stops, Find, hit, miss, damage, free_at, find, examined}
use Rattle.model.specs.Sound.{SoundSlots}
use Rattle.model.proofs.Cases.{by_bool, clash}
use Rattle.model.proofs.Path.{place, at_below, at_once, at_place, place_below, hit_at, hurt_at, miss_round, miss_free, miss_examined, find_hit, free_before, free_unique, stop_before}
use Rattle.model.proofs.Slots.{by_put, holds_live, lacks, look_last, look_some, look_gone, count_full, full_count}

pub made_sound : {K W : Type 0} (S : ℕ) (home : K → ℕ) → SoundSlots {W = W} S home made
unfolding made
made_sound {K} {W} S home = record {
  whole = λ i l e. clash cc;
  once = λ i j k v w a b p q. clash cc;
  reach = λ k v n m a b p q. clash cc;
}

stops_not : {K W : Type 0} (E : Keys K) (k : K) (s : Slot K W) → (s ≡ never → ⊥) → (s ≡ damaged → ⊥) → ((v : W) → s ≡ live k v → ⊥) → stops E k s ≡ false
unfolding stops
stops_not E k never a b c = absurd (a refl)
stops_not E k freed a b c = refl
stops_not E k damaged a b c = absurd (b refl)
stops_not E k (live x v) a b c = by_bool (E.same k x) (λ e. absurd (c v (ap (λ y. live y v) (sym (E.right k x e))))) (λ e. e)

-- where each live key stands once, its value in the map is that of its slot
pub once_look : {K W : Type 0} (E : Keys K) (S : ℕ) (t : Table K W) → ((i j : ℕ) (k : K) (v w : W) → i < S → j < S → t i ≡ live k v → t j ≡ live k w → i ≡ j) → (k : K) (i : ℕ) (v : W) → i < S → t i ≡ live k v → look E t S k ≡ some v
once_look E S t once k i v l e = look_last E k t S i v l e (λ j a b. lacks E k (t j) (λ w q. let z : i ≡ j = once i j k v w l b e q in absurd (omega arith)))

module _ {K W : Type 0} (E : Keys K) (S : ℕ) (home : K → ℕ) (homes : (k : K) → home k < S) (t : Table K W) (s : SoundSlots S home t) where
  pub sound_look : (k : K) (i : ℕ) (v : W) → i < S → t i ≡ live k v → look E t S k ≡ some v
  sound_look k i v l e = once_look E S t s.once k i v l e

  -- a live key is found where it is
  pub sound_hit : (k : K) (i : ℕ) (v : W) → i < S → t i ≡ live k v → find E S (home k) t k ≡ hit (place S (home k) i) v
  sound_hit k i v l e =
      let p : t (at S (home k) (place S (home k) i)) ≡ live k v = rw (at_place S (home k) i (homes k) l) e in
      let n = place_below S (home k) i (homes k) l in
      find_hit E S (home k) t k (place S (home k) i) v n p
      (λ m b. stops_not E k (t (at S (home k) m))
      (λ q. s.reach k v (place S (home k) i) m n b p q)
      (λ q. s.whole (at S (home k) m) (at_below S (home k) m (homes k) (omega arith)) q)
      (λ w q. let z = s.once (at S (home k) m) (at S (home k) (place S (home k) i)) k w v (at_below S (home k) m (homes k) (omega arith)) (at_below S (home k) (place S (home k) i) (homes k) n) q p in
      absurd (omega (arith, at_once S (home k) m (place S (home k) i) (homes k) (omega arith) n z))))

  -- a key of the map is found with its value
  pub sound_found : (k : K) (v : W) → look E t S k ≡ some v → (n : ℕ) × (find E S (home k) t k ≡ hit n v)
  sound_found k v e = let (i, l, q) = look_some E k t S v e in (place S (home k) i, sound_hit k i v l q)

  -- what is found is in the map
  pub sound_here : (k : K) (n : ℕ) (v : W) → find E S (home k) t k ≡ hit n v → look E t S k ≡ some v
  sound_here k n v e = let (l, q) = hit_at E S (home k) t k n v e in sound_look k (at S (home k) n) v (at_below S (home k) n (homes k) l) q

  -- a sound table's path meets no damage
  pub sound_whole : (k : K) → find E S (home k) t k ≡ damage → ⊥
  sound_whole k e = let (n, l, q) = hurt_at E S (home k) t k e in s.whole (at S (home k) n) (at_below S (home k) n (homes k) l) q

  -- a key that the map lacks is missed, with the path's own number and the first free place
  pub sound_miss : (k : K) → look E t S k ≡ none → find E S (home k) t k ≡ miss (examined E S (home k) t k) (free_at S (home k) t)
  sound_miss k e = go (find E S (home k) t k) refl
    where
      go : (r : Find W) → find E S (home k) t k ≡ r → find E S (home k) t k ≡ miss (examined E S (home k) t k) (free_at S (home k) t)
      go (hit n v) q = let p : some v ≡ none = sym (sound_here k n v q) ∙ e in clash cc
      go (miss x f) q = rw (miss_examined E S (home k) t k x f q, ← miss_free E S (home k) t k x f q) q
      go damage q = absurd (sound_whole k q)

  -- what is missed is not in the map
  pub sound_gone : (k : K) (e f : ℕ) → find E S (home k) t k ≡ miss e f → look E t S k ≡ none
  sound_gone k e f q = go (look E t S k) refl
    where
      go : (o : Option W) → look E t S k ≡ o → look E t S k ≡ none
      go none p = p
      go (some v) p = let (n, r) = sound_found k v p in clash cc

-- what a slot that neither ends a path nor is free weighs
live_one : {K W : Type 0} (E : Keys K) (k : K) (s : Slot K W) → stops E k s ≡ false → frees s ≡ false → weigh (λ k. 1) s ≡ 1
unfolding stops frees weigh
live_one E k never a b = clash cc
live_one E k freed a b = clash cc
live_one E k damaged a b = clash cc
live_one E k (live x v) a b = refl

live_frees : {K W : Type 0} (s : Slot K W) (a : K) (v : W) → s ≡ live a v → frees s ≡ false
unfolding frees
live_frees s a v e = rw e

-- on any table: no free slot on the path of an absent key is every slot live
module _ {K W : Type 0} (E : Keys K) (S h : ℕ) (inside : h < S) (t : Table K W) (k : K) where
  pub no_free_full : (e f : ℕ) → find E S h t k ≡ miss e f → S ≤ f → count t S ≡ S
  no_free_full e f q u = full_count t S (λ i l.
      let r = miss_round E S h t k e f q u in
      let m : free_at S h t ≡ f = sym (miss_free E S h t k e f q) in
      let p = place_below S h i inside l in
      subst (λ j. weigh (λ x. 1) (t j) ≡ 1) (at_place S h i inside l)
      (live_one E k (t (at S h (place S h i))) (stop_before E S h t k (place S h i) (omega (arith, r))) (free_before S h t (place S h i) (omega (arith, m)))))

  pub full_no_free : count t S ≡ S → free_at S h t ≡ S
  full_no_free e = free_unique S h t S (omega arith)
      (λ m l. let (a, v, q) = count_full t S e (at S h m) (at_below S h m inside l) in live_frees (t (at S h m)) a v q)
      (λ l. let z : ⊥ = omega arith in absurd z)

-- a slot put into a sound table keeps it sound, where it is neither 0 nor damaged, its key stands nowhere else, and no mark 0 stands before it on its path
pub sound_put : {K W : Type 0} (S : ℕ) (home : K → ℕ) (homes : (k : K) → home k < S) (t : Table K W) → SoundSlots S home t → (i : ℕ) → i < S → (s : Slot K W) → (s ≡ never → ⊥) → (s ≡ damaged → ⊥) → ((k : K) (v : W) → s ≡ live k v → (j : ℕ) → j < S → (j ≡ i → ⊥) → (w : W) → t j ≡ live k w → ⊥) → ((k : K) (v : W) → s ≡ live k v → (n m : ℕ) → n < S → at S (home k) n ≡ i → m < n → t (at S (home k) m) ≡ never → ⊥) → SoundSlots S home (put t i s)
sound_put {K} {W} S home homes t o i l s not-never not-bad alone clear = record {
  whole = λ j b e. by_put t i s j (λ q p. not-bad (sym p ∙ e)) (λ q p. o.whole j b (sym p ∙ e));
  once = λ j m k v w b c e f. by_put t i s j
      (λ q p. by_put t i s m (λ q' p'. q ∙ sym q') (λ q' p'. absurd (alone k v (sym p ∙ e) m c q' w (sym p' ∙ f))))
      (λ q p. by_put t i s m (λ q' p'. absurd (alone k w (sym p' ∙ f) j b q v (sym p ∙ e))) (λ q' p'. o.once j m k v w b c (sym p ∙ e) (sym p' ∙ f)));
  reach = λ k v n m a b e f. by_put t i s (at S (home k) m)
      (λ q p. not-never (sym p ∙ f))
      (λ q p. by_put t i s (at S (home k) n)
      (λ q' p'. clear k v (sym p' ∙ e) n m a q' b (sym p ∙ f))
      (λ q' p'. o.reach k v n m a b (sym p' ∙ e) (sym p ∙ f)));
}

-- the three changes that calls make: fresh, replaced, removed
module _ {K W : Type 0} (E : Keys K) (S : ℕ) (home : K → ℕ) (homes : (k : K) → home k < S) (t : Table K W) (o : SoundSlots S home t) (k : K) where
  pub fresh_sound : (v : W) → look E t S k ≡ none → free_at S (home k) t < S → SoundSlots S home (put t (at S (home k) (free_at S (home k) t)) (live k v))
  unfolding frees
  fresh_sound v e l = sound_put S home homes t o (at S (home k) (free_at S (home k) t)) (at_below S (home k) (free_at S (home k) t) (homes k) l) (live k v)
      (λ q. clash cc)
      (λ q. clash cc)
      (λ a x q j b c w p. let r : k ≡ a = cc in
      let z : ◌≡◌ {A = Bool} true false = sym (holds_live E k (t j) w (p ∙ ap (λ y. live y w) (sym r))) ∙ look_gone E k t S j e b in
      clash cc)
      (λ a x q n m b c d p. let r : k ≡ a = cc in
      let c' : at S (home k) n ≡ at S (home k) (free_at S (home k) t) = subst (λ x. at S (home x) n ≡ at S (home k) (free_at S (home k) t)) (sym r) c in
      let n' : n ≡ free_at S (home k) t = at_once S (home k) n (free_at S (home k) t) (homes k) b l c' in
      let p' : t (at S (home k) m) ≡ never = rw r p in
      let z : ◌≡◌ {A = Bool} true false = sym (ap frees p') ∙ free_before S (home k) t m (omega arith) in
      clash cc)

  pub replaced_sound : (i : ℕ) (v w : W) → i < S → t i ≡ live k w → SoundSlots S home (put t i (live k v))
  replaced_sound i v w l e = sound_put S home homes t o i l (live k v)
      (λ q. clash cc)
      (λ q. clash cc)
      (λ a x q j b c y p. let r : k ≡ a = cc in c (o.once j i k y w b l (p ∙ ap (λ z. live z y) (sym r)) e))
      (λ a x q n m b c d p. let r : k ≡ a = cc in o.reach a w n m b d ((rw c e) ∙ ap (λ z. live z w) r) p)

  pub removed_sound : (i : ℕ) → i < S → SoundSlots S home (put t i freed)
  removed_sound i l = sound_put S home homes t o i l freed
      (λ q. clash cc)
      (λ q. clash cc)
      (λ a x q j b c y p. clash cc)
      (λ a x q n m b c d p. clash cc)
