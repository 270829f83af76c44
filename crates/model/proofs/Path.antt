-- Laws of the path: what `from` gives, that `at` visits each slot once, and that the path slot by slot is the path.
-- `from` gives the first number that passes a test. Four facts of it (at least the start, at most the end, none before passes, itself passes) give the other
-- laws with no induction of their own. The path slot by slot equals it by induction on the slots that are left, with the first free slot carried along.
use Prim.Native.Nat.{ℕ, zero, suc, ◌+◌, ◌-◌, ◌≤◌, ◌<◌}
use mathlib.Core.Bool.{Bool, true, false, cond}
use mathlib.Core.Path.{◌≡◌, refl, sym, ◌∙◌, ap, subst}
use native.Mathlib.Omega.{arith}
use borrow.Author.Tests.{lt-ltb, le-ltb}
use lib.Dec.{ltb}
use Rattle.model.specs.Slots.{Slot, never, freed, damaged, live, Table, Keys, frees}
use Rattle.model.specs.Path.{from, at, stops, Find, hit, miss, damage, ends, stop_at, free_at, find, first_free, on_slot, probe, examined}
use Rattle.model.proofs.Cases.{by_bool, by_lt, clash}

pub from_low : (f : ℕ → Bool) (g n : ℕ) → n ≤ from f g n
unfolding from
from_low f zero n = omega arith
from_low f (suc g) n = by_bool (f n) (λ e. rw e (omega arith)) (λ e. rw e (omega (arith, from_low f g (suc n))))

pub from_high : (f : ℕ → Bool) (g n : ℕ) → from f g n ≤ n + g
unfolding from
from_high f zero n = omega arith
from_high f (suc g) n = by_bool (f n) (λ e. rw e (omega arith)) (λ e. rw e (omega (arith, from_high f g (suc n))))

pub from_before : (f : ℕ → Bool) (g n m : ℕ) → n ≤ m → m < from f g n → f m ≡ false
unfolding from
from_before f zero n m l h = let z : ⊥ = omega arith in absurd z
from_before f (suc g) n m l h = by_bool (f n)
    (λ e. let z : ⊥ = omega (arith, rw e at h) in absurd z)
    (λ e. by_lt n m (λ l' x. from_before f g (suc n) m l' (rw e at h)) (λ l' x. let q : m ≡ n = omega arith in rw q e))

pub from_here : (f : ℕ → Bool) (g n : ℕ) → from f g n < n + g → f (from f g n) ≡ true
unfolding from
from_here f zero n h = let z : ⊥ = omega arith in absurd z
from_here f (suc g) n h = by_bool (f n) (λ e. rw (e, e)) (λ e. rw e (from_here f g (suc n) (omega (arith, rw e at h))))

pub from_unique : (f : ℕ → Bool) (g n r : ℕ) → n ≤ r → r ≤ n + g → ((m : ℕ) → n ≤ m → m < r → f m ≡ false) → (r < n + g → f r ≡ true) → from f g n ≡ r
unfolding from
from_unique f zero n r l u b h = omega arith
from_unique f (suc g) n r l u b h = by_bool (f n)
    (λ e. rw e (by_lt n r (λ l' x. let z : ◌≡◌ {A = Bool} true false = sym e ∙ b n (omega arith) l' in cc) (λ l' x. omega arith)))
    (λ e. rw e (by_lt n r
    (λ l' x. from_unique f g (suc n) r l' (omega arith) (λ m a c. b m (omega arith) c) (λ c. h (omega arith)))
    (λ l' x. let q : r ≡ n = omega arith in let z : ◌≡◌ {A = Bool} true false = sym (h (omega arith)) ∙ (rw q e) in cc)))

-- the place of slot i on the path from h
unfoldable pub place : ℕ → ℕ → ℕ → ℕ
place S h i = cond (ltb i h) (i + S - h) (i - h)

pub at_below : (S h n : ℕ) → h < S → n < S → at S h n < S
unfolding at
at_below S h n a b = by_lt (h + n) S (λ l e. rw e l) (λ l e. rw e (omega arith))

pub at_once : (S h n m : ℕ) → h < S → n < S → m < S → at S h n ≡ at S h m → n ≡ m
unfolding at
at_once S h n m a b c q = by_lt (h + n) S
    (λ l e. by_lt (h + m) S (λ l' e'. omega (arith, rw (e, e') at q)) (λ l' e'. omega (arith, rw (e, e') at q)))
    (λ l e. by_lt (h + m) S (λ l' e'. omega (arith, rw (e, e') at q)) (λ l' e'. omega (arith, rw (e, e') at q)))

pub place_below : (S h i : ℕ) → h < S → i < S → place S h i < S
unfolding place
place_below S h i a b = by_lt i h (λ l e. rw e (omega arith)) (λ l e. rw e (omega arith))

pub at_place : (S h i : ℕ) → h < S → i < S → at S h (place S h i) ≡ i
unfolding place at
at_place S h i a b = by_lt i h
    (λ l e. rw e (by_lt (h + (i + S - h)) S (λ l' e'. rw e' (omega arith)) (λ l' e'. rw e' (omega arith))))
    (λ l e. rw e (by_lt (h + (i - h)) S (λ l' e'. rw e' (omega arith)) (λ l' e'. rw e' (omega arith))))

-- at a slot that stops the path and is no hit, or is one
data Stopped {K W : Type 0} (E : Keys K) (k : K) (s : Slot K W) : Type 0 where
  on_never : s ≡ never → Stopped E k s
  on_bad : s ≡ damaged → Stopped E k s
  on_live : (v : W) → s ≡ live k v → Stopped E k s

stopped : {K W : Type 0} (E : Keys K) (k : K) (s : Slot K W) → stops E k s ≡ true → Stopped E k s
unfolding stops
stopped E k never e = on_never refl
stopped E k freed e = let z : ◌≡◌ {A = Bool} true false = cc in on_never cc
stopped E k damaged e = on_bad refl
stopped E k (live a v) e = on_live v (ap (λ b. live b v) (sym (E.right k a e)))

module _ {K W : Type 0} (E : Keys K) (S h : ℕ) (t : Table K W) (k : K) where
  pub stop_before : (m : ℕ) → m < stop_at E S h t k → stops E k (t (at S h m)) ≡ false
  unfolding stop_at
  stop_before m l = from_before (λ n. stops E k (t (at S h n))) S 0 m (omega arith) l

  pub stop_here : stop_at E S h t k < S → stops E k (t (at S h (stop_at E S h t k))) ≡ true
  unfolding stop_at
  stop_here l = from_here (λ n. stops E k (t (at S h n))) S 0 (omega arith)

  pub stop_high : stop_at E S h t k ≤ S
  unfolding stop_at
  stop_high = omega (arith, from_high (λ n. stops E k (t (at S h n))) S 0)

  pub stop_unique : (r : ℕ) → r ≤ S → ((m : ℕ) → m < r → stops E k (t (at S h m)) ≡ false) → (r < S → stops E k (t (at S h r)) ≡ true) → stop_at E S h t k ≡ r
  unfolding stop_at
  stop_unique r u b e = from_unique (λ n. stops E k (t (at S h n))) S 0 r (omega arith) (omega arith) (λ m l x. b m x) (λ l. e (omega arith))

  -- what the path found, with where it ended
  pub data Ended : Find W → Type 0 where
    ended_hit : (n : ℕ) (v : W) → n ≡ stop_at E S h t k → n < S → t (at S h n) ≡ live k v → Ended (hit n v)
    ended_never : (n : ℕ) → n ≡ stop_at E S h t k → n < S → t (at S h n) ≡ never → Ended (miss (suc n) (free_at S h t))
    ended_round : stop_at E S h t k ≡ S → Ended (miss S (free_at S h t))
    ended_bad : (n : ℕ) → n ≡ stop_at E S h t k → n < S → t (at S h n) ≡ damaged → Ended damage

  pub find_ended : Ended (find E S h t k)
  unfolding find ends
  find_ended = by_lt (stop_at E S h t k) S
      (λ l e. rw e (go l (t (at S h (stop_at E S h t k))) refl (stopped E k _ (stop_here l))))
      (λ l e. rw e (ended_round (omega (arith, stop_high))))
    where
      go : stop_at E S h t k < S → (s : Slot K W) → t (at S h (stop_at E S h t k)) ≡ s → Stopped E k s → Ended (ends (stop_at E S h t k) (free_at S h t) s)
      go l s q (on_never e) = rw e (ended_never (stop_at E S h t k) refl l (q ∙ e))
      go l s q (on_bad e) = rw e (ended_bad (stop_at E S h t k) refl l (q ∙ e))
      go l s q (on_live v e) = rw e (ended_hit (stop_at E S h t k) v refl l (q ∙ e))

  pub hit_at : (n : ℕ) (v : W) → find E S h t k ≡ hit n v → (n < S) × (t (at S h n) ≡ live k v)
  hit_at n v e = go n v (subst Ended e find_ended)
    where
      go : (n : ℕ) (v : W) → Ended (hit n v) → (n < S) × (t (at S h n) ≡ live k v)
      go n v (ended_hit x w q l p) = (l, p)

  pub hit_examined : (n : ℕ) (v : W) → find E S h t k ≡ hit n v → examined E S h t k ≡ suc n
  unfolding examined
  hit_examined n v e = go n v (subst Ended e find_ended)
    where
      go : (n : ℕ) (v : W) → Ended (hit n v) → cond (ltb (stop_at E S h t k) S) (suc (stop_at E S h t k)) S ≡ suc n
      go n v (ended_hit x w q l p) = rw (← q, lt-ltb n S l)

  pub miss_free : (e f : ℕ) → find E S h t k ≡ miss e f → f ≡ free_at S h t
  miss_free e f q = go e f (subst Ended q find_ended)
    where
      go : (e f : ℕ) → Ended (miss e f) → f ≡ free_at S h t
      go e f (ended_never n x l p) = refl
      go e f (ended_round x) = refl

  pub miss_examined : (e f : ℕ) → find E S h t k ≡ miss e f → examined E S h t k ≡ e
  unfolding examined
  miss_examined e f q = go e f (subst Ended q find_ended)
    where
      go : (e f : ℕ) → Ended (miss e f) → cond (ltb (stop_at E S h t k) S) (suc (stop_at E S h t k)) S ≡ e
      go e f (ended_never n x l p) = rw (← x, lt-ltb n S l)
      go e f (ended_round x) = rw (x, le-ltb S S (omega arith))

  pub hurt_at : find E S h t k ≡ damage → (n : ℕ) × (n < S) × (t (at S h n) ≡ damaged)
  hurt_at e = go (subst Ended e find_ended)
    where
      go : Ended damage → (n : ℕ) × (n < S) × (t (at S h n) ≡ damaged)
      go (ended_bad n q l p) = (n, l, p)

  -- a path that found nothing and no free slot went round
  pub miss_round : (e f : ℕ) → find E S h t k ≡ miss e f → S ≤ f → stop_at E S h t k ≡ S
  unfolding free_at frees
  miss_round e f q u = go e f u (subst Ended q find_ended)
    where
      go : (e f : ℕ) → S ≤ f → Ended (miss e f) → stop_at E S h t k ≡ S
      go e f u (ended_never n x l p) = by_lt n (free_at S h t)
          (λ c y. let z : ◌≡◌ {A = Bool} true false = sym (ap frees p) ∙ from_before (λ m. frees (t (at S h m))) S 0 n (omega arith) c in cc)
          (λ c y. let z : ⊥ = omega arith in absurd z)
      go e f u (ended_round x) = x

  pub examined_low : 0 < S → 0 < examined E S h t k
  unfolding examined
  examined_low l = by_lt (stop_at E S h t k) S (λ x e. rw e (omega arith)) (λ x e. rw e l)

  pub examined_high : examined E S h t k ≤ S
  unfolding examined
  examined_high = by_lt (stop_at E S h t k) S (λ x e. rw e x) (λ x e. rw e (omega arith))

  -- a key n places from home, with nothing before it that ends the path, is found there
  pub find_hit : (n : ℕ) (v : W) → n < S → t (at S h n) ≡ live k v → ((m : ℕ) → m < n → stops E k (t (at S h m)) ≡ false) → find E S h t k ≡ hit n v
  unfolding find ends stops
  find_hit n v l p b =
      let q : stop_at E S h t k ≡ n = stop_unique n (omega arith) b (λ x. rw p (E.self k)) in
      rw (q, lt-ltb n S l, p)

  pub find_never : (n : ℕ) → n < S → t (at S h n) ≡ never → ((m : ℕ) → m < n → stops E k (t (at S h m)) ≡ false) → find E S h t k ≡ miss (suc n) (free_at S h t)
  unfolding find ends stops
  find_never n l p b =
      let q : stop_at E S h t k ≡ n = stop_unique n (omega arith) b (λ x. rw p) in
      rw (q, lt-ltb n S l, p)

  pub find_bad : (n : ℕ) → n < S → t (at S h n) ≡ damaged → ((m : ℕ) → m < n → stops E k (t (at S h m)) ≡ false) → find E S h t k ≡ damage
  unfolding find ends stops
  find_bad n l p b =
      let q : stop_at E S h t k ≡ n = stop_unique n (omega arith) b (λ x. rw p) in
      rw (q, lt-ltb n S l, p)

  pub find_round : ((m : ℕ) → m < S → stops E k (t (at S h m)) ≡ false) → find E S h t k ≡ miss S (free_at S h t)
  unfolding find
  find_round b =
      let q : stop_at E S h t k ≡ S = stop_unique S (omega arith) b (λ x. let z : ⊥ = omega arith in absurd z) in
      rw (q, le-ltb S S (omega arith))

  -- an examined slot that stops the path is where it ended
  pub examined_stop : (j : ℕ) → j < examined E S h t k → stops E k (t (at S h j)) ≡ true → (j ≡ stop_at E S h t k) × (stop_at E S h t k < S)
  unfolding examined
  examined_stop j l e = by_lt (stop_at E S h t k) S
      (λ c x. by_lt j (stop_at E S h t k)
      (λ d y. let z : ◌≡◌ {A = Bool} true false = sym e ∙ stop_before j d in clash cc)
      (λ d y. (omega (arith, rw x at l), c)))
      (λ c x. let z : ◌≡◌ {A = Bool} true false = sym e ∙ stop_before j (omega (arith, rw x at l)) in clash cc)

module _ {K W : Type 0} (S h : ℕ) (t : Table K W) where
  pub free_before : (m : ℕ) → m < free_at S h t → frees (t (at S h m)) ≡ false
  unfolding free_at
  free_before m l = from_before (λ n. frees (t (at S h n))) S 0 m (omega arith) l

  pub free_here : free_at S h t < S → frees (t (at S h (free_at S h t))) ≡ true
  unfolding free_at
  free_here l = from_here (λ n. frees (t (at S h n))) S 0 (omega arith)

  pub free_high : free_at S h t ≤ S
  unfolding free_at
  free_high = omega (arith, from_high (λ n. frees (t (at S h n))) S 0)

  pub free_unique : (r : ℕ) → r ≤ S → ((m : ℕ) → m < r → frees (t (at S h m)) ≡ false) → (r < S → frees (t (at S h r)) ≡ true) → free_at S h t ≡ r
  unfolding free_at
  free_unique r u b e = from_unique (λ n. frees (t (at S h n))) S 0 r (omega arith) (omega arith) (λ m l x. b m x) (λ l. e (omega arith))

-- the first free place among the first n, where f is S when there is none
pub data Sofar {K W : Type 0} (S h : ℕ) (t : Table K W) (n f : ℕ) : Type 0 where
  known : f < n → frees (t (at S h f)) ≡ true → ((m : ℕ) → m < f → frees (t (at S h m)) ≡ false) → Sofar S h t n f
  unknown : f ≡ S → ((m : ℕ) → m < n → frees (t (at S h m)) ≡ false) → Sofar S h t n f

module _ {K W : Type 0} (E : Keys K) (S h : ℕ) (t : Table K W) (k : K) where
  -- what holds below n and at n holds below suc n
  upto : {P : ℕ → Type 0} (n : ℕ) → ((m : ℕ) → m < n → P m) → P n → (m : ℕ) → m < suc n → P m
  upto {P} n b p m l = by_lt m n (λ l' x. b m l') (λ l' x. let q : m ≡ n = omega arith in subst (λ j. P j) (sym q) p)

  sofar_end : (n f : ℕ) → n ≤ S → Sofar S h t n f → frees (t (at S h n)) ≡ true → n < S → first_free S f n ≡ free_at S h t
  unfolding first_free
  sofar_end n f u (known l e b) p c = rw (lt-ltb f S (omega arith), free_unique S h t f (omega arith) b (λ x. e))
  sofar_end n f u (unknown q b) p c = rw (q, le-ltb S S (omega arith), free_unique S h t n u b (λ x. p))

  sofar_round : (f : ℕ) → Sofar S h t S f → f ≡ free_at S h t
  sofar_round f (known l e b) = sym (free_unique S h t f (omega arith) b (λ x. e))
  sofar_round f (unknown q b) = q ∙ sym (free_unique S h t S (omega arith) b (λ x. let z : ⊥ = omega arith in absurd z))

  sofar_freed : (n f : ℕ) → n < S → Sofar S h t n f → frees (t (at S h n)) ≡ true → Sofar S h t (suc n) (first_free S f n)
  unfolding first_free
  sofar_freed n f u (known l e b) p = rw (lt-ltb f S (omega arith)) (known (omega arith) e b)
  sofar_freed n f u (unknown q b) p = rw (q, le-ltb S S (omega arith)) (known (omega arith) p b)

  sofar_live : (n f : ℕ) → Sofar S h t n f → frees (t (at S h n)) ≡ false → Sofar S h t (suc n) f
  sofar_live n f (known l e b) p = known (omega arith) e b
  sofar_live n f (unknown q b) p = unknown q (upto n b p)

  -- one slot of the path, where the rest is the path
  probe_slot : (n f : ℕ) → n < S → ((m : ℕ) → m < n → stops E k (t (at S h m)) ≡ false) → Sofar S h t n f → (rest : ℕ → Find W) → ((r : ℕ) → stops E k (t (at S h n)) ≡ false → Sofar S h t (suc n) r → rest r ≡ find E S h t k) → (c : Slot K W) → t (at S h n) ≡ c → on_slot E S k n f c rest ≡ find E S h t k
  unfolding on_slot stops frees
  probe_slot n f l b s rest next never e = rw (find_never E S h t k n l e b, sofar_end n f (omega arith) s (rw e) l)
  probe_slot n f l b s rest next freed e = next (first_free S f n) (rw e) (sofar_freed n f l s (rw e))
  probe_slot n f l b s rest next damaged e = rw (find_bad E S h t k n l e b)
  probe_slot n f l b s rest next (live a v) e = by_bool (E.same k a)
      (λ p. rw p (rw (find_hit E S h t k n v l (e ∙ ap (λ c. live c v) (sym (E.right k a p))) b)))
      (λ p. rw p (next f (rw e p) (sofar_live n f s (rw e))))

  -- the rest of the path, slot by slot, is the path
  pub probe_rest : (g n f : ℕ) → n + g ≡ S → ((m : ℕ) → m < n → stops E k (t (at S h m)) ≡ false) → Sofar S h t n f → probe E S h t k g n f ≡ find E S h t k
  unfolding probe
  probe_rest zero n f q b s =
      let e : n ≡ S = omega arith in
      let b' : (m : ℕ) → m < S → stops E k (t (at S h m)) ≡ false = λ m l. b m (omega arith) in
      let s' : Sofar S h t S f = subst (λ j. Sofar S h t j f) e s in
      rw (find_round E S h t k b', e, sofar_round f s')
  probe_rest (suc g) n f q b s =
      probe_slot n f (omega arith) b s (λ r. probe E S h t k g (suc n) r) (λ r p s'. probe_rest g (suc n) r (omega arith) (upto n b p) s') (t (at S h n)) refl

  -- the path slot by slot, from its start, is the path
  pub probe_find : probe E S h t k S 0 S ≡ find E S h t k
  probe_find = probe_rest S 0 S (omega arith) (λ m l. let z : ⊥ = omega arith in absurd z) (unknown refl (λ m l. let z : ⊥ = omega arith in absurd z))
