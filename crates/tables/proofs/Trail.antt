-- The probing loop, slot by slot, is the path; and what each look at a slot says of the rest.
use Rattle.std.specs.Prelude.{Result, Ok, Err, Option, Some, None}
use Rattle.std.specs.Option.{unwrap_or, option_or}
use Rattle.std.proofs.Common.{ℕ, zero, suc, ◌+◌, ◌-◌, ◌≤◌, ◌<◌, cond, ◌≡◌, refl, ap, ◌∙◌, lt-ltb, le-ltb, ltb}
use native.Mathlib.Numerals.{add-one}
use native.Mathlib.Omega.{arith}
use Rattle.model.specs.Slots.{Slot, never, freed, damaged, live, Table, Keys}
use Rattle.model.specs.Path as path
use Rattle.model.specs.Store.{Store, path}
use Rattle.model.proofs.Cases.{by_bool, by_lt}
use Rattle.model.proofs.Path.{probe_find}
use Rattle.answers.specs.declared.Refusal.{Refusal}
use Rattle.kinds.specs.declared.Probed.{Probed}
use Rattle.kinds.specs.declared.Probed.TheVariants.{Hit, Free}
use Rattle.kinds.specs.declared.Sight.{Sight}
use Rattle.kinds.specs.declared.Sight.TheVariants.{Never, Freed, Same, Other}
use Rattle.kinds.specs.Probing.{look_at, next_slot, along}
use Rattle.tables.specs.Reading.{ended, probing}

-- one slot of the loop, by the look at it: an answer, or the rest with the first free slot so far
unfoldable pub on_sight : ℕ → ℕ → Option ℕ → Result Sight Refusal → (Option ℕ → Result Probed Refusal) → Result Probed Refusal
on_sight slot n free (Ok Never) rest = Ok (Free (unwrap_or free slot) (suc n))
on_sight slot n free (Ok Freed) rest = rest (Some (unwrap_or free slot))
on_sight slot n free (Ok Same) rest = Ok (Hit slot (suc n))
on_sight slot n free (Ok Other) rest = rest free
on_sight slot n free (Err r) rest = Err r

-- std's choice of the first of two
first_of : (free : Option ℕ) (slot : ℕ) → option_or free (Some slot) ≡ Some (unwrap_or free slot)
first_of (Some f) slot = refl
first_of None slot = refl

-- the loop from a slot on: g slots are left, n were examined
unfoldable pub trail : {K W : Type 0} → Keys K → Table K W → ℕ → K → ℕ → ℕ → ℕ → Option ℕ → Result Probed Refusal
trail E t S k zero slot n free = Ok (ended free n)
trail E t S k (suc g) slot n free = on_sight slot n free (look_at E k (t slot)) (λ f. trail E t S k g (next_slot S slot) (suc n) f)

-- the slot of the first free place, where there is one
unfoldable slot_free : ℕ → ℕ → ℕ → Option ℕ
slot_free S h f = cond (ltb f S) (Some (path.at S h f)) None

module _ (S h : ℕ) (inside : h < S) where
  at_start : path.at S h 0 ≡ h
  unfolding path.at
  at_start = let e : h + 0 ≡ h = omega arith in rw (e, lt-ltb h S inside)

  at_next : (n : ℕ) → n < S → next_slot S (path.at S h n) ≡ path.at S h (suc n)
  unfolding path.at next_slot
  at_next n l = by_lt (h + n) S
      (λ a e. rw e (by_lt (h + n + 1) S
      (λ b d. rw (d, lt-ltb (h + suc n) S (omega arith)) (omega arith))
      (λ b d. rw (d, le-ltb (h + suc n) S (omega arith)) (omega arith))))
      (λ a e. rw (e, lt-ltb (h + n - S + 1) S (omega arith), le-ltb (h + suc n) S (omega arith)) (omega arith))

  free_end : (W : Type 0) (f e : ℕ) → Ok (ended (slot_free S h f) e) ≡ along {W = W} S h (path.miss e f)
  unfolding slot_free ended along
  free_end W f e = by_bool (ltb f S) (λ q. rw q) (λ q. rw q)

  free_first : (f n : ℕ) → n < S → Some (unwrap_or (slot_free S h f) (path.at S h n)) ≡ slot_free S h (path.first_free S f n)
  unfolding slot_free path.first_free
  free_first f n l = by_bool (ltb f S) (λ q. rw (q, q)) (λ q. rw (q, lt-ltb n S l))

  never_end : (W : Type 0) (f n : ℕ) → n < S → Ok (Free (unwrap_or (slot_free S h f) (path.at S h n)) (suc n)) ≡ along {W = W} S h (path.miss (suc n) (path.first_free S f n))
  unfolding ended
  never_end W f n l = ap (λ o. Ok (ended o (suc n))) (free_first f n l) ∙ free_end W (path.first_free S f n) (suc n)

  module _ {K W : Type 0} where
    module _ (E : Keys K) (k : K) where
      one_slot : (n f : ℕ) → n < S → (s : Slot K W) (r : Option ℕ → Result Probed Refusal) (q : ℕ → path.Find W)
          → ((x : ℕ) → r (slot_free S h x) ≡ along S h (q x))
          → on_sight (path.at S h n) n (slot_free S h f) (look_at E k s) r ≡ along S h (path.on_slot E S k n f s q)
      unfolding look_at on_sight path.on_slot along
      one_slot n f l never r q e = never_end W f n l
      one_slot n f l (live held v) r q e = by_bool (E.same k held) (λ p. rw p) (λ p. rw p (e f))
      one_slot n f l freed r q e = rw (free_first f n l) (e (path.first_free S f n))
      one_slot n f l damaged r q e = refl

      module _ (t : Table K W) where
        rest : (g n f : ℕ) → n + g ≡ S → trail E t S k g (path.at S h n) n (slot_free S h f) ≡ along S h (path.probe E S h t k g n f)
        unfolding trail path.probe
        rest zero n f e = free_end W f n
        rest (suc g) n f e = one_slot n f (omega arith) (t (path.at S h n)) _ _
            (λ x. rw (at_next n (omega arith)) (rest g (suc n) x (omega arith)))

        -- the loop from the home slot is the path
        trail_find : trail E t S k S h 0 None ≡ along S h (path.find E S h t k)
        unfolding slot_free
        trail_find =
            let e : trail E t S k S (path.at S h 0) 0 (slot_free S h S) ≡ along S h (path.probe E S h t k S 0 S) = rest S 0 S (omega arith) in
            rw (at_start, le-ltb S S (omega arith), probe_find E S h t k) at e

next_below : (S slot : ℕ) → slot < S → next_slot S slot < S
unfolding next_slot
next_below S slot l = by_lt (slot + 1) S (λ a e. rw e a) (λ a e. rw e (omega arith))

module _ {K W : Type 0} (E : Keys K) (t : Table K W) where
  -- after one slot more
  turn : (S : ℕ) (k : K) (slot n : ℕ) (free : Option ℕ) → n < S
      → trail E t S k (S - n) slot n free
      ≡ on_sight slot n free (look_at E k (t slot)) (λ f. trail E t S k (S - (n + 1)) (next_slot S slot) (n + 1) f)
  unfolding trail
  turn S k slot n free l = let e : S - n ≡ suc (S - (n + 1)) = omega arith in rw (e, add-one)

  -- the loop's state: the rest of the trail gives the whole answer
  pub record OnTrail (S : ℕ) (k : K) (slot n : ℕ) (free : Option ℕ) (a : Result Probed Refusal) : Type 0 where
    pub inside : slot < S
    pub within : n ≤ S
    pub gives : trail E t S k (S - n) slot n free ≡ a

  -- the loop begins at the home slot
  pub at_home : (S : ℕ) (k : K) (h : ℕ) → h < S → OnTrail S k h 0 None (along S h (path.find E S h t k))
  at_home S k h l = record { inside = l; within = omega arith; gives = let e : S - 0 ≡ S = omega arith in rw e (trail_find S h l E k t) }

module _ {K W : Type 0} {E : Keys K} {t : Table K W} {S : ℕ} {k : K} {slot n : ℕ} {free : Option ℕ} {a : Result Probed Refusal} (w : OnTrail E t S k slot n free a) where
  -- every slot was examined
  pub round : {r : Probed} → n ≡ S → r ≡ ended free n → Ok r ≡ a
  unfolding trail
  round e q = let z : S - n ≡ 0 = omega arith in rw q (rw z at w.gives)

  module _ {x : Result Sight Refusal} (l : n < S) (look : x ≡ look_at E k (t slot)) where
    -- a slot that was never used
    pub on_never : {f : ℕ} → x ≡ Ok Never → f ≡ unwrap_or free slot → Ok (Free f (n + 1)) ≡ a
    unfolding on_sight
    on_never e p = rw (p, ← w.gives, turn E t S k slot n free l, ← look, e, add-one)

    -- a damaged slot
    pub on_bad : {y : Refusal} → x ≡ Err y → Err y ≡ a
    unfolding on_sight
    on_bad e = rw (← w.gives, turn E t S k slot n free l, ← look, e)

    -- the key's slot
    pub on_same : x ≡ Ok Same → Ok (Hit slot (n + 1)) ≡ a
    unfolding on_sight
    on_same e = rw (← w.gives, turn E t S k slot n free l, ← look, e, add-one)

    -- any other slot: the rest of the path
    module _ {f : Option ℕ} {s : ℕ} (q : s ≡ next_slot S slot) where
      onwards : ((r : Option ℕ → Result Probed Refusal) → r f ≡ on_sight slot n free x r) → OnTrail E t S k s (n + 1) f a
      onwards go = record {
        inside = rw q (next_below S slot w.inside);
        within = omega arith;
        gives = rw (← w.gives, turn E t S k slot n free l, ← look, q) (go (λ g. trail E t S k (S - (n + 1)) (next_slot S slot) (n + 1) g));
      }

      -- a freed slot
      pub on_freed : x ≡ Ok Freed → f ≡ option_or free (Some slot) → OnTrail E t S k s (n + 1) f a
      unfolding on_sight
      on_freed e p = onwards (λ r. rw (e, p, first_of free slot))

      -- a live slot with another key
      pub on_other : x ≡ Ok Other → f ≡ free → OnTrail E t S k s (n + 1) f a
      unfolding on_sight
      on_other e p = onwards (λ r. rw (e, p))

-- a table's loop begins at the key's home slot
pub on_path : {K W : Type 0} (M : Store K W) (m : M.State) (k : K) {S h : ℕ} → S ≡ M.size m → (h ≡ M.home m k) × (h < M.size m) → OnTrail M.keys (M.slots m) S k h 0 None (probing M m k)
unfolding probing path
on_path M m k e (f, l) = rw (e, f) (at_home M.keys (M.slots m) (M.size m) k (M.home m k) (rw f at l))
