-- The probing loop, slot by slot, is the path; and what each look at a slot says of the rest.
use Prim.Native.Nat.{ℕ, zero, suc, ◌+◌, ◌-◌, ◌≤◌, ◌<◌}
use mathlib.Core.Bool.{cond}
use mathlib.Core.Path.{◌≡◌, refl}
use native.Mathlib.Numerals.{add-one}
use native.Mathlib.Omega.{arith}
use borrow.Author.Tests.{lt-ltb, le-ltb}
use lib.Dec.{ltb}
use Rattle.model.specs.Slots.{Keys}
use Rattle.model.specs.Path as path
use Rattle.model.proofs.Cases.{by_bool, by_lt}
use Rattle.model.proofs.Path.{at_below, probe_find}
use Rattle.kinds.specs.Marks.{cell, keys_only}
use Rattle.kinds.specs.Probing.{look_at, look_of, first_free, next_slot, ended, along, on_sight, trail}
use Rattle.std.specs.Prelude.{Result, Ok, Err}
use Rattle.answers.specs.declared.Refusal.{Refusal}
use Rattle.kinds.specs.declared.Probed.{Probed}
use Rattle.kinds.specs.declared.Probed.TheVariants.{Hit}
use Rattle.kinds.specs.declared.Sight.TheVariants.{Never, Freed, Same, Other}
use Rattle.kinds.specs.declared.Sight.{Sight}

-- the slot of the first free place, S where there is none
unfoldable slot_free : ℕ → ℕ → ℕ → ℕ
slot_free S h f = cond (ltb f S) (path.at S h f) S

module _ (S h : ℕ) (inside : h < S) where
  at_start : path.at S h 0 ≡ h
  unfolding path.at
  at_start = let e : h + 0 ≡ h = omega arith in rw (e, lt-ltb h S inside)

  at_next : (n : ℕ) → n < S → next_slot S (path.at S h n) ≡ path.at S h (suc n)
  unfolding path.at next_slot
  at_next n l = by_lt (h + n) S
      (λ a e. rw e (by_lt (h + n + 1) S
      (λ b d. rw (d, lt-ltb (h + suc n) S (omega arith)) (omega arith))
      (λ b d. rw (d, le-ltb (h + suc n) S (omega arith)) (omega arith))))
      (λ a e. rw (e, lt-ltb (h + n - S + 1) S (omega arith), le-ltb (h + suc n) S (omega arith)) (omega arith))

  free_end : (f e : ℕ) → Ok (ended S (slot_free S h f) e) ≡ along {W = Unit {0}} S h (path.miss e f)
  unfolding slot_free ended along
  free_end f e = by_lt f S
      (λ l q. rw (q, lt-ltb (path.at S h f) S (at_below S h f inside l)))
      (λ l q. rw (q, le-ltb S S (omega arith)))

  free_first : (f n : ℕ) → n < S → first_free S (slot_free S h f) (path.at S h n) ≡ slot_free S h (path.first_free S f n)
  unfolding slot_free first_free path.first_free
  free_first f n l = by_lt f S
      (λ a q. rw (q, q, lt-ltb (path.at S h f) S (at_below S h f inside a)))
      (λ a q. rw (q, le-ltb S S (omega arith), lt-ltb n S l))

  module _ {K : Type 0} (E : Keys K) (k : K) where
    one_slot : (n f : ℕ) → n < S → (mark : ℕ) (held : K) (r : ℕ → Result Probed Refusal) (q : ℕ → path.Find (Unit {0}))
        → ((x : ℕ) → r (slot_free S h x) ≡ along S h (q x))
        → on_sight S (path.at S h n) n (slot_free S h f) (look_of E k mark held) r ≡ along S h (path.on_slot E S k n f (cell mark held tt) q)
    unfolding look_of look_at cell on_sight path.on_slot along
    one_slot n f l zero held r q e = rw (free_first f n l) (free_end (path.first_free S f n) (suc n))
    one_slot n f l (suc zero) held r q e = by_bool (E.same k held) (λ p. rw p) (λ p. rw p (e f))
    one_slot n f l (suc (suc zero)) held r q e = rw (free_first f n l) (e (path.first_free S f n))
    one_slot n f l (suc (suc (suc m))) held r q e = refl

    module _ (mark : ℕ → ℕ) (key : ℕ → K) where
      rest : (g n f : ℕ) → n + g ≡ S → trail E mark key S k g (path.at S h n) n (slot_free S h f) ≡ along S h (path.probe E S h (keys_only mark key) k g n f)
      unfolding trail path.probe
      rest zero n f e = free_end f n
      rest (suc g) n f e = one_slot n f (omega arith) (mark (path.at S h n)) (key (path.at S h n)) _ _
          (λ x. rw (at_next n (omega arith)) (rest g (suc n) x (omega arith)))

      -- the loop from the home slot is the path
      trail_find : trail E mark key S k S h 0 S ≡ along S h (path.find E S h (keys_only mark key) k)
      unfolding slot_free
      trail_find =
          let e : trail E mark key S k S (path.at S h 0) 0 (slot_free S h S) ≡ along S h (path.probe E S h (keys_only mark key) k S 0 S) = rest S 0 S (omega arith) in
          rw (at_start, le-ltb S S (omega arith), probe_find E S h (keys_only mark key) k) at e

next_below : (S slot : ℕ) → slot < S → next_slot S slot < S
unfolding next_slot
next_below S slot l = by_lt (slot + 1) S (λ a e. rw e a) (λ a e. rw e (omega arith))

module _ {K : Type 0} (E : Keys K) (mark : ℕ → ℕ) (key : ℕ → K) where
  -- after one slot more
  turn : (S : ℕ) (k : K) (slot n free : ℕ) → n < S
      → trail E mark key S k (S - n) slot n free
      ≡ on_sight S slot n free (look_of E k (mark slot) (key slot)) (λ f. trail E mark key S k (S - (n + 1)) (next_slot S slot) (n + 1) f)
  unfolding trail
  turn S k slot n free l = let e : S - n ≡ suc (S - (n + 1)) = omega arith in rw (e, add-one)

  -- the loop's state: the rest of the trail gives the whole answer
  pub record OnTrail (S : ℕ) (k : K) (slot n free : ℕ) (a : Result Probed Refusal) : Type 0 where
    pub inside : slot < S
    pub within : n ≤ S
    pub gives : trail E mark key S k (S - n) slot n free ≡ a

  -- the loop begins at the home slot
  pub at_home : (S : ℕ) (k : K) (h : ℕ) → h < S → OnTrail S k h 0 S (along S h (path.find E S h (keys_only mark key) k))
  at_home S k h l = record { inside = l; within = omega arith; gives = let e : S - 0 ≡ S = omega arith in rw e (trail_find S h l E k mark key) }

module _ {K : Type 0} {E : Keys K} {mark : ℕ → ℕ} {key : ℕ → K} {S : ℕ} {k : K} {slot n free : ℕ} {a : Result Probed Refusal} (w : OnTrail E mark key S k slot n free a) where
  -- every slot was examined
  pub round : {r : Probed} → n ≡ S → r ≡ ended S free n → Ok r ≡ a
  unfolding trail
  round e q = let z : S - n ≡ 0 = omega arith in rw q (rw z at w.gives)

  module _ {x : Result Sight Refusal} (l : n < S) (look : x ≡ look_of E k (mark slot) (key slot)) where
    -- a slot that was never used
    pub on_never : {f : ℕ} {r : Probed} → x ≡ Ok Never → f ≡ first_free S free slot → r ≡ ended S f (n + 1) → Ok r ≡ a
    unfolding on_sight
    on_never e p q = rw (q, p, add-one, ← w.gives, turn E mark key S k slot n free l, ← look, e)

    -- a damaged slot
    pub on_bad : {y : Refusal} → x ≡ Err y → Err y ≡ a
    unfolding on_sight
    on_bad e = rw (← w.gives, turn E mark key S k slot n free l, ← look, e)

    -- the key's slot
    pub on_same : x ≡ Ok Same → Ok (Hit slot (n + 1)) ≡ a
    unfolding on_sight
    on_same e = rw (← w.gives, turn E mark key S k slot n free l, ← look, e, add-one)

    -- any other slot: the rest of the path
    module _ {f s : ℕ} (q : s ≡ next_slot S slot) where
      onwards : ((r : ℕ → Result Probed Refusal) → r f ≡ on_sight S slot n free x r) → OnTrail E mark key S k s (n + 1) f a
      onwards go = record {
        inside = rw q (next_below S slot w.inside);
        within = omega arith;
        gives = rw (← w.gives, turn E mark key S k slot n free l, ← look, q) (go (λ g. trail E mark key S k (S - (n + 1)) (next_slot S slot) (n + 1) g));
      }

      -- a freed slot
      pub on_freed : x ≡ Ok Freed → f ≡ first_free S free slot → OnTrail E mark key S k s (n + 1) f a
      unfolding on_sight
      on_freed e p = onwards (λ r. rw (e, p))

      -- a live slot with another key
      pub on_other : x ≡ Ok Other → f ≡ free → OnTrail E mark key S k s (n + 1) f a
      unfolding on_sight
      on_other e p = onwards (λ r. rw (e, p))
