-- Demand 1: on any memory the answer's number is the first of the call's rows that applies, and a refused call leaves the memory as it was.
-- A call is a chain of tests, and its rows stand in the same order: one law peels a test off the call and its row off the list.
-- What is left at a path goes by how it ended (`Told`): hit, missed or hurt, each with what it says of the examined slots.
use Prim.Native.Nat.{ℕ, zero, suc, ◌+◌, ◌-◌, ◌≤◌, ◌<◌}
use mathlib.Core.Bool.{Bool, true, false, not}
use mathlib.Core.List.{List, [], ◌∷◌}
use mathlib.Core.Logic.{◌⊎◌, inl, inr, ⊎_elim}
use mathlib.Core.Path.{◌≡◌, refl, sym, ◌∙◌, ap, subst}
use native.Mathlib.Omega.{arith}
use borrow.Author.Tests.{lt-ltb, ne_eqb, leb-true, leb-false, eqb-true, eqb-false, not-true, not-false}
use lib.Dec.{ltb, leb, eqb}
use Rattle.model.specs.Slots.{Slot, never, freed, damaged, live, Table}
use Rattle.model.specs.Path.{from, Find, hit, miss, damage, at, stops, stop_at, free_at, find, examined}
use Rattle.model.specs.Store.{Store, path, slot_at, path_length, live_count, used, damaged_slots}
use Rattle.model.specs.Calls.{Or, no, ok, need, pass, give, Spot, occupied, vacant, on_occupied, on_vacant, seen_by, spot_by, get, entry, put_spot, remove, capacity, length, reserve, copy, needs, any_damage, union, held_on, held_at, occupied_get, occupied_remove, good_for, vacancy, vacant_insert, or_insert, insert_entry}
use Rattle.model.specs.Walk.{halts, halted, reach_of, step_within, pace, step}
use Rattle.model.specs.Machine.{Own, makes, clears, capacities, lens, empties, reserves, gets, contains_keys, removes, entries, inserts, puts, occupied_gets, occupied_removes, occupied_sets, vacant_inserts, or_inserts, insert_entries, Call, own, copies, unions, steps, Answer, fine, number, truth, seen, spot, value, stepped, report, World, tells, stepping, answer}
use Rattle.model.specs.Demand1.{Row, row, First, none_applies, applies_here, goes_on, refusal, number_in, DamagedOnPath, Absent, DamagedSomewhere, AnyDamage, sized_rows, count_rows, reserve_rows, look_rows, remove_rows, place_rows, put_rows, grip_rows, drop_rows, open_rows, step_rows, copy_rows, union_rows, rows}
use Rattle.model.proofs.Cases.{by_bool, by_lt, by_eq, by_same, clash}
use Rattle.model.proofs.Slots.{damaged_where, damaged_bad}
use Rattle.model.proofs.Path.{from_low, from_before, from_here, Ended, find_ended, ended_hit, ended_never, ended_round, ended_bad, examined_stop, miss_free}
use Rattle.model.proofs.Walk.{reach_high, reach_budget}
use Rattle.model.proofs.Demand3.{not_between}
use Rattle.model.proofs.Sound.{no_free_full, full_no_free}

-- the two constructors as functions, so that what is to be shown is known before its proof is read
here : {n : ℕ} {P : Type 0} {rs : List Row} → P → First (row n P ∷ rs) n
here p = applies_here p

on : {n i : ℕ} {P : Type 0} {rs : List Row} → (P → ⊥) → First rs n → First (row i P ∷ rs) n
on h f = goes_on h f

module _ {A : Type 0} where
  -- a test that fails is the first row that applies; one that passes goes on
  first_need : (b : Bool) (n : ℕ) (a : Or A) (P : Type 0) (rs : List Row) → (b ≡ false → P) → (b ≡ true → P → ⊥) → (b ≡ true → First rs (number_in a)) → First (row n P ∷ rs) (number_in (need b n a))
  unfolding need number_in
  first_need true n a P rs fails passes goes = on (passes refl) (goes refl)
  first_need false n a P rs fails passes goes = here (fails refl)

  first_pass : (n : ℕ) (a : Or A) (rs : List Row) → (n ≡ 0 → First rs (number_in a)) → First (row n (n ≡ 0 → ⊥) ∷ rs) (number_in (pass n a))
  unfolding pass number_in
  first_pass zero a rs goes = on (λ h. h refl) (goes refl)
  first_pass (suc n) a rs goes = here (λ e. omega arith)

  first_sized : (b : Bool) (a : Or A) (rs : List Row) → (b ≡ true → First rs (number_in a)) → First (row 1 (b ≡ false) ∷ rs) (number_in (need b 1 a))
  first_sized b a rs goes = first_need b 1 a (b ≡ false) rs (λ e. e) (λ e f. clash cc) goes

  -- 5 of a storing call: by its examining every slot, or by what it examines besides
  first_harmed : (b : Bool) (a : Or A) (P : Type 0) (rs : List Row) → (b ≡ false → First (row 5 P ∷ rs) (number_in a)) → First (row 5 ((b ≡ true) ⊎ P) ∷ rs) (number_in (need (not b) 5 a))
  unfolding need number_in
  first_harmed true a P rs f = here (inl refl)
  first_harmed false a P rs f = widened (f refl)
    where
      widened : {n : ℕ} → First (row 5 P ∷ rs) n → First (row 5 ((false ≡ true) ⊎ P) ∷ rs) n
      widened (applies_here x) = here (inr x)
      widened (goes_on x g) = on (λ y. ⊎_elim (λ e. clash cc) x y) g

-- one slot cannot be two
apart {ℓ} : {A : Type 0} {B : Type ℓ} {x : A} (a b : A) → x ≡ a → x ≡ b → (a ≡ b → B) → B
apart a b p q clash = clash (sym p ∙ q)

-- a stopped path: what stands in an examined slot
module _ {K W : Type 0} (M : Store K W) (m : M.State) (k : K) where
  pub data PathSays : Type 0 where
    told_hit : (n : ℕ) (v : W) → path M m k ≡ hit n v → (DamagedOnPath M m k → ⊥) → (Absent M m k → ⊥) → PathSays
    told_miss : (e f : ℕ) → path M m k ≡ miss e f → (DamagedOnPath M m k → ⊥) → Absent M m k → PathSays
    told_hurt : path M m k ≡ damage → DamagedOnPath M m k → Absent M m k → PathSays

  abbrev last : ℕ
  last = stop_at M.keys (M.size m) (M.home m k) (M.slots m) k

  bad_last : DamagedOnPath M m k → (M.slots m (at (M.size m) (M.home m k) last) ≡ damaged) × (last < M.size m)
  unfolding path_length slot_at stops
  bad_last b =
      let (x, l) = examined_stop M.keys (M.size m) (M.home m k) (M.slots m) k b.0 b.1 (rw b.2) in
      (ap (λ j. M.slots m (at (M.size m) (M.home m k) j)) (sym x) ∙ b.2, l)

  live_last : (j : ℕ) (v : W) → j < path_length M m k → M.slots m (slot_at M m k j) ≡ live k v → (M.slots m (at (M.size m) (M.home m k) last) ≡ live k v) × (last < M.size m)
  unfolding path_length slot_at stops
  live_last j v c e =
      let (x, l) = examined_stop M.keys (M.size m) (M.home m k) (M.slots m) k j c (rw e (M.keys.self k)) in
      (ap (λ j. M.slots m (at (M.size m) (M.home m k) j)) (sym x) ∙ e, l)

  last_examined : last < M.size m → last < path_length M m k
  unfolding path_length examined
  last_examined l = rw (lt-ltb last (M.size m) l) (omega arith)

  pub told : PathSays
  unfolding path slot_at
  told = go (find M.keys (M.size m) (M.home m k) (M.slots m) k) refl (find_ended M.keys (M.size m) (M.home m k) (M.slots m) k)
    where
      ends_with : {s : Slot K W} {n : ℕ} → n ≡ last → M.slots m (at (M.size m) (M.home m k) n) ≡ s → M.slots m (at (M.size m) (M.home m k) last) ≡ s
      ends_with {s} x p = subst (λ j. M.slots m (at (M.size m) (M.home m k) j) ≡ s) x p

      go : (r : Find W) → find M.keys (M.size m) (M.home m k) (M.slots m) k ≡ r → Ended M.keys (M.size m) (M.home m k) (M.slots m) k r → PathSays
      go r q (ended_hit n v x l p) = told_hit n v q
          (λ b. let c = (bad_last b).0 in let d = ends_with x p in clash cc)
          (λ a. a n v (rw x (last_examined (omega arith))) p)
      go r q (ended_never n x l p) = told_miss (suc n) (free_at (M.size m) (M.home m k) (M.slots m)) q
          (λ b. let c = (bad_last b).0 in let d = ends_with x p in clash cc)
          (λ j v c e. let f = (live_last j v c e).0 in let d = ends_with x p in clash cc)
      go r q (ended_round x) = told_miss (M.size m) (free_at (M.size m) (M.home m k) (M.slots m)) q
          (λ b. omega (arith, (bad_last b).1))
          (λ j v c e. omega (arith, (live_last j v c e).1))
      go r q (ended_bad n x l p) = told_hurt q (n, rw x (last_examined (omega arith)), p)
          (λ j v c e. let f = (live_last j v c e).0 in let d = ends_with x p in clash cc)

module _ {K W : Type 0} (M : Store K W) where
  hurt_somewhere : (m : M.State) → damaged_slots M m ≡ true → DamagedSomewhere M m
  unfolding damaged_slots
  hurt_somewhere m e = damaged_where (M.slots m) (M.size m) e

  somewhere_hurt : (m : M.State) → DamagedSomewhere M m → damaged_slots M m ≡ false → ⊥
  unfolding damaged_slots
  somewhere_hurt m b e = let c : ◌≡◌ {A = Bool} true false = sym (damaged_bad (M.slots m) (M.size m) b.0 b.1 b.2) ∙ e in clash cc

-- a step: 5 exactly when a slot that it passes is damaged
module _ {K W : Type 0} (S : ℕ) (t : Table K W) (a b : ℕ) where
  abbrev Passed : Type 0
  Passed = (j : ℕ) × (a ≤ j) × (j < S) × (j < a + b) × (t j ≡ damaged) × ((i : ℕ) (k : K) (v : W) → a ≤ i → i < j → t i ≡ live k v → ⊥)

  halts_bad : (j : ℕ) → t j ≡ damaged → halts (t j) ≡ true
  unfolding halts
  halts_bad j e = rw e

  -- the first slot that halts the step comes no later than a damaged one within its reach
  first_halt : (d : Passed) → (from (λ i. halts (t i)) (reach_of S a b) a ≤ d.0) × (from (λ i. halts (t i)) (reach_of S a b) a < a + reach_of S a b)
  unfolding reach_of
  first_halt d =
      let r : d.0 < a + reach_of S a b = by_bool (leb b (S - a)) (λ e. rw e d.3) (λ e. rw e (omega (arith, d.1, d.2))) in
      by_lt d.0 (from (λ i. halts (t i)) (reach_of S a b) a)
      (λ l x. let c : ◌≡◌ {A = Bool} true false = sym (halts_bad d.0 d.4) ∙ from_before (λ i. halts (t i)) (reach_of S a b) a d.0 d.1 l in clash cc)
      (λ l x. (l, omega arith))

  first_halted : (j : ℕ) (c : Slot K W) → t j ≡ c → halts c ≡ true → a ≤ j → j < a + reach_of S a b → ((i : ℕ) → a ≤ i → i < j → halts (t i) ≡ false) → ((d : Passed) → j ≤ d.0) → First (row 5 Passed ∷ []) (number_in (halted a j c))
  unfolding halted number_in halts
  first_halted j never e h lo hi before q = clash cc
  first_halted j freed e h lo hi before q = clash cc
  first_halted j damaged e h lo hi before q = here (j, lo, omega (arith, reach_high S a b), omega (arith, reach_budget S a b), e, λ i k v x y p. not_between t i k v p (before i x y))
  first_halted j (live k v) e h lo hi before q = on (λ d. by_lt j d.0
      (λ l x. d.5 j k v lo l e)
      (λ l x. let r : j ≡ d.0 = omega (arith, q d) in apart (live k v) damaged e (ap t r ∙ d.4) λ c. clash cc)) none_applies

  first_pace : First (row 5 Passed ∷ []) (number_in (pace S t a b))
  unfolding pace step_within number_in
  first_pace = by_eq a S
      (λ q x. rw x (on (λ d. omega (arith, d.1, d.2)) none_applies))
      (λ q x. rw x (by_lt (from (λ i. halts (t i)) (reach_of S a b) a) (a + reach_of S a b)
      (λ l y. rw y (first_halted (from (λ i. halts (t i)) (reach_of S a b) a) (t (from (λ i. halts (t i)) (reach_of S a b) a)) refl
      (from_here (λ i. halts (t i)) (reach_of S a b) a l) (from_low (λ i. halts (t i)) (reach_of S a b) a) l (λ i u v. from_before (λ i. halts (t i)) (reach_of S a b) a i u v) (λ d. (first_halt d).0)))
      (λ l y. rw y (on (λ d. omega (arith, (first_halt d).1)) none_applies))))

  first_step : First (row 3 (b ≡ 0) ∷ row 4 (S < a) ∷ row 5 Passed ∷ []) (number_in (step S t 0 a b))
  unfolding step pass
  first_step = first_need (not (eqb b 0)) 3 (need (leb a S) 4 (pace S t a b)) (b ≡ 0) _
      (λ e. eqb-true b 0 (not-false (eqb b 0) e))
      (λ e. eqb-false b 0 (not-true (eqb b 0) e))
      (λ e. first_need (leb a S) 4 (pace S t a b) (S < a) _
      (λ f. leb-false a S f)
      (λ f l. omega (arith, leb-true a S f))
      (λ f. first_pace))

module _ {K W : Type 0} (M : Store K W) (homes : (m : M.State) (k : K) → M.sized m ≡ true → M.home m k < M.size m) (m : M.State) where
  first_seen : (k : K) → First (row 5 (DamagedOnPath M m k) ∷ []) (number_in (seen_by M m k (path M m k)))
  unfolding seen_by number_in
  first_seen k = go (told M m k)
    where
      go : PathSays M m k → First (row 5 (DamagedOnPath M m k) ∷ []) (number_in (seen_by M m k (path M m k)))
      go (told_hit n v p b a) = rw p (on b none_applies)
      go (told_miss e f p b a) = rw p (on b none_applies)
      go (told_hurt p b a) = rw p (here b)

  first_spot : (k : K) → M.sized m ≡ true → First (row 5 (DamagedOnPath M m k) ∷ row 7 (Absent M m k × (live_count M m ≡ M.size m)) ∷ row 8 (Absent M m k × (M.bytes m - used M m < M.weight k)) ∷ []) (number_in (spot_by M m k (path M m k)))
  unfolding spot_by number_in need path live_count
  first_spot k z = go (told M m k)
    where
      go : PathSays M m k → First (row 5 (DamagedOnPath M m k) ∷ row 7 (Absent M m k × (live_count M m ≡ M.size m)) ∷ row 8 (Absent M m k × (M.bytes m - used M m < M.weight k)) ∷ []) (number_in (spot_by M m k (path M m k)))
      go (told_hit n v p b a) = rw p (on b (on (λ x. a x.0) (on (λ x. a x.0) none_applies)))
      go (told_miss e f p b a) = rw p (on b
          (by_lt f (M.size m)
          (λ l x. rw x (on (λ y. omega (arith, miss_free M.keys (M.size m) (M.home m k) (M.slots m) k e f p, full_no_free M.keys (M.size m) (M.home m k) (homes m k z) (M.slots m) k y.1))
          (by_bool (leb (M.weight k) (M.bytes m - used M m))
          (λ y. rw y (on (λ w. omega (arith, w.1, leb-true (M.weight k) (M.bytes m - used M m) y)) none_applies))
          (λ y. rw y (here (a, leb-false (M.weight k) (M.bytes m - used M m) y))))))
          (λ l x. rw x (here (a, no_free_full M.keys (M.size m) (M.home m k) (homes m k z) (M.slots m) k e f p l)))))
      go (told_hurt p b a) = rw p (here b)

  first_grip : (s : ℕ) (k : K) → First (row 5 ((s < M.size m) × (M.slots m s ≡ damaged)) ∷ row 6 ((v : W) → s < M.size m → M.slots m s ≡ live k v → ⊥) ∷ []) (number_in (held_at M m s k))
  unfolding held_at held_on number_in need
  first_grip s k = by_lt s (M.size m)
      (λ l x. rw x (go (M.slots m s) refl l))
      (λ l x. rw x (on (λ y. omega (arith, y.0)) (here (λ v c e. omega arith))))
    where
      go : (c : Slot K W) → M.slots m s ≡ c → s < M.size m → First (row 5 ((s < M.size m) × (M.slots m s ≡ damaged)) ∷ row 6 ((v : W) → s < M.size m → M.slots m s ≡ live k v → ⊥) ∷ []) (number_in (held_on M k c))
      go never e l = on (λ y. apart never damaged e y.1 λ q. clash cc) (here (λ v c q. apart never (live k v) e q λ q. clash cc))
      go freed e l = on (λ y. apart freed damaged e y.1 λ q. clash cc) (here (λ v c q. apart freed (live k v) e q λ q. clash cc))
      go damaged e l = here (l, e)
      go (live a w) e l = on (λ y. apart (live a w) damaged e y.1 λ q. clash cc)
          (by_same M.keys k a
          (λ q x. rw x (on (λ h. h w l (e ∙ ap (λ y. live y w) (sym q))) none_applies))
          (λ x. rw x (here (λ v c q.
          let r : live a w ≡ live k v = sym e ∙ q in
          let d : k ≡ a = cc in
          let y : ◌≡◌ {A = Bool} true false = sym (M.keys.self k) ∙ ap (λ b. M.keys.same k b) d ∙ x in
          clash cc))))

  not_five : (f e : ℕ) (k : K) → need {A = Spot W} (ltb f (M.size m)) 7 (need (leb (M.weight k) (M.bytes m - used M m)) 8 (ok (vacant (slot_at M m k f) e))) ≡ no 5 → ⊥
  unfolding need
  not_five f e k h = by_bool (ltb f (M.size m))
      (λ x. by_bool (leb (M.weight k) (M.bytes m - used M m))
      (λ y. let c : ◌≡◌ {A = Or (Spot W)} (ok (vacant (slot_at M m k f) e)) (no 5) = rw (x, y) at h in clash cc)
      (λ y. let c : ◌≡◌ {A = Or (Spot W)} (no 8) (no 5) = rw (x, y) at h in let z : ◌≡◌ {A = ℕ} 8 5 = cc in omega arith))
      (λ x. let c : ◌≡◌ {A = Or (Spot W)} (no 7) (no 5) = rw x at h in let z : ◌≡◌ {A = ℕ} 7 5 = cc in omega arith)

  -- a vacant handle: 6 unless insert would use its slot
  abbrev vacant_rows : ℕ → K → List Row
  vacant_rows s k = row 5 (DamagedOnPath M m k) ∷ row 6 ((e : ℕ) → entry M m k ≡ ok (vacant s e) → ⊥) ∷ []

  first_good : (s : ℕ) (k : K) → (DamagedOnPath M m k → ⊥) → (r : Or (Spot W)) → entry M m k ≡ r → (r ≡ no 5 → ⊥) → First (vacant_rows s k) (number_in (good_for M s r))
  unfolding good_for number_in need
  first_good s k b (no n) q h = rw (ne_eqb n 5 (λ c. h (ap (λ i. no i) c))) (on b (here (λ e p. apart (no n) (ok (vacant s e)) q p λ c. clash cc)))
  first_good s k b (ok (occupied x w y)) q h = on b (here (λ e p. apart (ok (occupied x w y)) (ok (vacant s e)) q p λ c. clash cc))
  first_good s k b (ok (vacant x y)) q h = on b (by_eq s x
      (λ c t. rw t (on (λ g. g y (q ∙ ap (λ i. ok (vacant i y)) (sym c))) none_applies))
      (λ c t. rw t (here (λ e p. apart (ok (vacant x y)) (ok (vacant s e)) q p λ d. c (cc)))))

  first_open : (s : ℕ) (k : K) → entry M m k ≡ spot_by M m k (path M m k) → First (vacant_rows s k) (number_in (good_for M s (spot_by M m k (path M m k))))
  unfolding spot_by need good_for number_in
  first_open s k q = go (told M m k)
    where
      go : PathSays M m k → First (vacant_rows s k) (number_in (good_for M s (spot_by M m k (path M m k))))
      go (told_hit n v p b a) = first_good s k b (spot_by M m k (path M m k)) q (λ h. let c : ok (occupied (slot_at M m k n) v (suc n)) ≡ no 5 = rw p at h in clash cc)
      go (told_miss e f p b a) = first_good s k b (spot_by M m k (path M m k)) q (λ h. not_five f e k (rw p at h))
      go (told_hurt p b a) = rw p (here b)

  -- length and emptiness: some slot is damaged
  first_whole : {A : Type 0} (a : Or A) (rs : List Row) → First rs (number_in a) → First (row 5 (DamagedSomewhere M m) ∷ rs) (number_in (need (not (damaged_slots M m)) 5 a))
  first_whole a rs f = first_need (not (damaged_slots M m)) 5 a (DamagedSomewhere M m) rs
      (λ e. hurt_somewhere M m (not-false (damaged_slots M m) e))
      (λ e b. somewhere_hurt M m b (not-true (damaged_slots M m) e))
      (λ e. f)

-- reserve and union: examining every slot shows damage
module _ {K W : Type 0} (M : Store K W) (m : M.State) where
  pub ruined_is : any_damage M m ≡ true → AnyDamage M m
  unfolding any_damage
  ruined_is e = by_bool (damaged_slots M m) (λ h. inl (hurt_somewhere M m h)) (λ h. inr (rw h at e))

  is_ruined : any_damage M m ≡ false → AnyDamage M m → ⊥
  unfolding any_damage
  is_ruined e (inl b) = by_bool (damaged_slots M m) (λ h. let c : ◌≡◌ {A = Bool} true false = rw h at e in clash cc) (λ h. somewhere_hurt M m b h)
  is_ruined e (inr h) = by_bool (damaged_slots M m)
      (λ x. let c : ◌≡◌ {A = Bool} true false = rw x at e in clash cc)
      (λ x. let c : ◌≡◌ {A = Bool} true false = sym h ∙ (rw x at e) in clash cc)

-- where the tests before the path pass, entry is what the path says
pub entry_clear : {K W : Type 0} (M : Store K W) (m : M.State) (k : K) → M.sized m ≡ true → M.kept k ≡ 0 → M.damaged_fully m ≡ false → entry M m k ≡ spot_by M m k (path M m k)
unfolding entry need pass
entry_clear M m k z y h = rw (z, y, h)

-- the whole table: every call, every memory
module _ {K W : Type 0} (M : Store K W) (homes : (m : M.State) (k : K) → M.sized m ≡ true → M.home m k < M.size m) where
  module _ (m : M.State) where
    seen_rows : (k : K) → First (look_rows M m k) (number_in (get M m k))
    unfolding get
    seen_rows k = first_sized (M.sized m) _ _ (λ z. first_pass (M.asked k) _ _ (λ y. first_seen M homes m k))

    taken_rows : (k : K) → First (remove_rows M m k) (number_in (remove M m k))
    unfolding remove
    taken_rows k = first_sized (M.sized m) _ _ (λ z. first_pass (M.asked k) _ _ (λ y. first_harmed (M.damaged_fully m) _ _ _ (λ h. first_seen M homes m k)))

    placed_rows : (k : K) → First (place_rows M m k) (number_in (entry M m k))
    unfolding entry
    placed_rows k = first_sized (M.sized m) _ _ (λ z. first_pass (M.kept k) _ _ (λ y. first_harmed (M.damaged_fully m) _ _ _ (λ h. first_spot M homes m k z)))

    put_in_rows : (k : K) → First (put_rows M m k) (number_in (put_spot M m k))
    unfolding put_spot
    put_in_rows k = first_sized (M.sized m) _ _ (λ z. first_harmed (M.damaged_fully m) _ _ _ (λ h. first_spot M homes m k z))

    gripped_rows : (s : ℕ) (k : K) → First (grip_rows M m s k) (number_in (occupied_get M m s k))
    unfolding occupied_get
    gripped_rows s k = first_sized (M.sized m) _ _ (λ z. first_pass (M.asked k) _ _ (λ y. first_grip M homes m s k))

    dropped_rows : (s : ℕ) (k : K) → First (drop_rows M m s k) (number_in (occupied_remove M m s k))
    unfolding occupied_remove
    dropped_rows s k = first_sized (M.sized m) _ _ (λ z. first_pass (M.asked k) _ _ (λ y. first_harmed (M.damaged_fully m) _ _ _ (λ h. first_grip M homes m s k)))

    opened_rows : (s : ℕ) (k : K) → First (open_rows M m s k) (number_in (vacancy M m s k))
    unfolding vacancy
    opened_rows s k = first_sized (M.sized m) _ _ (λ z. first_pass (M.kept k) _ _ (λ y. first_harmed (M.damaged_fully m) _ _ _ (λ h. first_open M homes m s k (entry_clear M m k z y h))))

    counted_rows : First (count_rows M m) (number_in (length M m))
    unfolding length number_in
    counted_rows = first_sized (M.sized m) _ _ (λ z. first_whole M homes m _ _ none_applies)

    reserved_rows : (n b : ℕ) → First (reserve_rows M m n b) (number_in (reserve M m n b))
    unfolding reserve number_in
    reserved_rows n b = first_sized (M.sized m) _ _
        (λ z. first_need (not (any_damage M m)) 5 _ _ _ (λ e. ruined_is M m (not-false (any_damage M m) e)) (λ e f. is_ruined M m (not-true (any_damage M m) e) f)
        (λ y. first_need (leb n (M.size m - live_count M m)) 7 _ _ _ (λ e. leb-false n (M.size m - live_count M m) e) (λ e l. omega (arith, leb-true n (M.size m - live_count M m) e))
        (λ x. first_need (leb b (M.bytes m - used M m)) 8 _ _ _ (λ e. leb-false b (M.bytes m - used M m) e) (λ e l. omega (arith, leb-true b (M.bytes m - used M m) e))
        (λ w. none_applies))))

    stepped_rows : (a b : ℕ) → First (step_rows M m a b) (number_in (stepping M m a b))
    unfolding stepping
    stepped_rows a b = first_sized (M.sized m) _ _ (λ z. first_step (M.size m) (M.slots m) a b)

    sizing_rows : First (sized_rows M m) (number_in (capacity M m))
    unfolding capacity number_in
    sizing_rows = first_sized (M.sized m) _ _ (λ z. none_applies)

  -- a test that stands in one row with those after it
  joined_row : {A : Type 0} (b : Bool) (n : ℕ) (a : Or A) (P Q : Type 0) (rs : List Row) → (b ≡ false → P) → (b ≡ true → P → ⊥) → (b ≡ true → First (row n Q ∷ rs) (number_in a)) → First (row n (P ⊎ Q) ∷ rs) (number_in (need b n a))
  unfolding need number_in
  joined_row true n a P Q rs fails passes goes = widened (goes refl)
    where
      widened : {i : ℕ} → First (row n Q ∷ rs) i → First (row n (P ⊎ Q) ∷ rs) i
      widened (applies_here x) = here (inr x)
      widened (goes_on x g) = on (λ y. ⊎_elim (passes refl) x y) g
  joined_row false n a P Q rs fails passes goes = here (inl (fails refl))

  false_sized : (b : Bool) → b ≡ true → b ≡ false → ⊥
  false_sized b e f = clash cc

  copied_rows : (m n : M.State) → First (copy_rows M m n) (number_in (copy M m n))
  unfolding copy number_in
  copied_rows m n = joined_row (M.sized m) 1 _ _ _ _ (λ e. e) (λ e f. false_sized (M.sized m) e f)
      (λ z. joined_row (M.sized n) 1 _ _ _ _ (λ e. e) (λ e f. false_sized (M.sized n) e f)
      (λ y. joined_row (eqb (M.size m) (M.size n)) 1 _ _ _ _ (λ e. eqb-false (M.size m) (M.size n) e) (λ e f. f (eqb-true (M.size m) (M.size n) e))
      (λ x. first_need (eqb (M.bytes m) (M.bytes n)) 1 _ _ _ (λ e. eqb-false (M.bytes m) (M.bytes n) e) (λ e f. f (eqb-true (M.bytes m) (M.bytes n) e))
      (λ w. none_applies))))

  united_rows : (l r : M.State) → First (union_rows M l r) (number_in (union M l r))
  unfolding union number_in
  united_rows l r = joined_row (M.sized l) 1 _ _ _ _ (λ e. e) (λ e f. false_sized (M.sized l) e f)
      (λ z. first_sized (M.sized r) _ _
      (λ y. joined_row (not (any_damage M l)) 5 _ _ _ _ (λ e. ruined_is M l (not-false (any_damage M l) e)) (λ e f. is_ruined M l (not-true (any_damage M l) e) f)
      (λ x. first_need (not (any_damage M r)) 5 _ _ _ (λ e. ruined_is M r (not-false (any_damage M r) e)) (λ e f. is_ruined M r (not-true (any_damage M r) e) f)
      (λ w. first_pass (M.carried r) _ _
      (λ t. first_need (leb (needs M (λ k. 1) l r) (M.size l - live_count M l)) 7 _ _ _ (λ e. leb-false (needs M (λ k. 1) l r) (M.size l - live_count M l) e) (λ e f. omega (arith, leb-true (needs M (λ k. 1) l r) (M.size l - live_count M l) e))
      (λ u. first_need (leb (needs M M.weight l r) (M.bytes l - used M l)) 8 _ _ _ (λ e. leb-false (needs M M.weight l r) (M.bytes l - used M l) e) (λ e f. omega (arith, leb-true (needs M M.weight l r) (M.bytes l - used M l) e))
      (λ v. none_applies)))))))

  numbered : {A : Type 0} (say : A → Answer K W) → ((a : A) → refusal (say a) ≡ 0) → (x : Or A) (rs : List Row) → First rs (number_in x) → First rs (refusal (report say x))
  unfolding report refusal number_in
  numbered say z (no n) rs f = f
  numbered say z (ok a) rs f = rw (z a) f

  given : {A : Type 0} (v : W) (x : Or A) (rs : List Row) → First rs (number_in x) → First rs (refusal (report {K = K} value (give v x)))
  unfolding give report refusal number_in
  given v (no n) rs f = f
  given v (ok a) rs f = f

  own_first : (w : World M) (x : ℕ) (c : Own K W) → First (rows M w x (own c)) (refusal (tells M (w x) c))
  unfolding tells refusal vacant_insert or_insert insert_entry
  own_first w x makes = numbered (λ n. fine) (λ a. refl) _ _ (sizing_rows (w x))
  own_first w x clears = numbered (λ n. fine) (λ a. refl) _ _ (sizing_rows (w x))
  own_first w x capacities = numbered number (λ a. refl) _ _ (sizing_rows (w x))
  own_first w x lens = numbered number (λ a. refl) _ _ (counted_rows (w x))
  own_first w x empties = numbered (λ n. truth (eqb n 0)) (λ a. refl) _ _ (counted_rows (w x))
  own_first w x (reserves n b) = numbered (λ u. fine) (λ a. refl) _ _ (reserved_rows (w x) n b)
  own_first w x (gets k) = numbered seen (λ a. refl) _ _ (seen_rows (w x) k)
  own_first w x (contains_keys k) = numbered seen (λ a. refl) _ _ (seen_rows (w x) k)
  own_first w x (removes k) = numbered seen (λ a. refl) _ _ (taken_rows (w x) k)
  own_first w x (entries k) = numbered spot (λ a. refl) _ _ (placed_rows (w x) k)
  own_first w x (inserts k v) = numbered spot (λ a. refl) _ _ (placed_rows (w x) k)
  own_first w x (puts k v) = numbered spot (λ a. refl) _ _ (put_in_rows (w x) k)
  own_first w x (occupied_gets s k) = numbered value (λ a. refl) _ _ (gripped_rows (w x) s k)
  own_first w x (occupied_removes s k) = numbered value (λ a. refl) _ _ (dropped_rows (w x) s k)
  own_first w x (occupied_sets s k v) = numbered value (λ a. refl) _ _ (gripped_rows (w x) s k)
  own_first w x (vacant_inserts s k v) = given v (vacancy M (w x) s k) _ (opened_rows (w x) s k)
  own_first w x (or_inserts (on_occupied s) k v) = numbered value (λ a. refl) _ _ (gripped_rows (w x) s k)
  own_first w x (or_inserts (on_vacant s) k v) = given v (vacancy M (w x) s k) _ (opened_rows (w x) s k)
  own_first w x (insert_entries (on_occupied s) k v) = given v (occupied_get M (w x) s k) _ (gripped_rows (w x) s k)
  own_first w x (insert_entries (on_vacant s) k v) = given v (vacancy M (w x) s k) _ (opened_rows (w x) s k)

  -- demand 1: for every call and every memory the answer's number is the first of the call's rows that applies, 0 where none does
  pub demand_1 : (w : World M) (x : ℕ) (c : Call K W) → First (rows M w x c) (refusal (answer M w x c))
  unfolding answer refusal
  demand_1 w x (own c) = own_first w x c
  demand_1 w x (copies y) = numbered (λ u. fine) (λ a. refl) _ _ (copied_rows (w x) (w y))
  demand_1 w x (unions y) = numbered (λ u. fine) (λ a. refl) _ _ (united_rows (w x) (w y))
  demand_1 w x (steps a b) = numbered stepped (λ p. refl) _ _ (stepped_rows (w x) a b)
