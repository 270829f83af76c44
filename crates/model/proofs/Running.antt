-- An accepted union never fails on its way, on any memory: what was counted on the left at first is enough for every pair.
use Prim.Native.Nat.{ℕ, suc, ◌+◌, ◌-◌, ◌≤◌, ◌<◌}
use mathlib.Core.Bool.{Bool, true, false, cond, not}
use mathlib.Core.List.{List, [], ◌∷◌}
use mathlib.Core.Path.{◌≡◌, refl, sym, ◌∙◌, ap, subst}
use native.Mathlib.Omega.{arith}
use borrow.Author.Tests.{lt-ltb, le-leb, leb-true}
use lib.Dec.{leb}
use Rattle.model.specs.Slots.{Slot, never, freed, damaged, live, Table, Keys, put, frees, weigh, total, pairs}
use Rattle.model.specs.Path.{Find, hit, miss, damage, at, stops, find}
use Rattle.model.specs.Finite.{mass, firsts}
use Rattle.model.specs.Store.{Store, path, slot_at, live_count, used, damaged_slots}
use Rattle.model.specs.Calls.{ok, need, Spot, occupied, vacant, spot_by, rule_by, rule, missed, lacking, needs, any_damage, union}
use Rattle.model.specs.Lawful.{Wrote, Steady}
use Rattle.model.specs.Running.{Running, Roomy}
use Rattle.model.proofs.Cases.{by_bool, by_lt, by_eq, by_same, clash}
use Rattle.model.proofs.Slots.{put_same, put_other, by_put, total_put, damaged_not, damaged_bad, count_high}
use Rattle.model.proofs.Path.{place, place_below, at_place, at_once, at_below, stop_before, Ended, ended_hit, find_ended, hit_at, hurt_at, find_hit, free_here}
use Rattle.model.proofs.Sound.{no_free_full}
use Rattle.model.proofs.Accepted.{need_ok, pass_ok}
use Rattle.model.proofs.Pairs.{total_pairs}
use Rattle.model.proofs.Keeps.{path_live, path_free}

module _ {K W : Type 0} (E : Keys K) (S h : ℕ) (t : Table K W) where
  hit_before : (a : K) (n : ℕ) (w : W) → find E S h t a ≡ hit n w → (m : ℕ) → m < n → stops E a (t (at S h m)) ≡ false
  hit_before a n w q m l = go n w (subst (Ended E S h t a) q (find_ended E S h t a)) l
    where
      go : (n : ℕ) (w : W) → Ended E S h t a (hit n w) → m < n → stops E a (t (at S h m)) ≡ false
      go n w (ended_hit x y p b c) l = stop_before E S h t a m (omega arith)

  module _ (inside : h < S) (i : ℕ) (below : i < S) (k : K) (v : W) (own : (a : K) (w : W) → t i ≡ live a w → a ≡ k) where
    -- a place other than i's keeps what it says to a path
    kept_place : (a : K) (m : ℕ) → m < S → (m ≡ place S h i → ⊥) → put t i (live k v) (at S h m) ≡ t (at S h m)
    kept_place a m l d = put_other t i (live k v) (at S h m) (λ e. d (at_once S h m (place S h i) inside l (place_below S h i inside below) (e ∙ sym (at_place S h i inside below))))

    new_place : put t i (live k v) (at S h (place S h i)) ≡ live k v
    new_place = rw (at_place S h i inside below) (put_same t i (live k v))

    -- a key that is found stays found where a slot takes a key, which was free or had that key
    pub found_stays : (a : K) (n : ℕ) (w : W) → find E S h t a ≡ hit n w → (m : ℕ) × (x : W) × (find E S h (put t i (live k v)) a ≡ hit m x)
    unfolding stops
    found_stays a n w q =
        let (l, p) = hit_at E S h t a n w q in
        let j = place S h i in
        by_same E a k
        (λ e s. by_lt j n
        (λ d x. (
          j,
          v,
          find_hit E S h (put t i (live k v)) a j v (place_below S h i inside below) (rw (new_place, e))
              (λ m c. rw (kept_place a m (omega arith) (λ z. let y : ⊥ = omega arith in absurd y)) (hit_before a n w q m (omega arith))),
        ))
        (λ d x. by_eq n j
        (λ c y. (
          n,
          v,
          find_hit E S h (put t i (live k v)) a n v l (rw (c, new_place, e))
              (λ m c'. rw (kept_place a m (omega arith) (λ z. let y : ⊥ = omega arith in absurd y)) (hit_before a n w q m c')),
        ))
        (λ c y. (
          n,
          w,
          find_hit E S h (put t i (live k v)) a n w l (kept_place a n l c ∙ p)
              (λ m c'. rw (kept_place a m (omega arith) (λ z. let y : ⊥ = omega arith in absurd y)) (hit_before a n w q m c')),
        ))))
        (λ s. (
          n,
          w,
          find_hit E S h (put t i (live k v)) a n w l
              (kept_place a n l (λ z. let y : E.same a k ≡ true = rw (own a w ((ap t (sym (ap (λ x. at S h x) z ∙ at_place S h i inside below))) ∙ p)) (E.self k) in clash (cc)) ∙ p)
              (λ m c. by_eq m j
              (λ z y. rw (z, new_place) s)
              (λ z y. rw (kept_place a m (omega arith) z) (hit_before a n w q m c))),
        ))

mass_low : {K : Type 0} (f g : K → ℕ) → ((a : K) → f a ≤ g a) → (ks : List K) → mass f ks ≤ mass g ks
unfolding mass
mass_low f g h [] = omega arith
mass_low f g h (a ∷ ks) = omega (arith, h a, mass_low f g h ks)

module _ {K W : Type 0} (M : Store K W) where
  missed_hit : (x : Find W) → missed M x ≡ false → (n : ℕ) × (w : W) × (x ≡ hit n w)
  unfolding missed
  missed_hit (hit n w) e = (n, w, refl)
  missed_hit (miss e f) q = clash cc
  missed_hit damage q = clash cc

  free_weighs : (g : K → ℕ) (s : Slot K W) → frees s ≡ true → weigh g s ≡ 0
  unfolding frees weigh
  free_weighs g never e = refl
  free_weighs g freed e = refl
  free_weighs g damaged e = clash cc
  free_weighs g (live a w) e = clash cc

  module _ (T : Steady M) (m n : M.State) (i : ℕ) (k : K) (v : W) (l : i < M.size m) (z : M.sized m ≡ true) (own : (a : K) (w : W) → M.slots m i ≡ live a w → a ≡ k) (wrote : Wrote M (λ x. M.damaged_fully x ≡ false) m n (put (M.slots m) i (live k v))) where
    path_wrote : (a : K) → path M n a ≡ find M.keys (M.size m) (M.home m a) (put (M.slots m) i (live k v)) a
    unfolding path
    path_wrote a = rw (wrote.slots, wrote.size, wrote.home)

    -- it lacks no key that was there
    lacks_less : (a : K) → lacking M m a ≡ false → lacking M n a ≡ false
    unfolding lacking missed path
    lacks_less a e =
        let (x, w, q) = missed_hit (path M m a) e in
        let (y, u, p) = found_stays M.keys (M.size m) (M.home m a) (M.slots m) (T.homes m a z) i l k v own a x w q in
        rw (path_wrote a, p)

    lacks_mass : (g : K → ℕ) (ks : List K) → mass (λ a. cond (lacking M n a) (g a) 0) ks ≤ mass (λ a. cond (lacking M m a) (g a) 0) ks
    lacks_mass g ks = mass_low _ _ (λ a. by_bool (lacking M m a)
        (λ e. by_bool (lacking M n a) (λ d. rw (e, d) (omega arith)) (λ d. rw (e, d) (omega arith)))
        (λ e. rw (e, lacks_less a e) (omega arith))) ks

    unhurt_wrote : damaged_slots M m ≡ false → damaged_slots M n ≡ false
    unfolding damaged_slots
    unhurt_wrote h = rw (wrote.slots, wrote.size) (damaged_not (put (M.slots m) i (live k v)) (M.size m) (λ j b e.
        by_put (M.slots m) i (live k v) j
        (λ d q. let y : live k v ≡ damaged = sym q ∙ e in clash cc)
        (λ d q. let y : true ≡ false = sym (damaged_bad (M.slots m) (M.size m) j b (sym q ∙ e)) ∙ h in clash cc)))

    total_wrote : (g : K → ℕ) → total g (M.slots n) (M.size n) + weigh g (M.slots m i) ≡ total g (M.slots m) (M.size m) + g k
    unfolding weigh
    total_wrote g = rw (wrote.slots, wrote.size) (total_put g (M.slots m) i (live k v) (M.size m) l)

    -- a slot that gains what its key was lacking leaves room for the rest
    roomy_after : (ps : List (K × W)) → ((g : K → ℕ) → cond (lacking M m k) (g k) 0 + weigh g (M.slots m i) ≡ g k) → Roomy M m ((k, v) ∷ ps) → Roomy M n ps
    unfolding live_count used mass firsts
    roomy_after ps debt r = record {
      sized = wrote.sized ∙ r.sized;
      unharmed = wrote.good;
      unhurt = unhurt_wrote r.unhurt;
      slots_left = omega (arith, r.slots_left, wrote.size, total_wrote (λ a. 1), debt (λ a. 1), lacks_mass (λ a. 1) (firsts ps));
      bytes_left = omega (arith, r.bytes_left, wrote.bytes, total_wrote M.weight, debt M.weight, lacks_mass M.weight (firsts ps));
    }

  module _ (T : Steady M) (m : M.State) (k : K) (v : W) (ps : List (K × W)) (r : Roomy M m ((k, v) ∷ ps)) where
    -- an absent key finds a slot
    pub slot_left : (e f : ℕ) → path M m k ≡ miss e f → f < M.size m
    unfolding lacking missed live_count mass firsts path
    slot_left e f q = by_lt f (M.size m) (λ l x. l) (λ l x.
        let c : lacking M m k ≡ true = rw q in
        let full : live_count M m ≡ M.size m = no_free_full M.keys (M.size m) (M.home m k) (T.homes m k r.sized) (M.slots m) k e f q l in
        let z : ⊥ = omega (arith, r.slots_left, ap (λ y. cond {A = ℕ} y 1 0) c) in absurd z)

    -- and its bytes
    pub bytes_there : (e f : ℕ) → path M m k ≡ miss e f → used M m + M.weight k ≤ M.bytes m
    unfolding lacking missed mass firsts
    bytes_there e f q = let c : lacking M m k ≡ true = rw q in omega (arith, r.bytes_left, ap (λ y. cond {A = ℕ} y (M.weight k) 0) c)

    pub free_slot : (e f : ℕ) → path M m k ≡ miss e f → (slot_at M m k f < M.size m) × (frees (M.slots m (slot_at M m k f)) ≡ true)
    unfolding slot_at
    free_slot e f q =
        let l = slot_left e f q in
        let x = path_free M m k e f q in
        (at_below (M.size m) (M.home m k) f (T.homes m k r.sized) l, rw x (free_here (M.size m) (M.home m k) (M.slots m) (omega arith)))

    -- what one pair does: it is taken, and there is still room for the rest
    pub one_more : (x : Find W) → path M m k ≡ x → ((s : Spot W) × (spot_by M m k x ≡ ok s)) × Roomy M (rule_by M m k v x) ps
    unfolding spot_by rule_by need lacking missed weigh damaged_slots path frees
    one_more (hit n w) q =
        let (l, p) = path_live M m k n w (T.homes m k r.sized) q in
        let wrote = T.over_steady m (slot_at M m k n) k v w r.sized r.unharmed l p in (
          (occupied (slot_at M m k n) w (suc n), refl),
          roomy_after T m _ _ k v l r.sized (λ a u e. let y : live k w ≡ live a u = sym p ∙ e in cc) wrote ps (λ g. rw (q, p) (omega arith)) r,
        )
    one_more (miss e f) q =
        let l = slot_left e f q in
        let b = bytes_there e f q in
        let (c, d) = free_slot e f q in
        let wrote = T.fill_steady m (slot_at M m k f) k v r.sized r.unharmed c d b in
        rw (lt-ltb f (M.size m) l, le-leb (M.weight k) (M.bytes m - used M m) (omega arith)) (
          (vacant (slot_at M m k f) e, refl),
          roomy_after T m _ _ k v c r.sized (λ a u x. let y : true ≡ false = sym d ∙ ap frees x in clash cc) wrote ps (λ g. rw (q, free_weighs g _ d) (omega arith)) r,
        )
    one_more damage q =
        let (n, l, p) = hurt_at M.keys (M.size m) (M.home m k) (M.slots m) k q in
        let y : true ≡ false = sym (damaged_bad (M.slots m) (M.size m) (at (M.size m) (M.home m k) n) (at_below (M.size m) (M.home m k) n (T.homes m k r.sized) l) p) ∙ r.unhurt in
        clash cc

  both_false : (a b : Bool) → not (cond a true b) ≡ true → (a ≡ false) × (b ≡ false)
  both_false true b e = clash cc
  both_false false true e = clash cc
  both_false false false e = (refl, refl)

  roomy_runs : Steady M → (ps : List (K × W)) (m : M.State) → Roomy M m ps → Running M m ps
  unfolding rule
  roomy_runs T [] m r = tt
  roomy_runs T (p ∷ ps) m r = let (s, t) = one_more T m p.0 p.1 ps r (path M m p.0) refl in (s, roomy_runs T ps (rule M m p.0 p.1) t)

  -- the left of an accepted union has room for the right's pairs
  pub union_roomy : Steady M → (l r : M.State) (u : Unit {0}) → union M l r ≡ ok u → Roomy M l (pairs (M.slots r) (M.size r))
  unfolding union needs any_damage live_count
  union_roomy T l r u e =
      let (a, x) = need_ok (M.sized l) 1 _ u e in
      let y = (need_ok (M.sized r) 1 _ u x).1 in
      let (c, z) = need_ok (not (any_damage M l)) 5 _ u y in
      let d = (need_ok (not (any_damage M r)) 5 _ u z).1 in
      let c' = (pass_ok (M.carried r) _ u d).1 in
      let (f, g) = need_ok (leb (needs M (λ k. 1) l r) (M.size l - live_count M l)) 7 _ u c' in
      let (h, i) = need_ok (leb (needs M M.weight l r) (M.bytes l - used M l)) 8 _ u g in
      let (hu, ha) = both_false (damaged_slots M l) (M.damaged_fully l) c in
      record {
        sized = a;
        unharmed = ha;
        unhurt = hu;
        slots_left = omega (arith, leb-true (needs M (λ k. 1) l r) (M.size l - live_count M l) f, total_pairs (λ k. cond (lacking M l k) 1 0) (M.slots r) (M.size r), count_high (M.slots l) (M.size l));
        bytes_left = omega (arith, leb-true (needs M M.weight l r) (M.bytes l - used M l) h, total_pairs (λ k. cond (lacking M l k) (M.weight k) 0) (M.slots r) (M.size r), T.room l a ha);
      }

  -- Every pair of the right of an accepted union is taken in its turn, on any memory.
  pub union_runs : Steady M → (l r : M.State) (u : Unit {0}) → union M l r ≡ ok u → Running M l (pairs (M.slots r) (M.size r))
  union_runs T l r u e = roomy_runs T (pairs (M.slots r) (M.size r)) l (union_roomy T l r u e)
