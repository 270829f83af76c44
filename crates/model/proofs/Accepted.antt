-- What an accepted call tells, on any memory: its tests passed, and where its slot is.
use Prim.Native.Nat.{ℕ, zero, suc, ◌-◌, ◌≤◌, ◌<◌}
use mathlib.Core.Bool.{Bool, true, false, not}
use mathlib.Core.Path.{◌≡◌, refl, sym, ◌∙◌, ap}
use borrow.Author.Tests.{ltb-true, leb-true, eqb-true}
use lib.Dec.{ltb, leb, eqb}
use Rattle.model.proofs.Cases.{clash}
use Rattle.model.specs.Slots.{Slot, never, freed, damaged, live}
use Rattle.model.specs.Path.{Find, hit, miss, damage}
use Rattle.model.specs.Store.{Store, path, slot_at, used}
use Rattle.model.specs.Calls.{Or, no, ok, need, pass, Seen, found, absent, Spot, occupied, vacant, seen_by, spot_by, entry, put_spot, remove, held_on, held_at, occupied_get, occupied_remove, good_for, vacancy}

module _ {A : Type 0} where
  pub need_ok : (b : Bool) (n : ℕ) (a : Or A) (x : A) → need b n a ≡ ok x → (b ≡ true) × (a ≡ ok x)
  unfolding need
  need_ok true n a x e = (refl, e)
  need_ok false n a x e = clash cc

  pub pass_ok : (n : ℕ) (a : Or A) (x : A) → pass n a ≡ ok x → (n ≡ 0) × (a ≡ ok x)
  unfolding pass
  pass_ok zero a x e = (refl, e)
  pass_ok (suc n) a x e = clash cc

module _ {K W : Type 0} (M : Store K W) (m : M.State) (k : K) where
  storing : {A : Type 0} (n : ℕ) (a : Or A) (x : A) → need (M.sized m) 1 (pass n (need (not (M.damaged_fully m)) 5 a)) ≡ ok x → a ≡ ok x
  storing n a x e = (need_ok (not (M.damaged_fully m)) 5 a x (pass_ok n (need (not (M.damaged_fully m)) 5 a) x (need_ok (M.sized m) 1 (pass n (need (not (M.damaged_fully m)) 5 a)) x e).1).1).1

  pub seen_found : (v : W) (i e : ℕ) → seen_by M m k (path M m k) ≡ ok (found v i e) → (n : ℕ) × (path M m k ≡ hit n v) × (i ≡ slot_at M m k n) × (e ≡ suc n)
  unfolding seen_by
  seen_found v i e q = go (path M m k) refl
    where
      go : (r : Find W) → path M m k ≡ r → (n : ℕ) × (path M m k ≡ hit n v) × (i ≡ slot_at M m k n) × (e ≡ suc n)
      go (hit n w) p = let r : ok (found w (slot_at M m k n) (suc n)) ≡ ok (found v i e) = rw p at q in (n, p ∙ ap (λ x. hit n x) cc, cc, cc)
      go (miss x f) p = let r : ok (absent x) ≡ ok (found v i e) = rw p at q in clash cc
      go damage p = let r : no 5 ≡ ok (found v i e) = rw p at q in clash cc

  pub seen_absent : (e : ℕ) → seen_by M m k (path M m k) ≡ ok (absent e) → (f : ℕ) × (path M m k ≡ miss e f)
  unfolding seen_by
  seen_absent e q = go (path M m k) refl
    where
      go : (r : Find W) → path M m k ≡ r → (f : ℕ) × (path M m k ≡ miss e f)
      go (hit n w) p = let r : ok (found w (slot_at M m k n) (suc n)) ≡ ok (absent e) = rw p at q in clash cc
      go (miss x f) p = let r : ok (absent x) ≡ ok (absent e) = rw p at q in (f, p ∙ ap (λ y. miss y f) cc)
      go damage p = let r : no 5 ≡ ok (absent e) = rw p at q in clash cc

  pub spot_occupied : (v : W) (i e : ℕ) → spot_by M m k (path M m k) ≡ ok (occupied i v e) → (n : ℕ) × (path M m k ≡ hit n v) × (i ≡ slot_at M m k n) × (e ≡ suc n)
  unfolding spot_by
  spot_occupied v i e q = go (path M m k) refl
    where
      go : (r : Find W) → path M m k ≡ r → (n : ℕ) × (path M m k ≡ hit n v) × (i ≡ slot_at M m k n) × (e ≡ suc n)
      go (hit n w) p = let r : ok (occupied (slot_at M m k n) w (suc n)) ≡ ok (occupied i v e) = rw p at q in (n, p ∙ ap (λ x. hit n x) cc, cc, cc)
      go (miss x f) p =
          let (a, r) = need_ok (ltb f (M.size m)) 7 (need (leb (M.weight k) (M.bytes m - used M m)) 8 (ok (vacant (slot_at M m k f) x))) (occupied i v e) (rw p at q) in
          let (b, t) = need_ok (leb (M.weight k) (M.bytes m - used M m)) 8 (ok (vacant (slot_at M m k f) x)) (occupied i v e) r in
          clash cc
      go damage p = let r : no 5 ≡ ok (occupied i v e) = rw p at q in clash cc

  pub spot_vacant : (i e : ℕ) → spot_by M m k (path M m k) ≡ ok (vacant i e) → (f : ℕ) × (path M m k ≡ miss e f) × (i ≡ slot_at M m k f) × (f < M.size m) × (M.weight k ≤ M.bytes m - used M m)
  unfolding spot_by
  spot_vacant i e q = go (path M m k) refl
    where
      go : (r : Find W) → path M m k ≡ r → (f : ℕ) × (path M m k ≡ miss e f) × (i ≡ slot_at M m k f) × (f < M.size m) × (M.weight k ≤ M.bytes m - used M m)
      go (hit n w) p = let r : ok (occupied (slot_at M m k n) w (suc n)) ≡ ok (vacant i e) = rw p at q in clash cc
      go (miss x f) p =
          let (a, r) = need_ok (ltb f (M.size m)) 7 (need (leb (M.weight k) (M.bytes m - used M m)) 8 (ok (vacant (slot_at M m k f) x))) (vacant i e) (rw p at q) in
          let (b, t) = need_ok (leb (M.weight k) (M.bytes m - used M m)) 8 (ok (vacant (slot_at M m k f) x)) (vacant i e) r in
          (f, p ∙ ap (λ y. miss y f) cc, cc, ltb-true f (M.size m) a, leb-true (M.weight k) (M.bytes m - used M m) b)
      go damage p = let r : no 5 ≡ ok (vacant i e) = rw p at q in clash cc

  pub grip_live : (i : ℕ) (v : W) → held_at M m i k ≡ ok v → (i < M.size m) × (M.slots m i ≡ live k v)
  unfolding held_at held_on
  grip_live i v e =
      let (a, r) = need_ok (ltb i (M.size m)) 6 (held_on M k (M.slots m i)) v e in
      (ltb-true i (M.size m) a, go (M.slots m i) r)
    where
      go : (c : Slot K W) → held_on M k c ≡ ok v → c ≡ live k v
      go never r = clash cc
      go freed r = clash cc
      go damaged r = clash cc
      go (live a w) r = let (b, t) = need_ok (M.keys.same k a) 6 (ok w) v r in ap (λ y. live y w) (sym (M.keys.right k a b)) ∙ ap (λ y. live k y) cc

  pub good_vacant : (i : ℕ) (u : Unit {0}) → good_for M i (spot_by M m k (path M m k)) ≡ ok u → (e : ℕ) × (spot_by M m k (path M m k) ≡ ok (vacant i e))
  unfolding good_for
  good_vacant i u q = go (spot_by M m k (path M m k)) refl q
    where
      go : (r : Or (Spot W)) → spot_by M m k (path M m k) ≡ r → good_for M i r ≡ ok u → (e : ℕ) × (spot_by M m k (path M m k) ≡ ok (vacant i e))
      go (no n) p t = clash cc
      go (ok (occupied x w e)) p t = clash cc
      go (ok (vacant x e)) p t = let (b, y) = need_ok (eqb i x) 6 (ok (tt {0})) u t in (e, p ∙ ap (λ z. ok (vacant z e)) (sym (eqb-true i x b)))

  -- an accepted call's tests passed: what is left is the path's or the handle's own answer
  pub entry_spot : (x : Spot W) → entry M m k ≡ ok x → spot_by M m k (path M m k) ≡ ok x
  unfolding entry
  entry_spot x e = storing (M.kept k) (spot_by M m k (path M m k)) x e

  pub put_taken : (x : Spot W) → put_spot M m k ≡ ok x → spot_by M m k (path M m k) ≡ ok x
  unfolding put_spot pass
  put_taken x e = storing 0 (spot_by M m k (path M m k)) x e

  pub remove_seen : (x : Seen W) → remove M m k ≡ ok x → seen_by M m k (path M m k) ≡ ok x
  unfolding remove
  remove_seen x e = storing (M.asked k) (seen_by M m k (path M m k)) x e

  pub occupied_grip : (i : ℕ) (x : W) → occupied_get M m i k ≡ ok x → held_at M m i k ≡ ok x
  unfolding occupied_get
  occupied_grip i x e = (pass_ok (M.asked k) (held_at M m i k) x (need_ok (M.sized m) 1 (pass (M.asked k) (held_at M m i k)) x e).1).1

  pub removed_grip : (i : ℕ) (x : W) → occupied_remove M m i k ≡ ok x → held_at M m i k ≡ ok x
  unfolding occupied_remove
  removed_grip i x e = storing (M.asked k) (held_at M m i k) x e

  pub vacancy_good : (i : ℕ) (u : Unit {0}) → vacancy M m i k ≡ ok u → good_for M i (spot_by M m k (path M m k)) ≡ ok u
  unfolding vacancy
  vacancy_good i u e = storing (M.kept k) (good_for M i (spot_by M m k (path M m k))) u e
