-- On a sound memory what a path, a handle and the counting calls answer, whole: by the map, with the path's own slots and examined number.
use Prim.Native.Nat.{ℕ, suc, ◌+◌, ◌-◌, ◌≤◌, ◌<◌}
use mathlib.Core.Bool.{cond, not}
use mathlib.Core.Option.{Option, none, some}
use mathlib.Core.Path.{◌≡◌, refl, sym, ◌∙◌, ap}
use native.Mathlib.Omega.{arith}
use borrow.Author.Tests.{le-leb, lt-leb, leb-true, leb-false}
use lib.Dec.{leb}
use Rattle.model.specs.Slots.{Slot, never, freed, damaged, live, holds}
use Rattle.model.specs.Path.{hit, free_at}
use Rattle.model.specs.Finite.{Finite, is_some, contains, mass, len}
use Rattle.model.specs.Store.{Store, path, slot_at, path_length, live_count, used, damaged_slots}
use Rattle.model.specs.Calls.{Or, no, ok, need, Seen, found, absent, Spot, occupied, vacant, seen_by, spot_by, capacity, length, any_damage, reserve, held_on, held_at}
use Rattle.model.specs.Demand2.{grown, holds_now}
use Rattle.model.specs.Lawful.{Lawful, Shows}
use Rattle.model.proofs.Cases.{by_bool, by_lt, by_same}
use Rattle.model.proofs.Path.{hit_examined}
use Rattle.model.proofs.Sound.{sound_look}
use Rattle.model.proofs.Slots.{count_high}
use Rattle.model.proofs.Shows.{shows_total, PathOf, here, gone, path_of_law, free_room, room_free, shows_unhurt, shows_unharmed, home_below}

module _ {K W : Type 0} (M : Store K W) (m : M.State) where
  -- what a lookup answers, by the map's word on the key
  unfoldable pub seen_for : K → Option W → Seen W
  seen_for k none = absent (path_length M m k)
  seen_for k (some v) = found v (slot_at M m k (path_length M m k - 1)) (path_length M m k)

  -- what insert and entry answer, where nothing is refused
  unfoldable pub spot_for : K → Option W → Spot W
  spot_for k none = vacant (slot_at M m k (free_at (M.size m) (M.home m k) (M.slots m))) (path_length M m k)
  spot_for k (some v) = occupied (slot_at M m k (path_length M m k - 1)) v (path_length M m k)

-- a handle's value, by the map's word on the key
unfoldable pub held_for : {W : Type 0} → Option W → Or W
held_for none = no 6
held_for (some v) = ok v

module _ {K W : Type 0} (M : Store K W) (L : Lawful M) (m : M.State) (f : Finite K W) (s : Shows M m f) where
  -- the tests before the path pass
  open_need : {A : Type 0} (a : Or A) → need (M.sized m) 1 a ≡ a
  unfolding need
  open_need a = rw s.sound_table.sized

  whole_need : {A : Type 0} (a : Or A) → need (not (damaged_slots M m)) 5 a ≡ a
  unfolding need
  whole_need a = rw (shows_unhurt M L m f s)

  calm_need : {A : Type 0} (a : Or A) → need (not (any_damage M m)) 5 a ≡ a
  unfolding need any_damage
  calm_need a = rw (shows_unhurt M L m f s, shows_unharmed M L m f s)

  pub live_len : live_count M m ≡ len f
  unfolding live_count len
  live_len = shows_total M L m f s (λ k. 1)

  pub used_mass : used M m ≡ mass M.weight f.dom
  unfolding used
  used_mass = shows_total M L m f s M.weight

  pub len_high : mass (λ k. 1) f.dom ≤ M.size m
  unfolding live_count len
  len_high = omega (arith, live_len, count_high (M.slots m) (M.size m))

  pub used_high : mass M.weight f.dom ≤ M.bytes m
  used_high = omega (arith, used_mass, L.within m s.sound_table.sized s.sound_table.good)

  hit_length : (k : K) (n : ℕ) (v : W) → path M m k ≡ hit n v → path_length M m k ≡ suc n
  unfolding path path_length
  hit_length k n v p = hit_examined M.keys (M.size m) (M.home m k) (M.slots m) k n v p

  pub seen_is : (k : K) → seen_by M m k (path M m k) ≡ ok (seen_for M m k (f.look k))
  unfolding seen_by seen_for
  seen_is k = go (path_of_law M L m f s k)
    where
      go : PathOf M L m f s k → seen_by M m k (path M m k) ≡ ok (seen_for M m k (f.look k))
      go (here n v p e l q) = let z : suc n - 1 ≡ n = omega arith in rw (p, e, hit_length k n v p, z)
      go (gone p e) = rw (p, e)

  pub spot_is : (k : K) → spot_by M m k (path M m k) ≡ need (leb (mass (λ a. 1) (grown M f k)) (M.size m)) 7 (need (leb (mass M.weight (grown M f k)) (M.bytes m)) 8 (ok (spot_for M m k (f.look k))))
  unfolding spot_by spot_for grown contains is_some mass need len
  spot_is k = go (path_of_law M L m f s k)
    where
      go : PathOf M L m f s k → spot_by M m k (path M m k) ≡ need (leb (mass (λ a. 1) (grown M f k)) (M.size m)) 7 (need (leb (mass M.weight (grown M f k)) (M.bytes m)) 8 (ok (spot_for M m k (f.look k))))
      go (here n v p e l q) = let z : suc n - 1 ≡ n = omega arith in rw (p, e, le-leb (mass (λ k. 1) f.dom) (M.size m) len_high, le-leb (mass M.weight f.dom) (M.bytes m) used_high, hit_length k n v p, z)
      go (gone p e) = by_lt (free_at (M.size m) (M.home m k) (M.slots m)) (M.size m)
          (λ l x. let c : 1 + mass (λ k. 1) f.dom ≤ M.size m = omega (arith, free_room M L m f s k e l, live_len) in
          by_bool (leb (M.weight k) (M.bytes m - used M m))
          (λ y. rw (p, e, x, y, le-leb (1 + mass (λ k. 1) f.dom) (M.size m) c, le-leb (M.weight k + mass M.weight f.dom) (M.bytes m) (omega (arith, leb-true (M.weight k) (M.bytes m - used M m) y, used_mass, used_high))))
          (λ y. rw (p, e, x, y, le-leb (1 + mass (λ k. 1) f.dom) (M.size m) c, lt-leb (M.weight k + mass M.weight f.dom) (M.bytes m) (omega (arith, leb-false (M.weight k) (M.bytes m - used M m) y, used_mass, used_high)))))
          (λ l x. by_lt (live_count M m) (M.size m)
          (λ c y. let z : ⊥ = omega (arith, room_free M L m f s k p c) in absurd z)
          (λ c y. rw (p, e, x, lt-leb (1 + mass (λ k. 1) f.dom) (M.size m) (omega (arith, live_len)))))

  pub grip_is : (i : ℕ) (k : K) → held_at M m i k ≡ cond (holds_now M m i k) (held_for (f.look k)) (no 6)
  unfolding held_at holds_now need held_on holds held_for
  grip_is i k = by_lt i (M.size m) (λ l x. rw x (go l (M.slots m i) refl)) (λ l x. rw x)
    where
      go : (l : i < M.size m) (c : Slot K W) → M.slots m i ≡ c → held_on M k c ≡ cond (holds M.keys k c) (held_for (f.look k)) (no 6)
      go l never e = refl
      go l freed e = refl
      go l damaged e = absurd (s.sound_table.sound.whole i l e)
      go l (live a v) e = by_same M.keys k a
          (λ q x. let p : f.look k ≡ some v = sym (s.looks k) ∙ sound_look M.keys (M.size m) (M.home m) (home_below M L m s.sound_table) (M.slots m) s.sound_table.sound k i v l (e ∙ ap (λ y. live y v) (sym q)) in rw (x, p))
          (λ x. rw x)

  pub length_is : length M m ≡ ok (len f)
  unfolding length
  length_is = rw (open_need (need (not (damaged_slots M m)) 5 (ok (live_count M m))), whole_need (ok (live_count M m)), live_len)

  pub capacity_is : capacity M m ≡ ok (M.size m)
  unfolding capacity
  capacity_is = open_need (ok (M.size m))

  pub reserve_is : (n b : ℕ) → reserve M m n b ≡ need (leb n (M.size m - len f)) 7 (need (leb b (M.bytes m - mass M.weight f.dom)) 8 (ok tt))
  unfolding reserve
  reserve_is n b =
      let fits : Or (Unit {0}) = need (leb n (M.size m - live_count M m)) 7 (need (leb b (M.bytes m - used M m)) 8 (ok (tt {0}))) in
      open_need (need (not (any_damage M m)) 5 fits) ∙ calm_need fits ∙ rw (live_len, used_mass)
