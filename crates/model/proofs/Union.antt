-- Union on a sound left: it is accepted as its map says, and then the right's pairs are all inserted.
use Prim.Native.Nat.{ℕ, ◌+◌, ◌-◌, ◌≤◌, ◌<◌}
use mathlib.Core.Bool.{true, false, cond, not}
use mathlib.Core.List.{List, [], ◌∷◌}
use mathlib.Core.Path.{◌≡◌, ◌∙◌, ap, fun_ext}
use mathlib.Core.Option.{none}
use native.Mathlib.Omega.{arith}
use borrow.Author.Tests.{lt-ltb, le-leb, lt-leb, leb-true, leb-false}
use lib.Dec.{leb}
use Rattle.model.specs.Slots.{live, frees, total, pairs, look}
use Rattle.model.specs.Path.{miss, free_at}
use Rattle.model.specs.Finite.{Finite, is_some, or_else, contains, mass, len, insert, union_prefer_right, firsts, insert_all}
use Rattle.model.specs.Store.{Store, path, slot_at, path_length, live_count, used}
use Rattle.model.specs.Calls.{ok, need, pass, rule_by, rule, store_all, missed, lacking, needs, any_damage, union, acted, after_union}
use Rattle.model.specs.Lawful.{Lawful, Shows}
use Rattle.model.proofs.Cases.{by_bool}
use Rattle.model.proofs.Path.{at_below, free_here}
use Rattle.model.proofs.Finite.{union_proper, union_mass, insert_mass}
use Rattle.model.proofs.Pairs.{insert_all_look, last_look, lacking_less, total_pairs}
use Rattle.model.proofs.Shows.{home_below, shows_total, shows_over, shows_fill, PathOf, here, gone, path_of_law, room_free, shows_unhurt, shows_unharmed}
use Rattle.model.proofs.Accepted.{need_ok, pass_ok}
use Rattle.model.proofs.Exact.{live_len, used_mass, len_high, used_high}
use Rattle.model.proofs.Keeps.{shows_same}

module _ {K W : Type 0} (M : Store K W) (L : Lawful M) where
  module _ (m : M.State) (f : Finite K W) (s : Shows M m f) where
    pub lacking_is : (k : K) → lacking M m k ≡ not (contains f k)
    unfolding lacking missed contains is_some
    lacking_is k = go (path_of_law M L m f s k)
      where
        go : PathOf M L m f s k → missed M (path M m k) ≡ not (is_some (f.look k))
        go (here n v p e l q) = rw (p, e)
        go (gone p e) = rw (p, e)

    lacking_mass : (g : K → ℕ) → ◌≡◌ {A = K → ℕ} (λ k. cond (lacking M m k) (g k) 0) (λ k. cond (contains f k) 0 (g k))
    lacking_mass g = fun_ext (λ k. rw (lacking_is k) (by_bool (contains f k) (λ e. rw e) (λ e. rw e)))

    count_below : mass (λ a. 1) f.dom + 1 ≤ M.size m → live_count M m < M.size m
    unfolding len
    count_below h = omega (arith, live_len M L m f s)

    free_below : (k : K) → free_at (M.size m) (M.home m k) (M.slots m) < M.size m → slot_at M m k (free_at (M.size m) (M.home m k) (M.slots m)) < M.size m
    unfolding slot_at
    free_below k l = at_below (M.size m) (M.home m k) (free_at (M.size m) (M.home m k) (M.slots m)) (home_below M L m s.sound_table k) l

    free_open : (k : K) → free_at (M.size m) (M.home m k) (M.slots m) < M.size m → frees (M.slots m (slot_at M m k (free_at (M.size m) (M.home m k) (M.slots m)))) ≡ true
    unfolding slot_at
    free_open k l = free_here (M.size m) (M.home m k) (M.slots m) l

    -- an absent key that the counts admit has a free slot on its path, and its bytes
    gone_room : (k : K) (v : W) → mass (λ a. 1) (insert M.keys f k v).dom ≤ M.size m → mass M.weight (insert M.keys f k v).dom ≤ M.bytes m → path M m k ≡ miss (path_length M m k) (free_at (M.size m) (M.home m k) (M.slots m)) → f.look k ≡ none → (free_at (M.size m) (M.home m k) (M.slots m) < M.size m) × (used M m + M.weight k ≤ M.bytes m)
    unfolding contains is_some
    gone_room k v a b p e =
        let c : contains f k ≡ false = ap (λ o. is_some o) e in
        let one : mass (λ a. 1) f.dom + 1 ≤ M.size m = omega (arith, insert_mass M.keys (λ a. 1) f k v, ap (λ y. cond {A = ℕ} y 0 1) c) in
        let all : mass M.weight f.dom + M.weight k ≤ M.bytes m = omega (arith, insert_mass M.keys M.weight f k v, ap (λ y. cond {A = ℕ} y 0 (M.weight k)) c) in
        (room_free M L m f s k p (count_below one), omega (arith, used_mass M L m f s))

    -- what the rule writes, where an absent key has a slot and its bytes
    pub data Ruled (k : K) (v : W) : Type 0 where
      ruled_over : (n : ℕ) (w : W) → slot_at M m k n < M.size m → M.slots m (slot_at M m k n) ≡ live k w → rule_by M m k v (path M m k) ≡ M.over m (slot_at M m k n) v → Ruled k v
      ruled_fill : (n : ℕ) → slot_at M m k n < M.size m → frees (M.slots m (slot_at M m k n)) ≡ true → used M m + M.weight k ≤ M.bytes m → rule_by M m k v (path M m k) ≡ M.fill m (slot_at M m k n) k v → Ruled k v

    pub rule_cases : (k : K) (v : W) → mass (λ a. 1) (insert M.keys f k v).dom ≤ M.size m → mass M.weight (insert M.keys f k v).dom ≤ M.bytes m → Ruled k v
    unfolding rule_by contains is_some
    rule_cases k v a b = go (path_of_law M L m f s k)
      where
        go : PathOf M L m f s k → Ruled k v
        go (here n w p e l q) = ruled_over n w l q (rw p)
        go (gone p e) =
            let (l, u) = gone_room k v a b p e in
            ruled_fill (free_at (M.size m) (M.home m k) (M.slots m)) (free_below k l) (free_open k l) u (rw (p, lt-ltb (free_at (M.size m) (M.home m k) (M.slots m)) (M.size m) l))

    -- the rule inserts the pair
    pub rule_shows : (k : K) (v : W) → mass (λ a. 1) (insert M.keys f k v).dom ≤ M.size m → mass M.weight (insert M.keys f k v).dom ≤ M.bytes m → Shows M (rule M m k v) (insert M.keys f k v) × (M.size (rule M m k v) ≡ M.size m) × (M.bytes (rule M m k v) ≡ M.bytes m)
    unfolding rule rule_by
    rule_shows k v a b = go (path_of_law M L m f s k)
      where
        go : PathOf M L m f s k → Shows M (rule_by M m k v (path M m k)) (insert M.keys f k v) × (M.size (rule_by M m k v (path M m k)) ≡ M.size m) × (M.bytes (rule_by M m k v (path M m k)) ≡ M.bytes m)
        go (here n w p e l q) =
            let x = L.over_wrote m (slot_at M m k n) k v w s.sound_table.sized s.sound_table.good l q in
            rw p (shows_over M L m f s (slot_at M m k n) k v w l q, x.size, x.bytes)
        go (gone p e) =
            let (l, u) = gone_room k v a b p e in
            let x = L.fill_wrote m (slot_at M m k (free_at (M.size m) (M.home m k) (M.slots m))) k v s.sound_table.sized s.sound_table.good (free_below k l) (free_open k l) u in
            rw (p, lt-ltb (free_at (M.size m) (M.home m k) (M.slots m)) (M.size m) l) (shows_fill M L m f s k v e l u, x.size, x.bytes)

  -- the rule for each pair, where the keys that the map lacks have slots and bytes
  pub all_shows : (ps : List (K × W)) (m : M.State) (f : Finite K W) → Shows M m f → mass (λ k. 1) f.dom + mass (λ k. cond (contains f k) 0 1) (firsts ps) ≤ M.size m → mass M.weight f.dom + mass (λ k. cond (contains f k) 0 (M.weight k)) (firsts ps) ≤ M.bytes m → Shows M (store_all M m ps) (insert_all M.keys f ps)
  unfolding store_all insert_all firsts mass
  all_shows [] m f s a b = s
  all_shows (p ∷ ps) m f s a b =
      let one = insert_mass M.keys (λ k. 1) f p.0 p.1 in
      let all = insert_mass M.keys M.weight f p.0 p.1 in
      let (t, x, y) = rule_shows m f s p.0 p.1 (omega arith) (omega arith) in
      all_shows ps (rule M m p.0 p.1) (insert M.keys f p.0 p.1) t
      (omega (arith, lacking_less M.keys (λ k. 1) f p.0 p.1 (firsts ps)))
      (omega (arith, lacking_less M.keys M.weight f p.0 p.1 (firsts ps)))

  module _ (l r : M.State) (f : Finite K W) (s : Shows M l f) where
    -- what union needs, over the right's pairs
    pub needs_pairs : (g : K → ℕ) → needs M g l r ≡ mass (λ k. cond (contains f k) 0 (g k)) (firsts (pairs (M.slots r) (M.size r)))
    unfolding needs
    needs_pairs g = rw (lacking_mass l f s g) (total_pairs (λ k. cond (contains f k) 0 (g k)) (M.slots r) (M.size r))

    live_length : live_count M l ≡ mass (λ k. 1) f.dom
    unfolding len
    live_length = live_len M L l f s

    -- an accepted union has room for all of the right's pairs
    pub union_room : (u : Unit {0}) → union M l r ≡ ok u → (mass (λ k. 1) f.dom + mass (λ k. cond (contains f k) 0 1) (firsts (pairs (M.slots r) (M.size r))) ≤ M.size l) × (mass M.weight f.dom + mass (λ k. cond (contains f k) 0 (M.weight k)) (firsts (pairs (M.slots r) (M.size r))) ≤ M.bytes l)
    unfolding union
    union_room u e =
        let a = (need_ok (M.sized l) 1 _ u e).1 in
        let b = (need_ok (M.sized r) 1 _ u a).1 in
        let c = (need_ok (not (any_damage M l)) 5 _ u b).1 in
        let d = (need_ok (not (any_damage M r)) 5 _ u c).1 in
        let z = (pass_ok (M.carried r) _ u d).1 in
        let x = need_ok (leb (needs M (λ k. 1) l r) (M.size l - live_count M l)) 7 _ u z in
        let y = need_ok (leb (needs M M.weight l r) (M.bytes l - used M l)) 8 _ u x.1 in (
          omega (arith, leb-true (needs M (λ k. 1) l r) (M.size l - live_count M l) x.0, needs_pairs (λ k. 1), live_length, len_high M L l f s),
          omega (arith, leb-true (needs M M.weight l r) (M.bytes l - used M l) y.0, needs_pairs M.weight, used_mass M L l f s, used_high M L l f s),
        )

    -- an accepted union of a sound left and ANY right: the right's pairs are inserted in slot order
    pub union_shows : (u : Unit {0}) → union M l r ≡ ok u → Shows M (store_all M l (pairs (M.slots r) (M.size r))) (insert_all M.keys f (pairs (M.slots r) (M.size r)))
    union_shows u e = let (a, b) = union_room u e in all_shows (pairs (M.slots r) (M.size r)) l f s a b

    -- the map of an accepted union: the right's value, of each key's last live slot, else the left's
    pub union_look : (u : Unit {0}) → union M l r ≡ ok u → (a : K) → look M.keys (M.slots (after_union M l r)) (M.size (after_union M l r)) a ≡ or_else (look M.keys (M.slots r) (M.size r) a) (f.look a)
    unfolding after_union acted
    union_look u e a = rw e ((union_shows u e).looks a ∙ insert_all_look M.keys f (pairs (M.slots r) (M.size r)) a ∙ ap (λ o. or_else o (f.look a)) (last_look M.keys a (M.slots r) (M.size r)))

    lacked_needs : (g : K → ℕ) → needs M g l r ≡ total (λ k. cond (contains f k) 0 (g k)) (M.slots r) (M.size r)
    unfolding needs
    lacked_needs g = rw (lacking_mass l f s g)

    -- what a union with ANY right answers: its sizes, its damage and its keys, then the slots and bytes that the map's lacking keys need, counted over its live slots
    pub union_any : union M l r ≡ need (M.sized r) 1 (need (not (any_damage M r)) 5 (pass (M.carried r) (need (leb (total (λ k. cond (contains f k) 0 1) (M.slots r) (M.size r)) (M.size l - mass (λ k. 1) f.dom)) 7 (need (leb (total (λ k. cond (contains f k) 0 (M.weight k)) (M.slots r) (M.size r)) (M.bytes l - mass M.weight f.dom)) 8 (ok tt)))))
    unfolding union need any_damage
    union_any = rw (s.sound_table.sized, shows_unhurt M L l f s, shows_unharmed M L l f s, lacked_needs (λ k. 1), lacked_needs M.weight, live_length, used_mass M L l f s)

    module _ (g : Finite K W) (t : Shows M r g) where
      -- a known right: union_prefer_right of the two maps
      pub union_map : (u : Unit {0}) → union M l r ≡ ok u → Shows M (after_union M l r) (union_prefer_right f g)
      unfolding after_union acted union_prefer_right
      union_map u e = rw e (shows_same M (insert_all M.keys f (pairs (M.slots r) (M.size r))) (union_prefer_right f g) (union_shows u e)
          (λ a. insert_all_look M.keys f (pairs (M.slots r) (M.size r)) a ∙ ap (λ o. or_else o (f.look a)) (last_look M.keys a (M.slots r) (M.size r) ∙ t.looks a))
          (union_proper M.keys f g s.proper t.proper))

      needs_mass : (w : K → ℕ) → needs M w l r ≡ mass (λ k. cond (contains f k) 0 (w k)) g.dom
      unfolding needs
      needs_mass w = rw (lacking_mass l f s w) (shows_total M L r g t (λ k. cond (contains f k) 0 (w k)))

      -- refused for a key of the right, and else exactly when the union would have more keys than slots, or more bytes than the arena
      pub union_known : union M l r ≡ pass (M.carried r) (need (leb (mass (λ k. 1) (union_prefer_right f g).dom) (M.size l)) 7 (need (leb (mass M.weight (union_prefer_right f g).dom) (M.bytes l)) 8 (ok tt)))
      unfolding union need any_damage
      union_known =
          let a = union_mass M.keys (λ k. 1) f g in
          let b = union_mass M.keys M.weight f g in
          let one = needs_mass (λ k. 1) in
          let all = needs_mass M.weight in
          rw (s.sound_table.sized, t.sound_table.sized, shows_unhurt M L l f s, shows_unharmed M L l f s, shows_unhurt M L r g t, shows_unharmed M L r g t)
          (ap (pass (M.carried r)) (by_bool (leb (needs M (λ k. 1) l r) (M.size l - live_count M l))
          (λ x. rw (x, le-leb (mass (λ k. 1) (union_prefer_right f g).dom) (M.size l) (omega (arith, leb-true (needs M (λ k. 1) l r) (M.size l - live_count M l) x, live_length, len_high M L l f s)))
          (by_bool (leb (needs M M.weight l r) (M.bytes l - used M l))
          (λ y. rw (y, le-leb (mass M.weight (union_prefer_right f g).dom) (M.bytes l) (omega (arith, leb-true (needs M M.weight l r) (M.bytes l - used M l) y, used_mass M L l f s, used_high M L l f s))))
          (λ y. rw (y, lt-leb (mass M.weight (union_prefer_right f g).dom) (M.bytes l) (omega (arith, leb-false (needs M M.weight l r) (M.bytes l - used M l) y, used_mass M L l f s))))))
          (λ x. rw (x, lt-leb (mass (λ k. 1) (union_prefer_right f g).dom) (M.size l) (omega (arith, leb-false (needs M (λ k. 1) l r) (M.size l - live_count M l) x, live_length))))))
