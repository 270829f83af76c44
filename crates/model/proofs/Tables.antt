-- The tables of any lawful store, for demand 3: what is known of them stays so, and no call but make, clear and copy moves a key of a known table.
-- A call leaves a memory as it was, or changes one slot of it (`Changed`), or makes it anew. A changed slot keeps every other live key in its place,
-- so a key that is still in the map stands where it stood (`Stood`). What is known of the maps is carried along by `left_shows`.
use Prim.Native.Nat.{ℕ, zero, suc, ◌+◌, ◌≤◌, ◌<◌}
use mathlib.Core.Bool.{Bool, true, false, cond, ◌&&◌}
use mathlib.Core.List.{List, [], ◌∷◌, ◌++◌}
use mathlib.Core.Path.{◌≡◌, refl, sym, ◌∙◌, ap, subst}
use mathlib.Core.Option.{Option, none, some}
use native.Mathlib.Omega.{arith}
use borrow.Author.Tests.{eqb-true, eq-eqb}
use lib.Dec.{eqb, ltb}
use Rattle.model.specs.Slots.{Slot, never, freed, damaged, live, Table, Keys, put, frees, count, pair_of, pairs, look}
use Rattle.model.specs.Finite.{Finite, is_some, contains, mass, len, insert, member, Once, once_none, once_more, Proper, firsts, last_in, or_else, finite_of}
use Rattle.model.specs.Path.{Find, hit, miss, damage, at, free_at}
use Rattle.model.specs.Store.{Store, path, slot_at, live_count, used}
use Rattle.model.specs.Calls.{Or, no, ok, Seen, found, absent, Spot, occupied, vacant, on_occupied, on_vacant, spot_by, entry, stored_by, after_insert, put_spot, after_put, need, capacity, after_make, copy, after_copy, union, after_union, remove, removed_by, after_remove, acted, rule_by, rule, store_all, occupied_get, after_set, occupied_remove, after_drop, vacancy, after_fill, after_or_insert, after_insert_entry}
use Rattle.model.specs.Machine.{Own, makes, clears, capacities, lens, empties, reserves, gets, contains_keys, removes, entries, inserts, puts, occupied_gets, occupied_removes, occupied_sets, vacant_inserts, or_inserts, insert_entries, Call, own, copies, unions, steps, World, placed, leaves, stepping, answer, left, turned}
use Rattle.model.specs.Demand2.{renews, refuses, becomes, Book, booked}
use Rattle.model.specs.Walk.{step}
use Rattle.model.specs.Demand3.{look_in}
use Rattle.model.proofs.Demand2.{left_shows}
use Rattle.model.specs.Tables.{sweeps, Sure}
use Rattle.model.specs.Lawful.{Lawful, SoundTable, Shows}
use Rattle.model.proofs.Cases.{by_bool, by_eq, by_same, clash}
use Rattle.model.proofs.Slots.{by_put, look_some}
use Rattle.model.proofs.Pairs.{last_look, lacking_less}
use Rattle.model.proofs.Finite.{once_append, some_is, insert_mass}
use Rattle.model.proofs.Path.{at_below, free_here}
use Rattle.model.proofs.Change.{removed_look}
use Rattle.model.proofs.Sound.{once_look}
use Rattle.model.proofs.Shows.{home_below}
use Rattle.model.proofs.Exact.{live_len}
use Rattle.model.proofs.Keeps.{path_live, path_free}
use Rattle.model.proofs.Union.{rule_shows, Ruled, ruled_over, ruled_fill, rule_cases, union_room}
use Rattle.model.proofs.Accepted.{need_ok, seen_found, spot_occupied, spot_vacant, grip_live, good_vacant, entry_spot, put_taken, remove_seen, occupied_grip, removed_grip, vacancy_good}

module _ {K W : Type 0} (E : Keys K) where
  member_last : (k : K) (ps : List (K × W)) → member E k (firsts ps) ≡ is_some (last_in E k ps)
  unfolding member firsts last_in is_some or_else
  member_last k [] = refl
  member_last k (p ∷ ps) = go (E.same k p.0) (last_in E k ps) (member_last k ps)
    where
      go : (b : Bool) (o : Option W) → member E k (firsts ps) ≡ is_some o → cond b true (member E k (firsts ps)) ≡ is_some (or_else o (cond b (some p.1) none))
      go true none e = refl
      go true (some v) e = refl
      go false none e = e
      go false (some v) e = e

  firsts_append : (ps qs : List (K × W)) → firsts (ps ++ qs) ≡ firsts ps ++ firsts qs
  unfolding firsts
  firsts_append [] qs = refl
  firsts_append (p ∷ ps) qs = ap (λ x. p.0 ∷ x) (firsts_append ps qs)

  pair_lacks : (k : K) (s : Slot K W) → ((w : W) → s ≡ live k w → ⊥) → member E k (firsts (pair_of s)) ≡ false
  unfolding member firsts pair_of
  pair_lacks k never h = refl
  pair_lacks k freed h = refl
  pair_lacks k damaged h = refl
  pair_lacks k (live a v) h = by_same E k a (λ q e. absurd (h v (ap (λ x. live x v) (sym q)))) (λ e. rw e)

  pair_once : (s : Slot K W) → Once E (firsts (pair_of s))
  unfolding firsts pair_of member
  pair_once never = once_none
  pair_once freed = once_none
  pair_once damaged = once_none
  pair_once (live a v) = once_more refl once_none

  -- where each live key stands once, a table's pairs have no key twice
  pub pairs_once : (S : ℕ) (t : Table K W) → ((i j : ℕ) (k : K) (v w : W) → i < S → j < S → t i ≡ live k v → t j ≡ live k w → i ≡ j) → (n : ℕ) → n ≤ S → Once E (firsts (pairs t n))
  unfolding pairs firsts
  pairs_once S t once zero l = once_none
  pairs_once S t once (suc n) l = rw (firsts_append (pairs t n) (pair_of (t n))) (once_append E (firsts (pairs t n)) (firsts (pair_of (t n))) (pairs_once S t once n (omega arith)) (pair_once (t n))
      (λ k e. pair_lacks k (t n) (λ w q.
      let (v, p) = some_is E (look E t n k) (ap is_some (sym (last_look E k t n)) ∙ sym (member_last k (pairs t n)) ∙ e) in
      let (i, c, r) = look_some E k t n v p in
      let z : i ≡ n = once i n k v w (omega arith) l r q in absurd (omega arith))))

  -- a sound table's finite map is proper
  pub finite_proper : (S : ℕ) (t : Table K W) → ((i j : ℕ) (k : K) (v w : W) → i < S → j < S → t i ≡ live k v → t j ≡ live k w → i ≡ j) → Proper E (finite_of E t S)
  unfolding finite_of contains
  finite_proper S t once = record {
    listed = λ k. member_last k (pairs t S) ∙ ap (λ o. is_some o) (last_look E k t S);
    once = pairs_once S t once S (omega arith);
  }

module _ {K W : Type 0} (M : Store K W) (L : Lawful M) where
  -- a sound memory shows the finite map of its slots
  pub healthy_shows : (m : M.State) → SoundTable M m → Shows M m (finite_of M.keys (M.slots m) (M.size m))
  unfolding finite_of
  healthy_shows m h = record { sound_table = h; looks = λ k. refl; proper = finite_proper M.keys (M.size m) (M.slots m) h.sound.once }

  -- how a call may change a memory: not at all, in one slot, or by a wipe
  data Changed (m n : M.State) : Type 0 where
    same : n ≡ m → Changed m n
    set_value : (i : ℕ) (k : K) (v w : W) → i < M.size m → M.slots m i ≡ live k w → n ≡ M.over m i v → Changed m n
    took_slot : (i : ℕ) (k : K) (v : W) → i < M.size m → frees (M.slots m i) ≡ true → used M m + M.weight k ≤ M.bytes m → n ≡ M.fill m i k v → Changed m n
    let_go : (i : ℕ) (k : K) (w : W) → i < M.size m → M.slots m i ≡ live k w → n ≡ M.free m i → Changed m n

  -- no slot of a key that is still there has moved
  abbrev KeepsPlace : (m n : M.State) → Type 0
  KeepsPlace m n = (i : ℕ) (k : K) (v w : W) → i < M.size m → M.slots m i ≡ live k v → look M.keys (M.slots n) (M.size n) k ≡ some w → (u : W) × (M.slots n i ≡ live k u)

  frees_dead : (s : Slot K W) (k : K) (v : W) → frees s ≡ true → s ≡ live k v → ⊥
  unfolding frees
  frees_dead s k v a b = let q : ◌≡◌ {A = Bool} true false = sym a ∙ ap frees b in clash cc

  -- a value set or a slot taken leaves every live slot its key
  over_live : (m : M.State) → SoundTable M m → (j : ℕ) (a : K) (x y : W) → j < M.size m → M.slots m j ≡ live a y → (i : ℕ) (k : K) (v : W) → M.slots m i ≡ live k v → (u : W) × (M.slots (M.over m j x) i ≡ live k u)
  over_live m h j a x y c d i k v p = rw (L.over_wrote m j a x y h.sized h.good c d).slots (by_put (M.slots m) j (live a x) i
      (λ z r. let s : live k v ≡ live a y = sym p ∙ ap (M.slots m) z ∙ d in (x, r ∙ ap (λ b. live b x) (cc)))
      (λ z r. (v, r ∙ p)))

  fill_live : (m : M.State) → SoundTable M m → (j : ℕ) (a : K) (x : W) → j < M.size m → frees (M.slots m j) ≡ true → used M m + M.weight a ≤ M.bytes m → (i : ℕ) (k : K) (v : W) → M.slots m i ≡ live k v → (u : W) × (M.slots (M.fill m j a x) i ≡ live k u)
  fill_live m h j a x c d b i k v p = rw (L.fill_wrote m j a x h.sized h.good c d b).slots (by_put (M.slots m) j (live a x) i
      (λ z r. absurd (frees_dead (M.slots m i) k v (rw z d) p))
      (λ z r. (v, r ∙ p)))

  changed_stood : (m n : M.State) → SoundTable M m → Changed m n → KeepsPlace m n
  changed_stood m n h (same e) i k v w l p q = (v, rw e p)
  changed_stood m n h (set_value j a x y c d e) i k v w l p q = rw e (over_live m h j a x y c d i k v p)
  changed_stood m n h (took_slot j a x c d u e) i k v w l p q = rw e (fill_live m h j a x c d u i k v p)
  changed_stood m n h (let_go j a y c d e) i k v w l p q =
      let wr = L.free_wrote m j a y h.sized h.good c d in
      rw (e, wr.slots) (by_put (M.slots m) j freed i
      (λ z r.
      let a' : look M.keys (put (M.slots m) j freed) (M.size m) k ≡ some w = rw (e, wr.slots, wr.size) at q in
      let b' : look M.keys (put (M.slots m) j freed) (M.size m) k ≡ none = removed_look M.keys (M.size m) (M.slots m) h.sound.once k j v c (ap (M.slots m) (sym z) ∙ p) k ∙ (rw (M.keys.self k)) in
      clash cc)
      (λ z r. (v, r ∙ p)))

  -- an accepted call on one table that does not make it anew changes at most one slot
  acted_changed : {A : Type 0} (m : M.State) (a : Or A) (n : M.State) → ((u : A) → a ≡ ok u → Changed m n) → Changed m (acted M m a n)
  unfolding acted
  acted_changed m (no r) n h = same refl
  acted_changed m (ok u) n h = h u refl

  module _ (m : M.State) (h : SoundTable M m) where
    spot_changed : (k : K) (v : W) (i e : ℕ) → spot_by M m k (path M m k) ≡ ok (vacant i e) → Changed m (M.fill m i k v)
    unfolding slot_at
    spot_changed k v i e q =
        let (f, p, r, l, u) = spot_vacant M m k i e q in
        let y : f ≡ free_at (M.size m) (M.home m k) (M.slots m) = path_free M m k e f p in
        let b = home_below M L m h k in
        let z : frees (M.slots m (at (M.size m) (M.home m k) f)) ≡ true = rw y (free_here (M.size m) (M.home m k) (M.slots m) (omega arith)) in
        took_slot i k v (rw r (at_below (M.size m) (M.home m k) f b l)) (rw r z) (omega (arith, L.within m h.sized h.good)) refl

    stored_changed : (k : K) (v : W) (r : Or (Spot W)) → ((x : Spot W) → r ≡ ok x → spot_by M m k (path M m k) ≡ ok x) → Changed m (stored_by M m k v r)
    unfolding stored_by
    stored_changed k v (no n) e = same refl
    stored_changed k v (ok (occupied i w x)) e =
        let (n, p, q, t) = spot_occupied M m k w i x (e (occupied i w x) refl) in
        let (l, c) = path_live M m k n w (home_below M L m h k) p in
        set_value i k v w (rw q l) (rw q c) refl
    stored_changed k v (ok (vacant i x)) e = spot_changed k v i x (e (vacant i x) refl)

    remove_changed : (k : K) → Changed m (after_remove M m k)
    unfolding after_remove removed_by
    remove_changed k = go (remove M m k) refl
      where
        go : (r : Or (Seen W)) → remove M m k ≡ r → Changed m (removed_by M m r)
        go (no n) e = same refl
        go (ok (found w i x)) e =
            let (n, p, q, t) = seen_found M m k w i x (remove_seen M m k (found w i x) e) in
            let (l, c) = path_live M m k n w (home_below M L m h k) p in
            let_go i k w (rw q l) (rw q c) refl
        go (ok (absent x)) e = same refl

    set_changed : (i : ℕ) (k : K) (v : W) → Changed m (after_set M m i k v)
    unfolding after_set
    set_changed i k v = acted_changed m (occupied_get M m i k) (M.over m i v) (λ w e. let (l, c) = grip_live M m k i w (occupied_grip M m k i w e) in set_value i k v w l c refl)

    drop_changed : (i : ℕ) (k : K) → Changed m (after_drop M m i k)
    unfolding after_drop
    drop_changed i k = acted_changed m (occupied_remove M m i k) (M.free m i) (λ w e. let (l, c) = grip_live M m k i w (removed_grip M m k i w e) in let_go i k w l c refl)

    fill_changed : (i : ℕ) (k : K) (v : W) → Changed m (after_fill M m i k v)
    unfolding after_fill
    fill_changed i k v = acted_changed m (vacancy M m i k) (M.fill m i k v) (λ u e. let (x, q) = good_vacant M m k i u (vacancy_good M m k i u e) in spot_changed k v i x q)

    own_changed : (c : Own K W) → renews M c ≡ false → Changed m (leaves M m c)
    unfolding leaves renews after_insert after_put after_or_insert after_insert_entry
    own_changed makes e = clash cc
    own_changed clears e = clash cc
    own_changed capacities e = same refl
    own_changed lens e = same refl
    own_changed empties e = same refl
    own_changed (reserves n b) e = same refl
    own_changed (gets k) e = same refl
    own_changed (contains_keys k) e = same refl
    own_changed (removes k) e = remove_changed k
    own_changed (entries k) e = same refl
    own_changed (inserts k v) e = stored_changed k v (entry M m k) (entry_spot M m k)
    own_changed (puts k v) e = stored_changed k v (put_spot M m k) (put_taken M m k)
    own_changed (occupied_gets s k) e = same refl
    own_changed (occupied_removes s k) e = drop_changed s k
    own_changed (occupied_sets s k v) e = set_changed s k v
    own_changed (vacant_inserts s k v) e = fill_changed s k v
    own_changed (or_inserts (on_occupied s) k v) e = same refl
    own_changed (or_inserts (on_vacant s) k v) e = fill_changed s k v
    own_changed (insert_entries (on_occupied s) k v) e = set_changed s k v
    own_changed (insert_entries (on_vacant s) k v) e = fill_changed s k v

  rule_live : (m : M.State) (f : Finite K W) (s : Shows M m f) (a : K) (b : W) → mass (λ k. 1) (insert M.keys f a b).dom ≤ M.size m → mass M.weight (insert M.keys f a b).dom ≤ M.bytes m → (i : ℕ) (k : K) (v : W) → M.slots m i ≡ live k v → (u : W) × (M.slots (rule M m a b) i ≡ live k u)
  unfolding rule
  rule_live m f s a b x y i k v e = ruled (rule_cases M L m f s a b x y)
    where
      ruled : Ruled M L m f s a b → (u : W) × (M.slots (rule_by M m a b (path M m a)) i ≡ live k u)
      ruled (ruled_over n w l q r) = rw r (over_live m s.sound_table (slot_at M m a n) a b w l q i k v e)
      ruled (ruled_fill n l q u r) = rw r (fill_live m s.sound_table (slot_at M m a n) a b l q u i k v e)

  -- union's rule, pair by pair, leaves every live slot its key
  all_live : (ps : List (K × W)) (m : M.State) (f : Finite K W) → Shows M m f → mass (λ k. 1) f.dom + mass (λ k. cond (contains f k) 0 1) (firsts ps) ≤ M.size m → mass M.weight f.dom + mass (λ k. cond (contains f k) 0 (M.weight k)) (firsts ps) ≤ M.bytes m → (i : ℕ) (k : K) (v : W) → M.slots m i ≡ live k v → (u : W) × (M.slots (store_all M m ps) i ≡ live k u)
  unfolding store_all firsts mass
  all_live [] m f s a b i k v e = (v, e)
  all_live (p ∷ ps) m f s a b i k v e =
      let one = insert_mass M.keys (λ k. 1) f p.0 p.1 in
      let all = insert_mass M.keys M.weight f p.0 p.1 in
      let (t, x, y) = rule_shows M L m f s p.0 p.1 (omega arith) (omega arith) in
      let (u, q) = rule_live m f s p.0 p.1 (omega arith) (omega arith) i k v e in
      all_live ps (rule M m p.0 p.1) (insert M.keys f p.0 p.1) t
      (omega (arith, lacking_less M.keys (λ k. 1) f p.0 p.1 (firsts ps)))
      (omega (arith, lacking_less M.keys M.weight f p.0 p.1 (firsts ps))) i k u q

  union_live : (l r : M.State) → SoundTable M l → (u : Unit {0}) → union M l r ≡ ok u → (i : ℕ) (k : K) (v : W) → M.slots l i ≡ live k v → (w : W) × (M.slots (store_all M l (pairs (M.slots r) (M.size r))) i ≡ live k w)
  union_live l r h u e =
      let (a, b) = union_room M L l r (finite_of M.keys (M.slots l) (M.size l)) (healthy_shows l h) u e in
      all_live (pairs (M.slots r) (M.size r)) l (finite_of M.keys (M.slots l) (M.size l)) (healthy_shows l h) a b

  acted_size : {A : Type 0} (m : M.State) (a : Or A) (n : M.State) → ((u : A) → a ≡ ok u → M.size n ≡ M.size m) → M.size (acted M m a n) ≡ M.size m
  unfolding acted
  acted_size m (no r) n t = refl
  acted_size m (ok u) n t = t u refl

  copy_size : (m n : M.State) (u : Unit {0}) → copy M m n ≡ ok u → M.size n ≡ M.size m
  unfolding copy
  copy_size m n u e =
      let a = (need_ok (M.sized m) 1 _ u e).1 in
      let b = (need_ok (M.sized n) 1 _ u a).1 in
      sym (eqb-true (M.size m) (M.size n) (need_ok (eqb (M.size m) (M.size n)) 1 _ u b).0)

  stored_size : (m : M.State) (k : K) (v : W) (a : Or (Spot W)) → M.size (stored_by M m k v a) ≡ M.size m
  unfolding stored_by
  stored_size m k v (no n) = refl
  stored_size m k v (ok (occupied i w e)) = L.over_size m i v
  stored_size m k v (ok (vacant i e)) = L.fill_size m i k v

  removed_size : (m : M.State) (a : Or (Seen W)) → M.size (removed_by M m a) ≡ M.size m
  unfolding removed_by
  removed_size m (no n) = refl
  removed_size m (ok (found v i e)) = L.free_size m i
  removed_size m (ok (absent e)) = refl

  rule_size : (m : M.State) (k : K) (v : W) (x : Find W) → M.size (rule_by M m k v x) ≡ M.size m
  unfolding rule_by
  rule_size m k v (hit n w) = L.over_size m (slot_at M m k n) v
  rule_size m k v (miss e f) = by_bool (ltb f (M.size m)) (λ q. rw q (L.fill_size m (slot_at M m k f) k v)) (λ q. rw q)
  rule_size m k v damage = refl

  all_size : (ps : List (K × W)) (m : M.State) → M.size (store_all M m ps) ≡ M.size m
  unfolding store_all rule
  all_size [] m = refl
  all_size (p ∷ ps) m = all_size ps (rule M m p.0 p.1) ∙ rule_size m p.0 p.1 (path M m p.0)

  own_size : (m : M.State) (c : Own K W) → M.size (leaves M m c) ≡ M.size m
  unfolding leaves after_make after_insert after_put after_remove after_set after_drop after_fill after_or_insert after_insert_entry
  own_size m makes = acted_size m (capacity M m) (M.wipe m) (λ u e. L.wipe_size m)
  own_size m clears = acted_size m (capacity M m) (M.wipe m) (λ u e. L.wipe_size m)
  own_size m capacities = refl
  own_size m lens = refl
  own_size m empties = refl
  own_size m (reserves n b) = refl
  own_size m (gets k) = refl
  own_size m (contains_keys k) = refl
  own_size m (removes k) = removed_size m (remove M m k)
  own_size m (entries k) = refl
  own_size m (inserts k v) = stored_size m k v (entry M m k)
  own_size m (puts k v) = stored_size m k v (put_spot M m k)
  own_size m (occupied_gets s k) = refl
  own_size m (occupied_removes s k) = acted_size m (occupied_remove M m s k) (M.free m s) (λ u e. L.free_size m s)
  own_size m (occupied_sets s k v) = acted_size m (occupied_get M m s k) (M.over m s v) (λ u e. L.over_size m s v)
  own_size m (vacant_inserts s k v) = acted_size m (vacancy M m s k) (M.fill m s k v) (λ u e. L.fill_size m s k v)
  own_size m (or_inserts (on_occupied s) k v) = refl
  own_size m (or_inserts (on_vacant s) k v) = acted_size m (vacancy M m s k) (M.fill m s k v) (λ u e. L.fill_size m s k v)
  own_size m (insert_entries (on_occupied s) k v) = acted_size m (occupied_get M m s k) (M.over m s v) (λ u e. L.over_size m s v)
  own_size m (insert_entries (on_vacant s) k v) = acted_size m (vacancy M m s k) (M.fill m s k v) (λ u e. L.fill_size m s k v)

  -- every call keeps a table's number of slots, on any memory
  pub left_size : (w : World M) (x : ℕ) (c : Call K W) → M.size (left M w x c) ≡ M.size (w x)
  unfolding left after_copy after_union
  left_size w x (own c) = own_size (w x) c
  left_size w x (copies y) = acted_size (w x) (copy M (w x) (w y)) (w y) (λ u e. copy_size (w x) (w y) u e)
  left_size w x (unions y) = acted_size (w x) (union M (w x) (w y)) (store_all M (w x) (pairs (M.slots (w y)) (M.size (w y)))) (λ u e. all_size (pairs (M.slots (w y)) (M.size (w y))) (w x))
  left_size w x (steps a b) = refl

  -- a call that is no make, clear or copy moves no key that is still there
  acted_stood : {A : Type 0} (m : M.State) (a : Or A) (n : M.State) → ((u : A) → a ≡ ok u → KeepsPlace m n) → KeepsPlace m (acted M m a n)
  unfolding acted
  acted_stood m (no r) n t = λ i k v w l p q. (v, p)
  acted_stood m (ok u) n t = t u refl

  left_stood : (w : World M) (x : ℕ) → SoundTable M (w x) → (c : Call K W) → sweeps M c ≡ false → KeepsPlace (w x) (left M w x c)
  unfolding sweeps left after_union
  left_stood w x h (own c) e = changed_stood (w x) (leaves M (w x) c) h (own_changed (w x) h c e)
  left_stood w x h (copies y) e = clash cc
  left_stood w x h (unions y) e = acted_stood (w x) (union M (w x) (w y)) (store_all M (w x) (pairs (M.slots (w y)) (M.size (w y)))) (λ u r i k v z l p q. union_live (w x) (w y) h u r i k v p)
  left_stood w x h (steps a b) e = λ i k v u l p q. (v, p)

  -- the value of a live key is the one in the map
  settled : (m : M.State) → SoundTable M m → (i : ℕ) (k : K) (v u : W) → i < M.size m → M.slots m i ≡ live k v → look M.keys (M.slots m) (M.size m) k ≡ some u → M.slots m i ≡ live k u
  settled m h i k v u l p q =
      let r = once_look M.keys (M.size m) (M.slots m) h.sound.once k i v l p in
      p ∙ ap (λ x. live k x) (cc)

  -- a known table is sound
  pub sure_healthy : (x S : ℕ) (s : Book M) → Sure M x S s → SoundTable M (s.world x)
  sure_healthy x S s f = let (m, e) = some_is M.keys (s.maps x) f.known in (f.shows x m e).sound_table

  -- its slots show the known map, and as many live ones as the map has keys
  pub sure_looks : (x S : ℕ) (s : Book M) → Sure M x S s → (k : K) → look M.keys (M.slots (s.world x)) S k ≡ look_in (s.maps x) k
  unfolding look_in
  sure_looks x S s f k =
      let (m, e) = some_is M.keys (s.maps x) f.known in
      subst (λ n. look M.keys (M.slots (s.world x)) n k ≡ look_in (s.maps x) k) f.sized ((f.shows x m e).looks k ∙ sym (ap (λ o. look_in o k) e))

  pub sure_counts : (x S : ℕ) (s : Book M) → Sure M x S s → (g : Finite K W) → s.maps x ≡ some g → count (M.slots (s.world x)) S ≡ len g
  unfolding live_count
  sure_counts x S s f g e = subst (λ n. count (M.slots (s.world x)) n ≡ len g) f.sized (live_len M L (s.world x) g (f.shows x g e))

  -- what demand 2 knows stays right, whatever the call
  pub booked_shows : (s : Book M) → ((y : ℕ) (f : Finite K W) → s.maps y ≡ some f → Shows M (s.world y) f) → (y : ℕ) (c : Call K W) → refuses (answer M s.world y c) ≡ false → (z : ℕ) (f : Finite K W) → (booked M s y c).maps z ≡ some f → Shows M ((booked M s y c).world z) f
  unfolding turned becomes placed
  booked_shows s h y c o z f q = by_eq z y
      (λ r t. rw t (left_shows M L s.world s.maps h y c f (rw o (rw t at q))))
      (λ r t. rw t (h z f (rw t at q)))

  pub turned_size : (w : World M) (y : ℕ) (c : Call K W) (x : ℕ) → M.size (turned M w y c x) ≡ M.size (w x)
  unfolding turned placed
  turned_size w y c x = by_eq x y (λ r t. rw t (left_size w y c ∙ ap (λ z. M.size (w z)) (sym r))) (λ r t. rw t)

  -- and so a table that is still known after a call is sound, of as many slots
  pub booked_sure : (x S : ℕ) (s : Book M) → Sure M x S s → (y : ℕ) (c : Call K W) → refuses (answer M s.world y c) ≡ false → is_some ((booked M s y c).maps x) ≡ true → Sure M x S (booked M s y c)
  booked_sure x S s f y c o k = record { shows = booked_shows s f.shows y c o; known = k; sized = turned_size s.world y c x ∙ f.sized }

  -- a live slot of a known table has its key's value in the map
  pub sure_settled : (x S : ℕ) (s : Book M) → Sure M x S s → (i : ℕ) (k : K) (v u : W) → i < S → M.slots (s.world x) i ≡ live k v → look_in (s.maps x) k ≡ some u → M.slots (s.world x) i ≡ live k u
  sure_settled x S s f i k v u l p q = settled (s.world x) (sure_healthy x S s f) i k v u (rw f.sized l) p (rw f.sized (sure_looks x S s f k ∙ q))

  -- a call that is no make, clear or copy onto it moves no key of a table that is still known
  pub booked_stands : (x S : ℕ) (s : Book M) → Sure M x S s → (y : ℕ) (c : Call K W) → refuses (answer M s.world y c) ≡ false → is_some ((booked M s y c).maps x) ≡ true → (eqb y x && sweeps M c) ≡ false → (i : ℕ) (k : K) (v u : W) → i < S → M.slots (s.world x) i ≡ live k v → look_in ((booked M s y c).maps x) k ≡ some u → M.slots ((booked M s y c).world x) i ≡ live k u
  unfolding turned placed
  booked_stands x S s f y c o a e i k v u l p q =
      let g : Sure M x S (booked M s y c) = booked_sure x S s f y c o a in
      let stood : (d : W) × (M.slots ((booked M s y c).world x) i ≡ live k d) = by_eq x y
      (λ r t.
      let h : SoundTable M (s.world y) = subst (λ z. SoundTable M (s.world z)) r (sure_healthy x S s f) in
      let n : M.size (s.world y) ≡ S = ap (λ z. M.size (s.world z)) (sym r) ∙ f.sized in
      let b : sweeps M c ≡ false = rw (eq-eqb y x (sym r)) at e in
      let q' : look M.keys (M.slots (left M s.world y c)) (M.size (left M s.world y c)) k ≡ some u = rw (left_size s.world y c, n) (rw t at (sure_looks x S (booked M s y c) g k ∙ q)) in
      rw t (left_stood s.world y h c b i k v u (rw n l) (subst (λ z. M.slots (s.world z) i ≡ live k v) r p) q'))
      (λ r t. (v, rw t p)) in
      sure_settled x S (booked M s y c) g i k stood.0 u l stood.1 q

  -- a step answers by the slots
  pub sure_paces : (x S : ℕ) (s : Book M) → Sure M x S s → (a b : ℕ) → stepping M (s.world x) a b ≡ step S (M.slots (s.world x)) 0 a b
  unfolding stepping need
  sure_paces x S s f a b = rw ((sure_healthy x S s f).sized, f.sized)
