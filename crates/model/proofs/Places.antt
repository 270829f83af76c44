-- A call changes no lent place that its rule does not name, on any memory.
use Prim.Native.Nat.{ℕ}
use mathlib.Core.Bool.{Bool, true, false, not, ◌&&◌}
use mathlib.Core.List.{List, [], ◌∷◌}
use mathlib.Core.Path.{◌≡◌, refl, sym, ◌∙◌, ap}
use native.Mathlib.Omega.{arith}
use borrow.Author.Tests.{lt-ltb}
use lib.Dec.{eqb}
use Rattle.model.proofs.Cases.{by_eq, neither, clash}
use Rattle.model.specs.Slots.{pairs}
use Rattle.model.specs.Path.{Find, hit, miss, damage}
use Rattle.model.specs.Store.{Store, path, slot_at}
use Rattle.model.specs.Calls.{Or, no, ok, need, pass, Seen, found, absent, Spot, occupied, vacant, on_occupied, on_vacant, entry, stored_by, after_insert, put_spot, after_put, remove, removed_by, after_remove, acted, capacity, after_make, copy, after_copy, rule_by, rule, store_all, union, after_union, occupied_get, after_set, occupied_remove, after_drop, vacancy, after_fill, after_or_insert, after_insert_entry, spot_by, seen_by}
use Rattle.model.specs.Machine.{Own, makes, clears, capacities, lens, empties, reserves, gets, contains_keys, removes, entries, inserts, puts, occupied_gets, occupied_removes, occupied_sets, vacant_inserts, or_inserts, insert_entries, Call, own, copies, unions, steps, World, placed, leaves, left, turned}
use Rattle.model.specs.Lawful.{Steady}
use Rattle.model.specs.Places.{Places, Apart, accepted, insert_names, remove_names, handle_names, own_names, rule_names, all_names, names, run_names, OnlyNamed}
use Rattle.model.specs.Running.{Roomy}
use Rattle.model.specs.Runs.{run}
use Rattle.model.proofs.Path.{at_below}
use Rattle.model.proofs.Accepted.{need_ok, pass_ok, seen_found, spot_vacant, grip_live, good_vacant, entry_spot, put_taken, remove_seen, removed_grip, vacancy_good}
use Rattle.model.proofs.Keeps.{path_live}
use Rattle.model.proofs.Running.{slot_left, bytes_there, free_slot, one_more, union_roomy}

not_false : (b : Bool) → not b ≡ true → b ≡ false
not_false true e = clash cc
not_false false e = refl

module _ {K W : Type 0} (M : Store K W) (P : Places M) (A : Apart M P) (T : Steady M) (p : P.Place) where
  -- a storing call's tests passed
  passed : {B : Type 0} (m : M.State) (n : ℕ) (a : Or B) (x : B) → need (M.sized m) 1 (pass n (need (not (M.damaged_fully m)) 5 a)) ≡ ok x → (M.sized m ≡ true) × (M.damaged_fully m ≡ false)
  passed m n a x e =
      let (s, r) = need_ok (M.sized m) 1 (pass n (need (not (M.damaged_fully m)) 5 a)) x e in
      (s, not_false (M.damaged_fully m) (need_ok (not (M.damaged_fully m)) 5 a x (pass_ok n (need (not (M.damaged_fully m)) 5 a) x r).1).0)

  fill_kept : (m : M.State) (s e : ℕ) (k : K) (v : W) → M.sized m ≡ true → M.damaged_fully m ≡ false → spot_by M m k (path M m k) ≡ ok (vacant s e) → P.fill_names m s k p ≡ false → P.word (M.fill m s k v) p ≡ P.word m p
  unfolding slot_at
  fill_kept m s e k v z h q d =
      let (f, a, i, l, b) = spot_vacant M m k s e q in
      A.fill_apart m s k v p z h (rw i (at_below (M.size m) (M.home m k) f (T.homes m k z) l)) (omega (arith, T.room m z h)) d

  -- insert's rule after the tests of a storing call, for a key whose own refusal is n
  stored_kept : (m : M.State) (k : K) (v : W) (n : ℕ) (a : Or (Spot W)) → need (M.sized m) 1 (pass n (need (not (M.damaged_fully m)) 5 (spot_by M m k (path M m k)))) ≡ a → ((x : Spot W) → a ≡ ok x → spot_by M m k (path M m k) ≡ ok x) → insert_names M P p m k a ≡ false → P.word (stored_by M m k v a) p ≡ P.word m p
  unfolding insert_names stored_by
  stored_kept m k v n (no r) q h d = refl
  stored_kept m k v n (ok (occupied s w e)) q h d = A.over_apart m s v p d
  stored_kept m k v n (ok (vacant s e)) q h d =
      let (z, u) = passed m n (spot_by M m k (path M m k)) (vacant s e) q in
      fill_kept m s e k v z u (h (vacant s e) refl) d

  insert_kept : (m : M.State) (k : K) (v : W) → insert_names M P p m k (entry M m k) ≡ false → P.word (stored_by M m k v (entry M m k)) p ≡ P.word m p
  unfolding entry
  insert_kept m k v d = stored_kept m k v (M.kept k) (entry M m k) refl (entry_spot M m k) d

  put_kept : (m : M.State) (k : K) (v : W) → insert_names M P p m k (put_spot M m k) ≡ false → P.word (stored_by M m k v (put_spot M m k)) p ≡ P.word m p
  unfolding put_spot pass
  put_kept m k v d = stored_kept m k v 0 (put_spot M m k) refl (put_taken M m k) d

  remove_kept : (m : M.State) (k : K) (a : Or (Seen W)) → remove M m k ≡ a → remove_names M P p m a ≡ false → P.word (removed_by M m a) p ≡ P.word m p
  unfolding remove_names removed_by remove
  remove_kept m k (no n) q d = refl
  remove_kept m k (ok (found v s e)) q d =
      let (z, h) = passed m (M.asked k) (seen_by M m k (path M m k)) (found v s e) q in
      let (n, r, i, x) = seen_found M m k v s e (remove_seen M m k (found v s e) q) in
      let (l, y) = path_live M m k n v (T.homes m k z) r in
      A.free_apart m s k v p z h (rw i l) (rw i y) d
  remove_kept m k (ok (absent e)) q d = refl

  drop_kept : (m : M.State) (s : ℕ) (k : K) (a : Or W) → occupied_remove M m s k ≡ a → accepted a (P.free_names m s p) ≡ false → P.word (acted M m a (M.free m s)) p ≡ P.word m p
  unfolding accepted acted occupied_remove
  drop_kept m s k (no n) q d = refl
  drop_kept m s k (ok v) q d =
      let (z, h) = passed m (M.asked k) _ v q in
      let (l, y) = grip_live M m k s v (removed_grip M m k s v q) in
      A.free_apart m s k v p z h l y d

  vacant_kept : (m : M.State) (s : ℕ) (k : K) (v : W) (a : Or (Unit {0})) → vacancy M m s k ≡ a → accepted a (P.fill_names m s k p) ≡ false → P.word (acted M m a (M.fill m s k v)) p ≡ P.word m p
  unfolding accepted acted vacancy
  vacant_kept m s k v (no n) q d = refl
  vacant_kept m s k v (ok u) q d =
      let (z, h) = passed m (M.kept k) _ u q in
      let (e, y) = good_vacant M m k s u (vacancy_good M m k s u q) in
      fill_kept m s e k v z h y d

  set_kept : {B : Type 0} (m : M.State) (s : ℕ) (v : W) (a : Or B) → accepted a (P.over_names s p) ≡ false → P.word (acted M m a (M.over m s v)) p ≡ P.word m p
  unfolding accepted acted
  set_kept m s v (no n) d = refl
  set_kept m s v (ok x) d = A.over_apart m s v p d

  all_kept : {B : Type 0} (m n : M.State) (a : Or B) → accepted a true ≡ false → P.word (acted M m a n) p ≡ P.word m p
  unfolding accepted acted
  all_kept m n (no r) d = refl
  all_kept m n (ok x) d = clash cc

  own_kept : (m : M.State) (c : Own K W) → own_names M P p m c ≡ false → P.word (leaves M m c) p ≡ P.word m p
  unfolding own_names leaves handle_names after_make after_insert after_put after_remove after_set after_drop after_fill after_or_insert after_insert_entry
  own_kept m makes d = all_kept m (M.wipe m) (capacity M m) d
  own_kept m clears d = all_kept m (M.wipe m) (capacity M m) d
  own_kept m capacities d = refl
  own_kept m lens d = refl
  own_kept m empties d = refl
  own_kept m (reserves n b) d = refl
  own_kept m (gets k) d = refl
  own_kept m (contains_keys k) d = refl
  own_kept m (removes k) d = remove_kept m k (remove M m k) refl d
  own_kept m (entries k) d = refl
  own_kept m (inserts k v) d = insert_kept m k v d
  own_kept m (puts k v) d = put_kept m k v d
  own_kept m (occupied_gets s k) d = refl
  own_kept m (occupied_removes s k) d = drop_kept m s k (occupied_remove M m s k) refl d
  own_kept m (occupied_sets s k v) d = set_kept m s v (occupied_get M m s k) d
  own_kept m (vacant_inserts s k v) d = vacant_kept m s k v (vacancy M m s k) refl d
  own_kept m (or_inserts (on_occupied s) k v) d = refl
  own_kept m (or_inserts (on_vacant s) k v) d = vacant_kept m s k v (vacancy M m s k) refl d
  own_kept m (insert_entries (on_occupied s) k v) d = set_kept m s v (occupied_get M m s k) d
  own_kept m (insert_entries (on_vacant s) k v) d = vacant_kept m s k v (vacancy M m s k) refl d

  rule_kept : (m : M.State) (k : K) (v : W) (ps : List (K × W)) → Roomy M m ((k, v) ∷ ps) → (x : Find W) → path M m k ≡ x → rule_names M P p m k x ≡ false → P.word (rule_by M m k v x) p ≡ P.word m p
  unfolding rule_names rule_by
  rule_kept m k v ps r (hit n w) q d = A.over_apart m (slot_at M m k n) v p d
  rule_kept m k v ps r (miss e f) q d =
      let l = lt-ltb f (M.size m) (slot_left M T m k v ps r e f q) in
      rw l (A.fill_apart m (slot_at M m k f) k v p r.sized r.unharmed (free_slot M T m k v ps r e f q).0 (bytes_there M T m k v ps r e f q) (rw l at d))
  rule_kept m k v ps r damage q d = refl

  union_kept : (ps : List (K × W)) (m : M.State) → Roomy M m ps → all_names M P p m ps ≡ false → P.word (store_all M m ps) p ≡ P.word m p
  unfolding all_names store_all rule
  union_kept [] m r d = refl
  union_kept (q ∷ qs) m r d =
      let (a, b) = neither (rule_names M P p m q.0 (path M m q.0)) (all_names M P p (rule M m q.0 q.1) qs) d in
      union_kept qs (rule M m q.0 q.1) (one_more M T m q.0 q.1 qs r (path M m q.0) refl).1 b ∙ rule_kept m q.0 q.1 qs r (path M m q.0) refl a

  united : (l r : M.State) (a : Or (Unit {0})) → union M l r ≡ a → accepted a (all_names M P p l (pairs (M.slots r) (M.size r))) ≡ false → P.word (acted M l a (store_all M l (pairs (M.slots r) (M.size r)))) p ≡ P.word l p
  unfolding accepted acted
  united l r (no n) q d = refl
  united l r (ok u) q d = union_kept (pairs (M.slots r) (M.size r)) l (union_roomy M T l r u q) d

-- A call changes no lent place that its rule does not name.
pub only_named : {K W : Type 0} (M : Store K W) (P : Places M) → Apart M P → Steady M → OnlyNamed M P
unfolding names left after_copy after_union
only_named M P A T w x (own c) p d = own_kept M P A T p (w x) c d
only_named M P A T w x (copies y) p d = all_kept M P A T p (w x) (w y) (copy M (w x) (w y)) d
only_named M P A T w x (unions y) p d = united M P A T p (w x) (w y) (union M (w x) (w y)) refl d
only_named M P A T w x (steps a b) p d = refl

-- Nor does a list of calls, on any table.
pub run_named : {K W : Type 0} (M : Store K W) (P : Places M) → Apart M P → Steady M → (cs : List (ℕ × Call K W)) (w : World M) (y : ℕ) (p : P.Place) → run_names M P p y w cs ≡ false → P.word (run M w cs y) p ≡ P.word (w y) p
unfolding run run_names turned placed
run_named M P A T [] w y p d = refl
run_named M P A T (c ∷ cs) w y p d =
    let (a, b) = neither (eqb y c.0 && names M P p w c.0 c.1) (run_names M P p y (turned M w c.0 c.1) cs) d in
    run_named M P A T cs (turned M w c.0 c.1) y p b ∙ by_eq y c.0
    (λ r t. rw t (only_named M P A T w c.0 c.1 p (rw t at a) ∙ ap (λ z. P.word (w z) p) (sym r)))
    (λ r t. rw t)

module _ {K W : Type 0} (M : Store K W) (P : Places M) (p : P.Place) (m : M.State) where
  -- A call that only reads names no place.
  pub reading_names_none : (n b s : ℕ) (k : K) → (own_names M P p m capacities ≡ false) × (own_names M P p m lens ≡ false) × (own_names M P p m empties ≡ false) × (own_names M P p m (reserves n b) ≡ false) × (own_names M P p m (gets k) ≡ false) × (own_names M P p m (contains_keys k) ≡ false) × (own_names M P p m (entries k) ≡ false) × (own_names M P p m (occupied_gets s k) ≡ false)
  unfolding own_names
  reading_names_none n b s k = (refl, refl, refl, refl, refl, refl, refl, refl)

  -- Nor does a refused call, or a remove of an absent key.
  pub refused_names_none : (n e : ℕ) (k : K) → (insert_names M P p m k (no n) ≡ false) × (remove_names M P p m (no n) ≡ false) × (remove_names M P p m (ok (absent e)) ≡ false) × (accepted {A = ℕ} (no n) true ≡ false)
  unfolding insert_names remove_names accepted
  refused_names_none n e k = (refl, refl, refl, refl)
