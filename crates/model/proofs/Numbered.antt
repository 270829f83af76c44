-- No refusal has the number 0: so the number of an answer says whether it was refused.
use Prim.Native.Nat.{ℕ, zero, suc, ◌+◌, ◌-◌}
use mathlib.Core.Bool.{Bool, true, false, not}
use mathlib.Core.Path.{◌≡◌, refl, sym, ◌∙◌, ap}
use native.Mathlib.Omega.{arith}
use borrow.Author.Tests.{ne_eqb}
use lib.Dec.{ltb, leb, eqb}
use Rattle.model.specs.Slots.{Slot, never, freed, damaged, live}
use Rattle.model.specs.Path.{Find, hit, miss, damage, from}
use Rattle.model.specs.Store.{Store, path, used}
use Rattle.model.specs.Calls.{Or, no, ok, need, pass, give, Spot, occupied, vacant, on_occupied, on_vacant, seen_by, spot_by, get, entry, put_spot, remove, capacity, length, reserve, copy, union, held_on, held_at, occupied_get, occupied_remove, good_for, vacancy, vacant_insert, or_insert, insert_entry}
use Rattle.model.specs.Walk.{halts, halted, reach_of, step_within, pace, step}
use Rattle.model.specs.Machine.{makes, clears, capacities, lens, empties, reserves, gets, contains_keys, removes, entries, inserts, puts, occupied_gets, occupied_removes, occupied_sets, vacant_inserts, or_inserts, insert_entries, Call, own, copies, unions, steps, Answer, fine, number, truth, seen, spot, value, stepped, report, World, tells, stepping, answer}
use Rattle.model.specs.Demand1.{refusal}
use Rattle.model.specs.Demand2.{refuses}
use Rattle.model.proofs.Cases.{by_bool}

-- an answer, or a refusal with a number above 0
pub data Numbered {A : Type 0} : Or A → Type 0 where
  numbered_no : (n : ℕ) → Numbered (no (suc n))
  numbered_ok : (a : A) → Numbered (ok a)

module _ {A : Type 0} where
  by_need : (b : Bool) (n : ℕ) (a : Or A) → Numbered a → Numbered (need b (suc n) a)
  unfolding need
  by_need true n a h = h
  by_need false n a h = numbered_no n

  by_pass : (n : ℕ) (a : Or A) → Numbered a → Numbered (pass n a)
  unfolding pass
  by_pass zero a h = h
  by_pass (suc n) a h = numbered_no n

  by_give : {B : Type 0} (v : B) (a : Or A) → Numbered a → Numbered (give v a)
  unfolding give
  by_give v a (numbered_no n) = numbered_no n
  by_give v a (numbered_ok b) = numbered_ok v

module _ {K W : Type 0} where
  halted_numbered : (w j : ℕ) (s : Slot K W) → Numbered (halted w j s)
  unfolding halted
  halted_numbered w j never = numbered_ok _
  halted_numbered w j freed = numbered_ok _
  halted_numbered w j damaged = numbered_no 4
  halted_numbered w j (live a v) = numbered_ok _

module _ {K W : Type 0} (M : Store K W) where
  seen_numbered : (m : M.State) (k : K) (r : Find W) → Numbered (seen_by M m k r)
  unfolding seen_by
  seen_numbered m k (hit n v) = numbered_ok _
  seen_numbered m k (miss e f) = numbered_ok _
  seen_numbered m k damage = numbered_no 4

  spot_numbered : (m : M.State) (k : K) (r : Find W) → Numbered (spot_by M m k r)
  unfolding spot_by
  spot_numbered m k (hit n v) = numbered_ok _
  spot_numbered m k (miss e f) = by_need (ltb f (M.size m)) 6 _ (by_need (leb (M.weight k) (M.bytes m - used M m)) 7 _ (numbered_ok _))
  spot_numbered m k damage = numbered_no 4

  grips_numbered : (k : K) (s : Slot K W) → Numbered (held_on M k s)
  unfolding held_on
  grips_numbered k never = numbered_no 5
  grips_numbered k freed = numbered_no 5
  grips_numbered k damaged = numbered_no 4
  grips_numbered k (live a v) = by_need (M.keys.same k a) 5 _ (numbered_ok v)

  good_numbered : (s : ℕ) (a : Or (Spot W)) → Numbered (good_for M s a)
  unfolding good_for
  good_numbered s (no n) = by_bool (eqb n 5) (λ e. rw e (numbered_no 4)) (λ e. rw e (numbered_no 5))
  good_numbered s (ok (occupied x w e)) = numbered_no 5
  good_numbered s (ok (vacant x e)) = by_need (eqb s x) 5 _ (numbered_ok _)

  module _ (m : M.State) where
    held_numbered : (s : ℕ) (k : K) → Numbered (occupied_get M m s k)
    unfolding occupied_get held_at
    held_numbered s k = by_need (M.sized m) 0 _ (by_pass (M.asked k) _ (by_need (ltb s (M.size m)) 5 _ (grips_numbered k (M.slots m s))))

    taken_numbered : (s : ℕ) (k : K) → Numbered (occupied_remove M m s k)
    unfolding occupied_remove held_at
    taken_numbered s k = by_need (M.sized m) 0 _ (by_pass (M.asked k) _ (by_need (not (M.damaged_fully m)) 4 _ (by_need (ltb s (M.size m)) 5 _ (grips_numbered k (M.slots m s)))))

    filled_numbered : (s : ℕ) (k : K) (v : W) → Numbered (vacant_insert M m s k v)
    unfolding vacant_insert vacancy
    filled_numbered s k v = by_give v _ (by_need (M.sized m) 0 _ (by_pass (M.kept k) _ (by_need (not (M.damaged_fully m)) 4 _ (good_numbered s (spot_by M m k (path M m k))))))

    capacity_numbered : Numbered (capacity M m)
    unfolding capacity
    capacity_numbered = by_need (M.sized m) 0 _ (numbered_ok _)

    length_numbered : Numbered (length M m)
    unfolding length
    length_numbered = by_need (M.sized m) 0 _ (by_need _ 4 _ (numbered_ok _))

    pub get_numbered : (k : K) → Numbered (get M m k)
    unfolding get
    get_numbered k = by_need (M.sized m) 0 _ (by_pass (M.asked k) _ (seen_numbered m k (path M m k)))

    pub remove_numbered : (k : K) → Numbered (remove M m k)
    unfolding remove
    remove_numbered k = by_need (M.sized m) 0 _ (by_pass (M.asked k) _ (by_need (not (M.damaged_fully m)) 4 _ (seen_numbered m k (path M m k))))

    pub entry_numbered : (k : K) → Numbered (entry M m k)
    unfolding entry
    entry_numbered k = by_need (M.sized m) 0 _ (by_pass (M.kept k) _ (by_need (not (M.damaged_fully m)) 4 _ (spot_numbered m k (path M m k))))

    put_numbered : (k : K) → Numbered (put_spot M m k)
    unfolding put_spot
    put_numbered k = by_need (M.sized m) 0 _ (by_need (not (M.damaged_fully m)) 4 _ (spot_numbered m k (path M m k)))

    reserve_numbered : (n b : ℕ) → Numbered (reserve M m n b)
    unfolding reserve
    reserve_numbered n b = by_need (M.sized m) 0 _ (by_need _ 4 _ (by_need _ 6 _ (by_need _ 7 _ (numbered_ok _))))

    pub step_numbered : (a b : ℕ) → Numbered (stepping M m a b)
    unfolding stepping step pace step_within
    step_numbered a b = by_need (M.sized m) 0 _ (by_need (not (eqb b 0)) 2 _ (by_need (leb a (M.size m)) 3 _ (by_pass 0 _ (by_bool (eqb a (M.size m)) (λ e. rw e (numbered_ok _))
        (λ e. rw e (by_bool (ltb (from (λ i. halts (M.slots m i)) (reach_of (M.size m) a b) a) (a + reach_of (M.size m) a b)) (λ d. rw d (halted_numbered a _ _)) (λ d. rw d (numbered_ok _))))))))

  pub union_numbered : (l r : M.State) → Numbered (union M l r)
  unfolding union
  union_numbered l r = by_need _ 0 _ (by_need _ 0 _ (by_need _ 4 _ (by_need _ 4 _ (by_pass (M.carried r) _ (by_need _ 6 _ (by_need _ 7 _ (numbered_ok _)))))))

  -- the answer was refused exactly when its number is not 0
  reports : {A : Type 0} (f : A → Answer K W) → ((a : A) → (refuses (f a) ≡ false) × (refusal (f a) ≡ 0)) → (a : Or A) → Numbered a → refuses (report f a) ≡ not (eqb (refusal (report f a)) 0)
  unfolding report refuses refusal
  reports f h o (numbered_no n) = rw (ne_eqb (suc n) 0 (λ e. omega arith))
  reports f h o (numbered_ok a) = (h a).0 ∙ ap (λ n. not (eqb n 0)) (sym (h a).1)

  pub told_refused : (w : World M) (x : ℕ) (c : Call K W) → refuses (answer M w x c) ≡ not (eqb (refusal (answer M w x c)) 0)
  unfolding answer tells or_insert insert_entry copy union refuses refusal
  told_refused w x (own makes) = reports (λ n. fine) (λ a. (refl, refl)) _ (capacity_numbered (w x))
  told_refused w x (own clears) = reports (λ n. fine) (λ a. (refl, refl)) _ (capacity_numbered (w x))
  told_refused w x (own capacities) = reports number (λ a. (refl, refl)) _ (capacity_numbered (w x))
  told_refused w x (own lens) = reports number (λ a. (refl, refl)) _ (length_numbered (w x))
  told_refused w x (own empties) = reports (λ n. truth (eqb n 0)) (λ a. (refl, refl)) _ (length_numbered (w x))
  told_refused w x (own (reserves n b)) = reports (λ u. fine) (λ a. (refl, refl)) _ (reserve_numbered (w x) n b)
  told_refused w x (own (gets k)) = reports seen (λ a. (refl, refl)) _ (get_numbered (w x) k)
  told_refused w x (own (contains_keys k)) = reports seen (λ a. (refl, refl)) _ (get_numbered (w x) k)
  told_refused w x (own (removes k)) = reports seen (λ a. (refl, refl)) _ (remove_numbered (w x) k)
  told_refused w x (own (entries k)) = reports spot (λ a. (refl, refl)) _ (entry_numbered (w x) k)
  told_refused w x (own (inserts k v)) = reports spot (λ a. (refl, refl)) _ (entry_numbered (w x) k)
  told_refused w x (own (puts k v)) = reports spot (λ a. (refl, refl)) _ (put_numbered (w x) k)
  told_refused w x (own (occupied_gets s k)) = reports value (λ a. (refl, refl)) _ (held_numbered (w x) s k)
  told_refused w x (own (occupied_removes s k)) = reports value (λ a. (refl, refl)) _ (taken_numbered (w x) s k)
  told_refused w x (own (occupied_sets s k v)) = reports value (λ a. (refl, refl)) _ (held_numbered (w x) s k)
  told_refused w x (own (vacant_inserts s k v)) = reports value (λ a. (refl, refl)) _ (filled_numbered (w x) s k v)
  told_refused w x (own (or_inserts (on_occupied s) k v)) = reports value (λ a. (refl, refl)) _ (held_numbered (w x) s k)
  told_refused w x (own (or_inserts (on_vacant s) k v)) = reports value (λ a. (refl, refl)) _ (filled_numbered (w x) s k v)
  told_refused w x (own (insert_entries (on_occupied s) k v)) = reports value (λ a. (refl, refl)) _ (by_give v _ (held_numbered (w x) s k))
  told_refused w x (own (insert_entries (on_vacant s) k v)) = reports value (λ a. (refl, refl)) _ (filled_numbered (w x) s k v)
  told_refused w x (copies y) = reports (λ u. fine) (λ a. (refl, refl)) _ (by_need _ 0 _ (by_need _ 0 _ (by_need _ 0 _ (by_need _ 0 _ (numbered_ok _)))))
  told_refused w x (unions y) = reports (λ u. fine) (λ a. (refl, refl)) _ (union_numbered (w x) (w y))
  told_refused w x (steps a b) = reports stepped (λ a. (refl, refl)) _ (step_numbered (w x) a b)
