-- In the base the rows of every call stand in rising order, and then the first that applies is the least number; and a refused call leaves the memory as it was.
use Prim.Native.Nat.{ℕ, ◌≤◌, ◌<◌, max}
use mathlib.Core.Bool.{Bool, true, false}
use mathlib.Core.List.{List, ◌∷◌}
use mathlib.Core.Logic.{inl, inr, ⊎_elim}
use mathlib.Core.Path.{◌≡◌, refl, sym, ◌∙◌, subst}
use native.Mathlib.Omega.{arith}
use Rattle.model.proofs.Cases.{clash}
use Rattle.model.specs.Store.{Store}
use Rattle.model.specs.Calls.{Or, no, ok, give, Seen, Spot, on_occupied, on_vacant, entry, stored_by, after_insert, put_spot, after_put, remove, removed_by, after_remove, acted, capacity, after_make, copy, after_copy, union, after_union, occupied_get, after_set, occupied_remove, after_drop, vacancy, vacant_insert, after_fill, or_insert, after_or_insert, insert_entry, after_insert_entry}
use Rattle.model.specs.Machine.{Own, makes, clears, capacities, lens, empties, reserves, gets, contains_keys, removes, entries, inserts, puts, occupied_gets, occupied_removes, occupied_sets, vacant_inserts, or_inserts, insert_entries, Call, own, copies, unions, steps, Answer, fine, seen, spot, value, report, World, tells, leaves, answer, left}
use Rattle.model.specs.Demand2.{refuses}
use Rattle.model.specs.Demand1.{Row, row, First, none_applies, applies_here, goes_on, Applies, Least, Rising, rises_end, rises, KeyBar, rows}

rising_above : (rs : List Row) (a i : ℕ) → Rising a rs → Applies rs i → a < i
rising_above rs a i rises_end x = absurd x
rising_above rs a i (rises h r) (inl x) = omega (arith, h x.0, x.1)
rising_above rs a i (rises {n = n} {rs = qs} h r) (inr x) = omega (arith, rising_above qs (max a n) i r x)

first_applies : (rs : List Row) (n : ℕ) → First rs n → (n ≡ 0 → ⊥) → Applies rs n
first_applies rs n none_applies h = absurd (h refl)
first_applies rs n (applies_here p) h = inl (p, refl)
first_applies rs n (goes_on {rs = qs} q f) h = inr (first_applies qs n f h)

first_least : (rs : List Row) (n a : ℕ) → First rs n → Rising a rs → (i : ℕ) → Applies rs i → (a < n) × (n ≤ i)
first_least rs n a none_applies r i x = absurd x
first_least rs n a (applies_here p) (rises h r) i (inl x) = (h p, omega (arith, x.1))
first_least rs n a (applies_here {rs = qs} p) (rises h r) i (inr x) = (h p, omega (arith, rising_above qs (max a n) i r x))
first_least rs n a (goes_on q f) (rises h r) i (inl x) = absurd (q x.0)
first_least rs n a (goes_on {i = j} {rs = qs} q f) (rises h r) i (inr x) = let (u, v) = first_least qs n (max a j) f r i x in (omega arith, v)

-- the constructor as a function, so that what is to be shown is known before its proof is read
rise : {a n : ℕ} {P : Type 0} {rs : List Row} → (P → a < n) → Rising (max a n) rs → Rising a (row n P ∷ rs)
rise h r = rises h r

-- a row above what came before, and then the others
up : {a n : ℕ} {P : Type 0} {rs : List Row} → a < n → Rising n rs → Rising a (row n P ∷ rs)
up {a} {n} {P} {rs} l r = let e : n ≡ max a n = omega arith in rise (λ p. l) (subst (λ x. Rising x rs) e r)

-- a row that cannot apply, and then the others
passed_over : {a b : ℕ} {rs : List Row} → b ≡ 0 → Rising a rs → Rising a (row b (b ≡ 0 → ⊥) ∷ rs)
passed_over {a} {b} {rs} e r = let z : a ≡ max a b = omega arith in rise (λ p. absurd (p e)) (subst (λ x. Rising x rs) z r)

-- sizes and key, then rows from 5 on
keyed : {b : ℕ} {P : Type 0} {rs : List Row} → KeyBar b → ((a : ℕ) → a < 5 → Rising a rs) → Rising 0 (row 1 P ∷ row b (b ≡ 0 → ⊥) ∷ rs)
keyed {b} k r = rise (λ p. omega arith) (rise (λ p. ⊎_elim (λ e. absurd (p e)) (λ e. omega arith) k) (r (max (max 0 1) b) (⊎_elim (λ e. omega arith) (λ e. omega arith) k)))

module _ {K W : Type 0} (M : Store K W) (asked_bar : (k : K) → KeyBar (M.asked k)) (kept_bar : (k : K) → KeyBar (M.kept k)) (Carried-none : (m : M.State) → M.carried m ≡ 0) where
  own_rising : (w : World M) (x : ℕ) (c : Own K W) → Rising 0 (rows M w x (own c))
  own_rising w x makes = up (omega arith) rises_end
  own_rising w x clears = up (omega arith) rises_end
  own_rising w x capacities = up (omega arith) rises_end
  own_rising w x lens = up (omega arith) (up (omega arith) rises_end)
  own_rising w x empties = up (omega arith) (up (omega arith) rises_end)
  own_rising w x (reserves n b) = up (omega arith) (up (omega arith) (up (omega arith) (up (omega arith) rises_end)))
  own_rising w x (gets k) = keyed (asked_bar k) (λ a l. up l rises_end)
  own_rising w x (contains_keys k) = keyed (asked_bar k) (λ a l. up l rises_end)
  own_rising w x (removes k) = keyed (asked_bar k) (λ a l. up l rises_end)
  own_rising w x (entries k) = keyed (kept_bar k) (λ a l. up l (up (omega arith) (up (omega arith) rises_end)))
  own_rising w x (inserts k v) = keyed (kept_bar k) (λ a l. up l (up (omega arith) (up (omega arith) rises_end)))
  own_rising w x (puts k v) = up (omega arith) (up (omega arith) (up (omega arith) (up (omega arith) rises_end)))
  own_rising w x (occupied_gets s k) = keyed (asked_bar k) (λ a l. up l (up (omega arith) rises_end))
  own_rising w x (occupied_removes s k) = keyed (asked_bar k) (λ a l. up l (up (omega arith) rises_end))
  own_rising w x (occupied_sets s k v) = keyed (asked_bar k) (λ a l. up l (up (omega arith) rises_end))
  own_rising w x (vacant_inserts s k v) = keyed (kept_bar k) (λ a l. up l (up (omega arith) rises_end))
  own_rising w x (or_inserts (on_occupied s) k v) = keyed (asked_bar k) (λ a l. up l (up (omega arith) rises_end))
  own_rising w x (or_inserts (on_vacant s) k v) = keyed (kept_bar k) (λ a l. up l (up (omega arith) rises_end))
  own_rising w x (insert_entries (on_occupied s) k v) = keyed (asked_bar k) (λ a l. up l (up (omega arith) rises_end))
  own_rising w x (insert_entries (on_vacant s) k v) = keyed (kept_bar k) (λ a l. up l (up (omega arith) rises_end))

  -- the numbers of every call's rows rise
  pub rising : (w : World M) (x : ℕ) (c : Call K W) → Rising 0 (rows M w x c)
  rising w x (own c) = own_rising w x c
  rising w x (copies y) = up (omega arith) rises_end
  rising w x (unions y) = up (omega arith) (up (omega arith) (passed_over (Carried-none (w y)) (up (omega arith) (up (omega arith) rises_end))))
  rising w x (steps a b) = up (omega arith) (up (omega arith) (up (omega arith) (up (omega arith) rises_end)))

-- where the numbers of the rows rise, the first that applies is the lowest
pub lowest : (rs : List Row) (n : ℕ) → Rising 0 rs → First rs n → Least rs n
lowest rs n r f = record { applies = first_applies rs n f; least = first_least rs n 0 f r }

-- a refused call leaves every lent place as it was
module _ {K W : Type 0} (M : Store K W) where
  still : {A : Type 0} (say : A → Answer K W) → ((a : A) → refuses (say a) ≡ false) → (m : M.State) (a : Or A) (n : M.State) → refuses (report say a) ≡ true → acted M m a n ≡ m
  unfolding acted report refuses
  still say f m (no r) n e = refl
  still say f m (ok u) n e = let c : ◌≡◌ {A = Bool} true false = sym e ∙ f u in clash cc

  still_given : {A : Type 0} (v : W) (m : M.State) (a : Or A) (n : M.State) → refuses (report {K = K} value (give v a)) ≡ true → acted M m a n ≡ m
  unfolding acted report refuses give
  still_given v m (no r) n e = refl
  still_given v m (ok u) n e = clash cc

  still_stored : (m : M.State) (k : K) (v : W) (a : Or (Spot W)) → refuses (report {K = K} spot a) ≡ true → stored_by M m k v a ≡ m
  unfolding stored_by report refuses
  still_stored m k v (no r) e = refl
  still_stored m k v (ok u) e = clash cc

  still_removed : (m : M.State) (a : Or (Seen W)) → refuses (report {K = K} seen a) ≡ true → removed_by M m a ≡ m
  unfolding removed_by report refuses
  still_removed m (no r) e = refl
  still_removed m (ok u) e = clash cc

  own_still : (m : M.State) (c : Own K W) → refuses (tells M m c) ≡ true → leaves M m c ≡ m
  unfolding tells leaves refuses after_make after_insert after_put after_remove after_set after_drop after_fill vacant_insert or_insert after_or_insert insert_entry after_insert_entry
  own_still m makes e = still (λ n. fine) (λ a. refl) m (capacity M m) (M.wipe m) e
  own_still m clears e = still (λ n. fine) (λ a. refl) m (capacity M m) (M.wipe m) e
  own_still m capacities e = refl
  own_still m lens e = refl
  own_still m empties e = refl
  own_still m (reserves n b) e = refl
  own_still m (gets k) e = refl
  own_still m (contains_keys k) e = refl
  own_still m (removes k) e = still_removed m (remove M m k) e
  own_still m (entries k) e = refl
  own_still m (inserts k v) e = still_stored m k v (entry M m k) e
  own_still m (puts k v) e = still_stored m k v (put_spot M m k) e
  own_still m (occupied_gets s k) e = refl
  own_still m (occupied_removes s k) e = still value (λ a. refl) m (occupied_remove M m s k) (M.free m s) e
  own_still m (occupied_sets s k v) e = still value (λ a. refl) m (occupied_get M m s k) (M.over m s v) e
  own_still m (vacant_inserts s k v) e = still_given v m (vacancy M m s k) (M.fill m s k v) e
  own_still m (or_inserts (on_occupied s) k v) e = refl
  own_still m (or_inserts (on_vacant s) k v) e = still_given v m (vacancy M m s k) (M.fill m s k v) e
  own_still m (insert_entries (on_occupied s) k v) e = still_given v m (occupied_get M m s k) (M.over m s v) e
  own_still m (insert_entries (on_vacant s) k v) e = still_given v m (vacancy M m s k) (M.fill m s k v) e

  pub refused_still : (w : World M) (x : ℕ) (c : Call K W) → refuses (answer M w x c) ≡ true → left M w x c ≡ w x
  unfolding answer left refuses after_copy after_union
  refused_still w x (own c) e = own_still (w x) c e
  refused_still w x (copies y) e = still (λ u. fine) (λ a. refl) (w x) (copy M (w x) (w y)) (w y) e
  refused_still w x (unions y) e = still (λ u. fine) (λ a. refl) (w x) (union M (w x) (w y)) _ e
  refused_still w x (steps a b) e = refl
