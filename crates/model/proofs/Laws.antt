-- The laws that a manual prints: each a short statement in the scope's words, over any store, and over any lawful store where a table must be sound.
-- Most of them rest on one fact: on a table that shows a map, the path of a key finds it, or ends without it (`path_of_law`).
-- A law unfolds one call, goes by these two cases, and reads the answer off; laws on any memory go by how the path ended.
use Prim.Native.Nat.{ℕ, zero, suc, ◌+◌, ◌-◌, ◌≤◌, ◌<◌, min}
use mathlib.Core.Bool.{Bool, true, false, cond, not}
use mathlib.Core.List.{List, [], ◌∷◌}
use mathlib.Core.Logic.{◌⊎◌, inl, inr, ⊎_elim, ◌↔◌}
use mathlib.Core.Option.{Option, none, some}
use mathlib.Core.Path.{◌≡◌, refl, sym, ◌∙◌, ap}
use native.Mathlib.Omega.{arith}
use borrow.Author.Tests.{lt-ltb, leb-true, leb-false, eqb-true, eq-eqb, not-true}
use lib.Dec.{ltb, leb, eqb}
use Rattle.model.specs.Slots.{never, damaged, frees, live, made, pairs}
use Rattle.model.specs.Path.{Find, hit, miss, damage, at, free_at}
use Rattle.model.specs.Finite.{Finite, is_some, contains, member, mass, len, empty, insert, remove, firsts, finite_of}
use Rattle.model.specs.Store.{Store, path, slot_at, path_length, live_count, used, damaged_slots}
use Rattle.model.specs.Calls.{lookup_of, Or, no, ok, need, pass, give, Seen, found, absent, Spot, occupied, vacant, on_occupied, on_vacant, seen_by, spot_by, get, entry, stored_by, after_insert, put_spot, after_put, removed_by, after_remove, acted, capacity, after_make, any_damage, reserve, copy, after_copy, rule_by, rule, store_all, missed, lacking, needs, union, after_union, held_on, held_at, occupied_get, after_set, occupied_remove, after_drop, good_for, vacancy, vacant_insert, after_fill, or_insert, after_or_insert, insert_entry, after_insert_entry}
use Rattle.model.specs.Calls
use Rattle.model.specs.Walk.{StepAnswer, pair, nothing, done, halts, step}
use Rattle.model.specs.Machine.{makes, clears, capacities, lens, empties, reserves, gets, contains_keys, removes, entries, inserts, puts, occupied_gets, occupied_removes, occupied_sets, vacant_inserts, or_inserts, insert_entries, Call, own, copies, unions, steps, Answer, refused, fine, number, truth, seen, spot, value, stepped, report, World, tells, leaves, stepping, answer}
use Rattle.model.specs.Demand1.{Row, row, First, none_applies, applies_here, goes_on, Absent, DamagedOnPath, DamagedSomewhere, AnyDamage, sized_rows, count_rows, look_rows, room_rows, place_rows, grip_rows, open_rows, rows, refusal, number_in}
use Rattle.model.specs.Demand2.{refuses, renews, EntryOf, is_occupied, is_vacant, is_full, is_tight}
use Rattle.model.specs.Tables.{sweeps, Renewal}
use Rattle.model.specs.Lawful.{Lawful, SoundTable, Shows}
use Rattle.model.proofs.Cases.{by_bool, by_lt, by_eq, clash}
use Rattle.model.proofs.Slots.{put_same, damaged_bad}
use Rattle.model.proofs.Path.{at_below, hurt_at, hit_at, hit_examined, miss_examined, examined_low, examined_high, free_before, free_here, free_high}
use Rattle.model.proofs.Sound.{sound_look, no_free_full, full_no_free}
use Rattle.model.proofs.Pairs.{total_pairs}
use Rattle.model.proofs.Accepted.{need_ok, pass_ok, seen_found, seen_absent, spot_occupied, spot_vacant, entry_spot, put_taken, grip_live, occupied_grip, removed_grip, good_vacant}
use Rattle.model.proofs.Shows.{home_below, shows_wipe, PathOf, here, gone, path_of_law, free_room, shows_unharmed}
use Rattle.model.proofs.Exact.{live_len, used_mass, len_high, used_high, seen_for, seen_is, length_is}
use Rattle.model.proofs.Keeps.{path_free, insert_shows, remove_shows, set_shows, drop_shows}
use Rattle.model.proofs.Walk.{Strode, strode_pair, strode_nothing, strode_done, strode}
use Rattle.model.proofs.Union.{union_shows}
use Rattle.model.proofs.Tables.{healthy_shows}
use Rattle.model.proofs.Demand1.{PathSays, told_hit, told_miss, told_hurt, told, entry_clear, demand_1}

module _ {A : Type 0} where
  -- a refusal is the test's own, or what stands behind it
  need_no : (b : Bool) (n : ℕ) (a : Or A) (i : ℕ) → need b n a ≡ no i → (i ≡ n) ⊎ (a ≡ no i)
  unfolding need
  need_no true n a i e = inr e
  need_no false n a i e = inl cc

  pass_no : (n : ℕ) (a : Or A) (i : ℕ) → pass n a ≡ no i → (i ≡ n) ⊎ (a ≡ no i)
  unfolding pass
  pass_no zero a i e = inr e
  pass_no (suc n) a i e = inl cc

refused_with : {K W : Type 0} (a : Answer K W) → refuses a ≡ true → (n : ℕ) × (a ≡ refused n)
unfolding refuses
refused_with (refused n) e = (n, refl)
refused_with fine e = clash cc
refused_with (number x) e = clash cc
refused_with (truth x) e = clash cc
refused_with (seen x) e = clash cc
refused_with (spot x) e = clash cc
refused_with (value x) e = clash cc
refused_with (stepped x) e = clash cc

-- an answer that passed is the answer
pass_said : {A : Type 0} (n : ℕ) (a b : A) → pass n (ok a) ≡ ok b → a ≡ b
unfolding pass
pass_said zero a b e = cc
pass_said (suc n) a b e = clash cc

-- what a lookup answers by the map's word says that word
seen_said : {K W : Type 0} (M : Store K W) (m : M.State) (k : K) (n : ℕ) (o : Option W) → lookup_of (pass n (ok (seen_for M m k o))) ≡ pass n (ok o)
unfolding lookup_of pass seen_for
seen_said M m k zero none = refl
seen_said M m k zero (some v) = refl
seen_said M m k (suc n) o = refl

-- an answer is a refusal exactly when it is a refusal's number and nothing else
pub refuses_is : {K W : Type 0} (a : Answer K W) → (refuses a ≡ true) ↔ ((n : ℕ) × (a ≡ refused n))
unfolding refuses
refuses_is a = (refused_with a, λ (n, e). rw e)

-- On any memory.
module _ {K W : Type 0} (M : Store K W) where
  -- contains looks along the same path as get, and says the same
  pub contains_as_get : (m : M.State) (k : K) → tells M m (contains_keys k) ≡ tells M m (gets k)
  unfolding tells
  contains_as_get m k = refl

  -- entry answers occupied or vacant, or refuses exactly as insert would
  pub entry_as_insert : (m : M.State) (k : K) (v : W) → tells M m (entries k) ≡ tells M m (inserts k v)
  unfolding tells
  entry_as_insert m k v = refl

  -- entry stores nothing, so that a vacant handle not used leaves all as it was
  pub entry_stores_nothing : (m : M.State) (k : K) → leaves M m (entries k) ≡ m
  unfolding leaves
  entry_stores_nothing m k = refl

  -- copy makes a table equal in every slot and byte
  pub copy_equals : (m n : M.State) (u : Unit {0}) → copy M m n ≡ ok u → after_copy M m n ≡ n
  unfolding after_copy acted
  copy_equals m n u e = rw e

  -- insert over a present key changes the value in its slot, and nothing else
  pub insert_over : (m : M.State) (k : K) (v w : W) (i e : ℕ) → entry M m k ≡ ok (occupied i w e) → after_insert M m k v ≡ M.over m i v
  unfolding after_insert stored_by
  insert_over m k v w i e q = rw q

  -- insert of an absent key fills the vacant slot, and nothing else
  pub insert_fill : (m : M.State) (k : K) (v : W) (i e : ℕ) → entry M m k ≡ ok (vacant i e) → after_insert M m k v ≡ M.fill m i k v
  unfolding after_insert stored_by
  insert_fill m k v i e q = rw q

  -- remove of a present key frees its slot, and nothing else
  pub remove_free : (m : M.State) (k : K) (w : W) (i e : ℕ) → Calls.remove M m k ≡ ok (found w i e) → after_remove M m k ≡ M.free m i
  unfolding after_remove removed_by
  remove_free m k w i e q = rw q

  -- remove of an absent key leaves all as it was
  pub remove_absent : (m : M.State) (k : K) (e : ℕ) → Calls.remove M m k ≡ ok (absent e) → after_remove M m k ≡ m
  unfolding after_remove removed_by
  remove_absent m k e q = rw q

  -- an occupied handle's set changes the value in its own slot
  pub occupied_set_over : (m : M.State) (i : ℕ) (k : K) (v w : W) → occupied_get M m i k ≡ ok w → after_set M m i k v ≡ M.over m i v
  unfolding after_set acted
  occupied_set_over m i k v w q = rw q

  -- an occupied handle's remove frees its own slot, also where the key stands twice
  pub occupied_remove_free : (m : M.State) (i : ℕ) (k : K) (w : W) → occupied_remove M m i k ≡ ok w → after_drop M m i k ≡ M.free m i
  unfolding after_drop acted
  occupied_remove_free m i k w q = rw q

  -- a lookup that says found: the slot holds the key live with that value, and it is the last of the examined slots
  pub get_found_there : (m : M.State) (k : K) (v : W) (i e : ℕ) → get M m k ≡ ok (found v i e) → (M.slots m i ≡ live k v) × (e ≡ path_length M m k) × ((n : ℕ) × (e ≡ suc n) × (i ≡ slot_at M m k n))
  unfolding get path slot_at path_length
  get_found_there m k v i e q =
      let (n, p, r, t) = seen_found M m k v i e (pass_ok (M.asked k) (seen_by M m k (path M m k)) (found v i e) (need_ok (M.sized m) 1 (pass (M.asked k) (seen_by M m k (path M m k))) (found v i e) q).1).1 in
      by n p r t
    where
      by : (n : ℕ) → path M m k ≡ hit n v → i ≡ slot_at M m k n → e ≡ suc n → (M.slots m i ≡ live k v) × (e ≡ path_length M m k) × ((n : ℕ) × (e ≡ suc n) × (i ≡ slot_at M m k n))
      by n p r t = (
        rw r (hit_at M.keys (M.size m) (M.home m k) (M.slots m) k n v p).1,
        t ∙ sym (hit_examined M.keys (M.size m) (M.home m k) (M.slots m) k n v p),
        (n, t, r),
      )

  -- a lookup that says absent: no examined slot holds the key live
  pub get_absent_there : (m : M.State) (k : K) (e : ℕ) → get M m k ≡ ok (absent e) → Absent M m k × (e ≡ path_length M m k)
  unfolding get path path_length
  get_absent_there m k e q =
      let (f, p) = seen_absent M m k e (pass_ok (M.asked k) (seen_by M m k (path M m k)) (absent e) (need_ok (M.sized m) 1 (pass (M.asked k) (seen_by M m k (path M m k))) (absent e) q).1).1 in
      (missing f p (told M m k), sym (miss_examined M.keys (M.size m) (M.home m k) (M.slots m) k e f p))
    where
      missing : (f : ℕ) → path M m k ≡ miss e f → PathSays M m k → Absent M m k
      missing f p (told_hit n v r b a) = clash cc
      missing f p (told_miss x y r b a) = a
      missing f p (told_hurt r b a) = a

  -- what insert and a put store, where the path's own answer was accepted, is the insert rule
  stored_by_rule : (m : M.State) (k : K) (v : W) (x : Spot W) → spot_by M m k (path M m k) ≡ ok x → stored_by M m k v (ok x) ≡ rule M m k v
  unfolding stored_by rule rule_by
  stored_by_rule m k v (occupied i w e) q = let (n, p, r, t) = spot_occupied M m k w i e q in at_key n p r
    where
      at_key : (n : ℕ) → path M m k ≡ hit n w → i ≡ slot_at M m k n → M.over m i v ≡ rule_by M m k v (path M m k)
      at_key n p r = rw (p, r)
  stored_by_rule m k v (vacant i e) q = let (f, p, r, l, u) = spot_vacant M m k i e q in at_free f p r l
    where
      at_free : (f : ℕ) → path M m k ≡ miss e f → i ≡ slot_at M m k f → f < M.size m → M.fill m i k v ≡ rule_by M m k v (path M m k)
      at_free f p r l = rw (p, r, lt-ltb f (M.size m) l)

  -- an accepted insert does what the insert rule does
  pub insert_by_rule : (m : M.State) (k : K) (v : W) (x : Spot W) → entry M m k ≡ ok x → after_insert M m k v ≡ rule M m k v
  unfolding after_insert
  insert_by_rule m k v x q = ap (stored_by M m k v) q ∙ stored_by_rule m k v x (entry_spot M m k x q)

  -- and so does an accepted put
  pub put_by_rule : (m : M.State) (k : K) (v : W) (x : Spot W) → put_spot M m k ≡ ok x → after_put M m k v ≡ rule M m k v
  unfolding after_put
  put_by_rule m k v x q = ap (stored_by M m k v) q ∙ stored_by_rule m k v x (put_taken M m k x q)

  -- where the tests before the path pass, a put is what the path says
  pub put_clear : (m : M.State) (k : K) → M.sized m ≡ true → M.damaged_fully m ≡ false → put_spot M m k ≡ spot_by M m k (path M m k)
  unfolding put_spot need
  put_clear m k z h = rw (z, h)

  -- a put has insert's answer where the key may be stored
  pub put_as_insert : (m : M.State) (k : K) → M.kept k ≡ 0 → put_spot M m k ≡ entry M m k
  unfolding put_spot entry pass
  put_as_insert m k e = rw e

  -- an accepted union is the insert rule for each pair of the right, in the right's slot order
  pub union_folds : (l r : M.State) (u : Unit {0}) → union M l r ≡ ok u → after_union M l r ≡ store_all M l (pairs (M.slots r) (M.size r))
  unfolding after_union acted
  union_folds l r u e = rw e

  -- what a union needs, by the left as it is at first: once for each live slot of the right whose key is absent by its path in the left
  pub union_needs : (g : K → ℕ) (l r : M.State) → needs M g l r ≡ mass (λ k. cond (lacking M l k) (g k) 0) (firsts (pairs (M.slots r) (M.size r)))
  unfolding needs
  union_needs g l r = total_pairs (λ k. cond (lacking M l k) (g k) 0) (M.slots r) (M.size r)

  -- what a union calls absent is absent by its path: no examined slot holds the key live
  pub lacking_absent : (m : M.State) (k : K) → (lacking M m k ≡ true) ↔ Absent M m k
  unfolding lacking missed
  lacking_absent m k = go (told M m k)
    where
      go : PathSays M m k → (lacking M m k ≡ true) ↔ Absent M m k
      go (told_hit n v p b a) = ((λ e. let c : ◌≡◌ {A = Bool} false true = rw p at e in clash cc), (λ x. absurd (a x)))
      go (told_miss e f p b a) = ((λ x. a), (λ x. rw p))
      go (told_hurt p b a) = ((λ x. a), (λ x. rw p))

  -- a vacant slot is the first of the path with mark 0 or 2
  pub vacant_first_free : (m : M.State) (k : K) (i e : ℕ) → entry M m k ≡ ok (vacant i e) → (n : ℕ) × (n < M.size m) × (i ≡ slot_at M m k n) × (frees (M.slots m i) ≡ true) × ((j : ℕ) → j < n → frees (M.slots m (slot_at M m k j)) ≡ false)
  unfolding slot_at
  vacant_first_free m k i e q =
      let (f, p, r, l, u) = spot_vacant M m k i e (entry_spot M m k (vacant i e) q) in
      by f r l (path_free M m k e f p)
    where
      by : (f : ℕ) → i ≡ slot_at M m k f → f < M.size m → f ≡ free_at (M.size m) (M.home m k) (M.slots m) → (n : ℕ) × (n < M.size m) × (i ≡ slot_at M m k n) × (frees (M.slots m i) ≡ true) × ((j : ℕ) → j < n → frees (M.slots m (slot_at M m k j)) ≡ false)
      by f r l y = (f, l, r, rw (r, y) (free_here (M.size m) (M.home m k) (M.slots m) (omega arith)), λ j c. free_before (M.size m) (M.home m k) (M.slots m) j (omega arith))

  -- the tests of a storing call, passed
  stored_tests : {A : Type 0} (m : M.State) (n : ℕ) (a : Or A) (x : A) → need (M.sized m) 1 (pass n (need (not (M.damaged_fully m)) 5 a)) ≡ ok x → (M.sized m ≡ true) × (n ≡ 0) × (not (M.damaged_fully m) ≡ true) × (a ≡ ok x)
  stored_tests m n a x e =
      let (z, p) = need_ok (M.sized m) 1 (pass n (need (not (M.damaged_fully m)) 5 a)) x e in
      let (y, q) = pass_ok n (need (not (M.damaged_fully m)) 5 a) x p in
      let (h, r) = need_ok (not (M.damaged_fully m)) 5 a x q in
      (z, y, h, r)

  -- a vacant handle is good exactly when the key is absent and insert would use that slot without refusing
  pub vacant_good : (m : M.State) (s : ℕ) (k : K) → (vacancy M m s k ≡ ok tt) ↔ ((e : ℕ) × (entry M m k ≡ ok (vacant s e)))
  unfolding vacancy entry need pass good_for
  vacant_good m s k = (
    (λ q.
        let (z, y, h, r) = stored_tests m (M.kept k) (good_for M s (spot_by M m k (path M m k))) tt q in
        let (e, p) = good_vacant M m k s tt r in
        (e, entry_clear M m k z y (not-true (M.damaged_fully m) h) ∙ p)),
    (λ (e, q).
        let (z, y, h, r) = stored_tests m (M.kept k) (spot_by M m k (path M m k)) (vacant s e) q in
        rw (z, y, h, r, eq-eqb s s refl)),
  )

  -- a good vacant handle's insert leaves what insert leaves
  pub vacant_inserts_alike : (m : M.State) (s : ℕ) (k : K) (v : W) → vacancy M m s k ≡ ok tt → after_fill M m s k v ≡ after_insert M m k v
  unfolding after_fill after_insert acted stored_by
  vacant_inserts_alike m s k v q = let (e, p) = (vacant_good m s k).0 q in rw (q, p)

  -- and it answers the value that is now in the slot
  pub vacant_answers : (m : M.State) (s : ℕ) (k : K) (v : W) → vacancy M m s k ≡ ok tt → vacant_insert M m s k v ≡ ok v
  unfolding vacant_insert give
  vacant_answers m s k v q = rw q

  -- a vacant handle never answers 7 or 8: it refuses for the key, or with 6 or less
  pub vacant_never_full : (m : M.State) (s : ℕ) (k : K) (n : ℕ) → vacancy M m s k ≡ no n → (n ≡ M.kept k) ⊎ (n ≤ 6)
  unfolding vacancy good_for
  vacant_never_full m s k n q =
      ⊎_elim (λ c. inr (omega arith))
      (λ p. ⊎_elim (λ c. inl c)
      (λ r. ⊎_elim (λ c. inr (omega arith)) (λ t. inr (small (spot_by M m k (path M m k)) t))
      (need_no (not (M.damaged_fully m)) 5 (good_for M s (spot_by M m k (path M m k))) n r))
      (pass_no (M.kept k) (need (not (M.damaged_fully m)) 5 (good_for M s (spot_by M m k (path M m k)))) n p))
      (need_no (M.sized m) 1 (pass (M.kept k) (need (not (M.damaged_fully m)) 5 (good_for M s (spot_by M m k (path M m k))))) n q)
    where
      small : (r : Or (Spot W)) → good_for M s r ≡ no n → n ≤ 6
      small (no i) t = by_eq i 5
          (λ c x. let z : ◌≡◌ {A = Or (Unit {0})} (no 5) (no n) = rw x at t in let y : n ≡ 5 = cc in omega arith)
          (λ c x. let z : ◌≡◌ {A = Or (Unit {0})} (no 6) (no n) = rw x at t in let y : n ≡ 6 = cc in omega arith)
      small (ok (occupied x w e)) t = let y : n ≡ 6 = cc in omega arith
      small (ok (vacant x e)) t = ⊎_elim (λ c. omega arith) (λ c. clash cc) (need_no (eqb s x) 6 (ok (tt {0})) n t)

  -- an occupied handle is good exactly when its slot is live and holds that key now; then it reads the value there
  pub occupied_good : (m : M.State) (s : ℕ) (k : K) (v : W) → M.sized m ≡ true → M.asked k ≡ 0 → (occupied_get M m s k ≡ ok v) ↔ ((s < M.size m) × (M.slots m s ≡ live k v))
  unfolding occupied_get need pass held_at held_on
  occupied_good m s k v z y = ((λ e. grip_live M m k s v (occupied_grip M m k s v e)), (λ (l, q). rw (z, y, lt-ltb s (M.size m) l, q, M.keys.self k)))

  -- or_insert keeps a present value
  pub or_insert_keeps : (m : M.State) (s : ℕ) (k : K) (v w : W) → occupied_get M m s k ≡ ok w → (or_insert M m (on_occupied s) k v ≡ ok w) × (after_or_insert M m (on_occupied s) k v ≡ m)
  unfolding or_insert after_or_insert
  or_insert_keeps m s k v w e = (e, refl)

  -- or_insert of a vacant handle is its insert
  pub or_insert_vacant : (m : M.State) (s : ℕ) (k : K) (v : W) → (or_insert M m (on_vacant s) k v ≡ vacant_insert M m s k v) × (after_or_insert M m (on_vacant s) k v ≡ after_fill M m s k v)
  unfolding or_insert after_or_insert
  or_insert_vacant m s k v = (refl, refl)

  -- and so is insert_entry
  pub insert_entry_vacant : (m : M.State) (s : ℕ) (k : K) (v : W) → (insert_entry M m (on_vacant s) k v ≡ vacant_insert M m s k v) × (after_insert_entry M m (on_vacant s) k v ≡ after_fill M m s k v)
  unfolding insert_entry after_insert_entry
  insert_entry_vacant m s k v = (refl, refl)

  -- insert_entry replaces a present value, as the occupied handle's set does
  pub insert_entry_replaces : (m : M.State) (s : ℕ) (k : K) (v w : W) → occupied_get M m s k ≡ ok w → (insert_entry M m (on_occupied s) k v ≡ ok v) × (after_insert_entry M m (on_occupied s) k v ≡ after_set M m s k v)
  unfolding insert_entry after_insert_entry give
  insert_entry_replaces m s k v w e = (rw e, refl)

-- On any memory of a lawful store.
module _ {K W : Type 0} (M : Store K W) (L : Lawful M) where
  -- making gives a sound table with no key
  pub make_sound : (m : M.State) → M.sized m ≡ true → Shows M (after_make M m) empty
  unfolding after_make capacity need acted
  make_sound m z = rw z (shows_wipe M L m z)

  -- the examined number is from 1 to S
  pub examined_range : (m : M.State) (k : K) → M.sized m ≡ true → (1 ≤ path_length M m k) × (path_length M m k ≤ M.size m)
  unfolding path_length
  examined_range m k z = (examined_low M.keys (M.size m) (M.home m k) (M.slots m) k (omega (arith, L.homes m k z)), examined_high M.keys (M.size m) (M.home m k) (M.slots m) k)

  -- no free slot on the path of an absent key is every slot live
  pub no_free_is_full : (m : M.State) (k : K) (e f : ℕ) → M.sized m ≡ true → path M m k ≡ miss e f → (f ≡ M.size m) ↔ (live_count M m ≡ M.size m)
  unfolding path live_count
  no_free_is_full m k e f z q = (
    (λ c. no_free_full M.keys (M.size m) (M.home m k) (L.homes m k z) (M.slots m) k e f q (omega arith)),
    (λ c. path_free M m k e f q ∙ full_no_free M.keys (M.size m) (M.home m k) (L.homes m k z) (M.slots m) k c),
  )

  -- make and clear leave every mark 0
  pub make_never : (m : M.State) (i : ℕ) → M.sized m ≡ true → M.slots (after_make M m) i ≡ never
  unfolding after_make capacity need acted made
  make_never m i z = rw (z, (L.wipe_wrote m z).slots)

  -- a union keeps a sound left sound, whatever the right
  pub union_keeps_sound : (l r : M.State) → SoundTable M l → SoundTable M (after_union M l r)
  unfolding after_union acted
  union_keeps_sound l r h = go (union M l r) refl
    where
      go : (a : Or (Unit {0})) → union M l r ≡ a → SoundTable M (acted M l a (store_all M l (pairs (M.slots r) (M.size r))))
      go (no n) e = h
      go (ok u) e = (union_shows M L l r (finite_of M.keys (M.slots l) (M.size l)) (healthy_shows M L l h) u e).sound_table

  -- a copy is sound where its source is, with the same map
  pub copy_sound : (m n : M.State) (g : Finite K W) (u : Unit {0}) → Shows M n g → copy M m n ≡ ok u → Shows M (after_copy M m n) g
  copy_sound m n g u t e = rw (copy_equals M m n u e) t

-- On a sound memory that shows the map f.
module _ {K W : Type 0} (M : Store K W) (L : Lawful M) (m : M.State) (f : Finite K W) (s : Shows M m f) where
  -- get says found, with the map's value, its slot, and the path's own examined number
  pub get_found : (k : K) (v : W) → M.asked k ≡ 0 → f.look k ≡ some v → (i : ℕ) × (M.slots m i ≡ live k v) × (get M m k ≡ ok (found v i (path_length M m k)))
  unfolding get need pass seen_by path path_length
  get_found k v a e = go (path_of_law M L m f s k)
    where
      go : PathOf M L m f s k → (i : ℕ) × (M.slots m i ≡ live k v) × (get M m k ≡ ok (found v i (path_length M m k)))
      go (here n w p q l c) =
          let d : w ≡ v = cc in
          let x : suc n ≡ path_length M m k = sym (hit_examined M.keys (M.size m) (M.home m k) (M.slots m) k n w p) in
          (slot_at M m k n, c ∙ ap (λ y. live k y) d, rw (s.sound_table.sized, a, p) (ap (λ y. ok (found y (slot_at M m k n) (suc n))) d ∙ ap (λ y. ok (found v (slot_at M m k n) y)) x))
      go (gone p q) = clash cc

  -- or absent, with that number
  pub get_absent : (k : K) → M.asked k ≡ 0 → f.look k ≡ none → get M m k ≡ ok (absent (path_length M m k))
  unfolding get need pass seen_by
  get_absent k a e = go (path_of_law M L m f s k)
    where
      go : PathOf M L m f s k → get M m k ≡ ok (absent (path_length M m k))
      go (here n w p q l c) = clash cc
      go (gone p q) = rw (s.sound_table.sized, a, p)

  -- an accepted insert maps the key to the value, and nothing else
  pub insert_map : (k : K) (v : W) (x : Spot W) → entry M m k ≡ ok x → Shows M (after_insert M m k v) (insert M.keys f k v)
  unfolding report refuses
  insert_map k v x e = rw e at (insert_shows M L m f s k v)

  -- an accepted remove takes the key out, and nothing else
  pub remove_map : (k : K) (x : Seen W) → Calls.remove M m k ≡ ok x → Shows M (after_remove M m k) (remove M.keys f k)
  unfolding report refuses
  remove_map k x e = rw e at (remove_shows M L m f s k)

  -- where entry says vacant, the key is absent, and it stays so while the handle is not used
  pub vacant_absent : (k : K) (i e : ℕ) → entry M m k ≡ ok (vacant i e) → f.look k ≡ none
  vacant_absent k i e q = let (x, p, r, l, u) = spot_vacant M m k i e (entry_spot M m k (vacant i e) q) in go x p (path_of_law M L m f s k)
    where
      go : (x : ℕ) → path M m k ≡ miss e x → PathOf M L m f s k → f.look k ≡ none
      go x p (here n w c d l t) = clash cc
      go x p (gone c d) = d

  -- an occupied handle reads the map's value
  pub occupied_reads : (i : ℕ) (k : K) (v : W) → occupied_get M m i k ≡ ok v → f.look k ≡ some v
  occupied_reads i k v e =
      let (l, c) = grip_live M m k i v (occupied_grip M m k i v e) in
      sym (s.looks k) ∙ sound_look M.keys (M.size m) (M.home m) (home_below M L m s.sound_table) (M.slots m) s.sound_table.sound k i v l c

  -- its set maps the key to the new value
  pub occupied_set_map : (i : ℕ) (k : K) (v w : W) → occupied_get M m i k ≡ ok w → Shows M (after_set M m i k v) (insert M.keys f k v)
  unfolding after_set acted
  occupied_set_map i k v w e = rw e (set_shows M L m f s i k v w e)

  -- and the handle then reads it
  pub occupied_set_read : (i : ℕ) (k : K) (v w : W) → occupied_get M m i k ≡ ok w → occupied_get M (after_set M m i k v) i k ≡ ok v
  unfolding after_set acted need occupied_get
  occupied_set_read i k v w e =
      let (l, c) = grip_live M m k i w (occupied_grip M m k i w e) in
      let o = L.over_wrote m i k v w s.sound_table.sized s.sound_table.good l c in
      rw e ((occupied_good M (M.over m i v) i k v (o.sized ∙ s.sound_table.sized) (asked_none e)).1 (rw o.size l, ap (λ t. t i) o.slots ∙ put_same (M.slots m) i (live k v)))
    where
      asked_none : occupied_get M m i k ≡ ok w → M.asked k ≡ 0
      asked_none q = (pass_ok (M.asked k) (held_at M m i k) w (need_ok (M.sized m) 1 (pass (M.asked k) (held_at M m i k)) w q).1).0

  -- its remove answers the map's value and takes the key out
  pub occupied_remove_map : (i : ℕ) (k : K) (w : W) → occupied_remove M m i k ≡ ok w → (f.look k ≡ some w) × Shows M (after_drop M m i k) (remove M.keys f k)
  unfolding after_drop acted
  occupied_remove_map i k w e =
      let (l, c) = grip_live M m k i w (removed_grip M m k i w e) in
      (sym (s.looks k) ∙ sound_look M.keys (M.size m) (M.home m) (home_below M L m s.sound_table) (M.slots m) s.sound_table.sound k i w l c, rw e (drop_shows M L m f s i k w e))

  -- is_empty says whether the map has no key
  pub is_empty_is : tells M m empties ≡ truth (eqb (len f) 0)
  unfolding tells report
  is_empty_is = rw (length_is M L m f s)

  no_keys : (ks : List K) → mass (λ k. 1) ks ≡ 0 → (k : K) → member M.keys k ks ≡ false
  unfolding mass member
  no_keys [] e k = refl
  no_keys (a ∷ ks) e k = absurd (omega arith)

  keyless : (ks : List K) → ((k : K) → member M.keys k ks ≡ false) → mass (λ k. 1) ks ≡ 0
  unfolding mass member
  keyless [] h = refl
  keyless (a ∷ ks) h = let c : ◌≡◌ {A = Bool} true false = rw (M.keys.self a) at (h a) in clash cc

  not_some : (o : Option W) → is_some o ≡ false → o ≡ none
  unfolding is_some
  not_some none e = refl
  not_some (some v) e = clash cc

  -- that is, whether the map gives no key a value
  pub is_empty_exactly : (tells M m empties ≡ truth true) ↔ ((k : K) → f.look k ≡ none)
  unfolding len contains is_some
  is_empty_exactly = (
    (λ e k. let c : ◌≡◌ {A = Answer K W} (truth (eqb (len f) 0)) (truth true) = sym is_empty_is ∙ e in not_some (f.look k) (sym (s.proper.listed k) ∙ no_keys f.dom (eqb-true (len f) 0 (cc)) k)),
    (λ h. is_empty_is ∙ ap (λ b. truth b) (eq-eqb (len f) 0 (keyless f.dom (λ k. s.proper.listed k ∙ ap (λ o. is_some o) (h k))))),
  )

  -- get says of a key what the map says, in both directions: found with its value, or absent
  pub get_looks : (k : K) → lookup_of (get M m k) ≡ pass (M.asked k) (ok (f.look k))
  unfolding get need pass lookup_of seen_for
  get_looks k = rw (s.sound_table.sized, seen_is M L m f s k) (seen_said M m k (M.asked k) (f.look k))

  -- what get says is so in the map: found with that value, or absent
  pub get_found_map : (k : K) (v : W) (i e : ℕ) → get M m k ≡ ok (found v i e) → f.look k ≡ some v
  unfolding lookup_of
  get_found_map k v i e q = pass_said (M.asked k) (f.look k) (some v) (sym (get_looks k) ∙ ap (λ a. lookup_of a) q)

  pub get_absent_map : (k : K) (e : ℕ) → get M m k ≡ ok (absent e) → f.look k ≡ none
  unfolding lookup_of
  get_absent_map k e q = pass_said (M.asked k) (f.look k) none (sym (get_looks k) ∙ ap (λ a. lookup_of a) q)

  -- and so it is with remove
  pub remove_looks : (k : K) → lookup_of (Calls.remove M m k) ≡ pass (M.asked k) (ok (f.look k))
  unfolding Calls.remove need pass lookup_of seen_for
  remove_looks k = rw (s.sound_table.sized, shows_unharmed M L m f s, seen_is M L m f s k) (seen_said M m k (M.asked k) (f.look k))

  pub remove_found_map : (k : K) (v : W) (i e : ℕ) → Calls.remove M m k ≡ ok (found v i e) → f.look k ≡ some v
  unfolding lookup_of
  remove_found_map k v i e q = pass_said (M.asked k) (f.look k) (some v) (sym (remove_looks k) ∙ ap (λ a. lookup_of a) q)

  pub remove_absent_map : (k : K) (e : ℕ) → Calls.remove M m k ≡ ok (absent e) → f.look k ≡ none
  unfolding lookup_of
  remove_absent_map k e q = pass_said (M.asked k) (f.look k) none (sym (remove_looks k) ∙ ap (λ a. lookup_of a) q)

  -- there are at most S keys
  pub len_within : len f ≤ M.size m
  unfolding len
  len_within = len_high M L m f s

  -- insert and entry answer by the map and the room, for a key that is not itself refused
  pub entry_of : (k : K) → M.kept k ≡ 0 → EntryOf M m f k
  unfolding spot_by need path path_length
  entry_of k y = go (path_of_law M L m f s k)
    where
      told : entry M m k ≡ spot_by M m k (path M m k)
      told = entry_clear M m k s.sound_table.sized y (shows_unharmed M L m f s)

      go : PathOf M L m f s k → EntryOf M m f k
      go (here n v p e l q) = is_occupied (slot_at M m k n) v e q (told ∙ rw p (ap (λ x. ok (occupied (slot_at M m k n) v x)) (sym (hit_examined M.keys (M.size m) (M.home m k) (M.slots m) k n v p))))
      go (gone p e) = by_lt (free_at (M.size m) (M.home m k) (M.slots m)) (M.size m)
          (λ l x. let c : len f < M.size m = omega (arith, free_room M L m f s k e l, live_len M L m f s) in
          by_bool (leb (M.weight k) (M.bytes m - used M m))
          (λ b. is_vacant (slot_at M m k (free_at (M.size m) (M.home m k) (M.slots m))) e c (omega (arith, leb-true (M.weight k) (M.bytes m - used M m) b, used_mass M L m f s, used_high M L m f s)) (told ∙ rw (p, x, b)))
          (λ b. is_tight e c (omega (arith, leb-false (M.weight k) (M.bytes m - used M m) b, used_mass M L m f s, used_high M L m f s)) (told ∙ rw (p, x, b))))
          (λ l x. is_full e (sym (live_len M L m f s) ∙ (no_free_is_full M L m k (path_length M m k) (free_at (M.size m) (M.home m k) (M.slots m)) s.sound_table.sized p).0 (omega (arith, free_high (M.size m) (M.home m k) (M.slots m)))) (told ∙ rw (p, x)))

  -- insert is refused exactly when the key is absent and every slot is live (7), or else its bytes do not fit (8)
  pub insert_refused : (k : K) (n : ℕ) → M.kept k ≡ 0 → (entry M m k ≡ no n) ↔ ((f.look k ≡ none) × (((n ≡ 7) × (len f ≡ M.size m)) ⊎ ((n ≡ 8) × (len f < M.size m) × (M.bytes m < mass M.weight f.dom + M.weight k))))
  insert_refused k n y = go (entry_of k y)
    where
      go : EntryOf M m f k → (entry M m k ≡ no n) ↔ ((f.look k ≡ none) × (((n ≡ 7) × (len f ≡ M.size m)) ⊎ ((n ≡ 8) × (len f < M.size m) × (M.bytes m < mass M.weight f.dom + M.weight k))))
      go (is_occupied i v e q r) = ((λ c. clash cc), (λ (c, d). clash cc))
      go (is_vacant i e l u r) = ((λ c. clash cc), (λ (c, d). absurd (⊎_elim (λ x. omega arith) (λ x. omega arith) d)))
      go (is_full e l r) = ((λ c. (e, inl (cc, l))), (λ (c, d). ⊎_elim (λ x. r ∙ ap (λ i. no i) (sym x.0)) (λ x. absurd (omega arith)) d))
      go (is_tight e l u r) = ((λ c. (e, inr (cc, l, u))), (λ (c, d). ⊎_elim (λ x. absurd (omega arith)) (λ x. r ∙ ap (λ i. no i) (sym x.0)) d))

-- Reserve and insert on any memory of a table whose storing calls find the damage of every slot.
module _ {K W : Type 0} (M : Store K W) (homes : (m : M.State) (k : K) → M.sized m ≡ true → M.home m k < M.size m) (m : M.State) (full : any_damage M m ≡ M.damaged_fully m) where
  whole_path : (k : K) → M.sized m ≡ true → M.damaged_fully m ≡ false → path M m k ≡ damage → ⊥
  unfolding path any_damage damaged_slots
  whole_path k z h q =
      let (n, l, p) = hurt_at M.keys (M.size m) (M.home m k) (M.slots m) k q in
      let c = damaged_bad (M.slots m) (M.size m) (at (M.size m) (M.home m k) n) (at_below (M.size m) (M.home m k) n (homes m k z) l) p in
      let d : ◌≡◌ {A = Bool} true false = (rw c at full) ∙ h in
      clash cc

  room_not_5 : (i j : Bool) → number_in (need i 7 (need j 8 (ok (tt {0})))) ≡ 5 → ⊥
  unfolding need number_in
  room_not_5 true true e = omega arith
  room_not_5 true false e = omega arith
  room_not_5 false j e = omega arith

  spot_not_5 : (k : K) → M.sized m ≡ true → M.damaged_fully m ≡ false → number_in (spot_by M m k (path M m k)) ≡ 5 → ⊥
  unfolding spot_by need number_in
  spot_not_5 k z h e = go (path M m k) refl e
    where
      go : (r : Find W) → path M m k ≡ r → number_in (spot_by M m k r) ≡ 5 → ⊥
      go (hit n v) p e = omega arith
      go (miss x f) p e = by_bool (ltb f (M.size m))
          (λ a. by_bool (leb (M.weight k) (M.bytes m - used M m)) (λ b. omega (arith, rw (a, b) at e)) (λ b. omega (arith, rw (a, b) at e)))
          (λ a. omega (arith, rw a at e))
      go damage p e = whole_path k z h p

  -- reserve is refused 5 exactly where the insert of a key that may be stored is, whatever is asked for
  pub reserve_5_as_insert : (n b : ℕ) (k : K) → M.kept k ≡ 0 → (number_in (reserve M m n b) ≡ 5) ↔ (number_in (entry M m k) ≡ 5)
  unfolding reserve entry need pass number_in
  reserve_5_as_insert n b k y = by_bool (M.sized m)
      (λ z. by_bool (M.damaged_fully m)
      (λ h. rw (z, y, full, h) ((λ e. e), (λ e. e)))
      (λ h. rw (z, y, full, h) ((λ e. absurd (room_not_5 (leb n (M.size m - live_count M m)) (leb b (M.bytes m - used M m)) e)), (λ e. absurd (spot_not_5 k z h e)))))
      (λ z. rw z ((λ e. e), (λ e. e)))

-- Get after insert and after remove, on a sound memory that shows the map f.
module _ {K W : Type 0} (M : Store K W) (L : Lawful M) (m : M.State) (f : Finite K W) (s : Shows M m f) (k : K) where
  -- the same key: found with the new value
  pub get_after_insert : (v : W) (x : Spot W) → entry M m k ≡ ok x → M.asked k ≡ 0 → (i : ℕ) × (get M (after_insert M m k v) k ≡ ok (found v i (path_length M (after_insert M m k v) k)))
  unfolding insert
  get_after_insert v x e a = let (i, c, g) = get_found M L (after_insert M m k v) (insert M.keys f k v) (insert_map M L m f s k v x e) k v a (rw (M.keys.self k)) in (i, g)

  -- every other key: as before
  pub get_other_after_insert : (v : W) (x : Spot W) → entry M m k ≡ ok x → (a : K) → M.keys.same a k ≡ false → lookup_of (get M (after_insert M m k v) a) ≡ lookup_of (get M m a)
  unfolding insert
  get_other_after_insert v x e a h = get_looks M L (after_insert M m k v) (insert M.keys f k v) (insert_map M L m f s k v x e) a ∙ rw h (sym (get_looks M L m f s a))

  -- the same key: absent
  pub get_after_remove : (x : Seen W) → Calls.remove M m k ≡ ok x → M.asked k ≡ 0 → get M (after_remove M m k) k ≡ ok (absent (path_length M (after_remove M m k) k))
  unfolding remove
  get_after_remove x e a = get_absent M L (after_remove M m k) (remove M.keys f k) (remove_map M L m f s k x e) k a (rw (M.keys.self k))

  -- every other key: as before
  pub get_other_after_remove : (x : Seen W) → Calls.remove M m k ≡ ok x → (a : K) → M.keys.same a k ≡ false → lookup_of (get M (after_remove M m k) a) ≡ lookup_of (get M m a)
  unfolding remove
  get_other_after_remove x e a h = get_looks M L (after_remove M m k) (remove M.keys f k) (remove_map M L m f s k x e) a ∙ rw h (sym (get_looks M L m f s a))

-- no row of the list with the number 5 applies
data Calm : List Row → Type 1 where
  calm_end : Calm []
  other_number : {n : ℕ} {P : Type 0} {rs : List Row} → (n ≡ 5 → ⊥) → Calm rs → Calm (row n P ∷ rs)
  no_damage : {n : ℕ} {P : Type 0} {rs : List Row} → (P → ⊥) → Calm rs → Calm (row n P ∷ rs)

-- the two constructors as functions, so that what is to be shown is known before its proof is read
other : {n : ℕ} {P : Type 0} {rs : List Row} → (n ≡ 5 → ⊥) → Calm rs → Calm (row n P ∷ rs)
other h c = other_number h c

whole : {n : ℕ} {P : Type 0} {rs : List Row} → (P → ⊥) → Calm rs → Calm (row n P ∷ rs)
whole h c = no_damage h c

first_calm : {n : ℕ} {rs : List Row} → First rs n → Calm rs → n ≡ 5 → ⊥
first_calm none_applies calm_end e = omega arith
first_calm (applies_here p) (other_number h c) e = h e
first_calm (applies_here p) (no_damage h c) e = h p
first_calm (goes_on q f) (other_number h c) e = first_calm f c e
first_calm (goes_on q f) (no_damage h c) e = first_calm f c e

module _ {K W : Type 0} (M : Store K W) (L : Lawful M) (asked-else : (k : K) → M.asked k ≡ 5 → ⊥) (kept-else : (k : K) → M.kept k ≡ 5 → ⊥) (carried-else : (m : M.State) → M.carried m ≡ 5 → ⊥) where
  module _ (m : M.State) (h : SoundTable M m) where
    no_bad_somewhere : DamagedSomewhere M m → ⊥
    no_bad_somewhere (i, l, e) = h.sound.whole i l e

    no_bad_on_path : (k : K) → DamagedOnPath M m k → ⊥
    unfolding path_length slot_at
    no_bad_on_path k (j, l, e) = h.sound.whole (slot_at M m k j) (at_below (M.size m) (M.home m k) j (home_below M L m h k) (omega (arith, examined_high M.keys (M.size m) (M.home m k) (M.slots m) k))) e

    no_harm : M.damaged_fully m ≡ true → ⊥
    no_harm e = let q = L.unharmed m h.sized h.good h.sound in clash cc

    no_ruin : AnyDamage M m → ⊥
    no_ruin p = ⊎_elim no_bad_somewhere no_harm p

    no_harm_on_path : (k : K) → (M.damaged_fully m ≡ true) ⊎ DamagedOnPath M m k → ⊥
    no_harm_on_path k (inl e) = no_harm e
    no_harm_on_path k (inr b) = no_bad_on_path k b

    not_bad_at : (i : ℕ) → (i < M.size m) × (M.slots m i ≡ damaged) → ⊥
    not_bad_at i (l, e) = h.sound.whole i l e

    sized_calm : Calm (sized_rows M m)
    sized_calm = other (λ e. omega arith) calm_end

    count_calm : Calm (count_rows M m)
    count_calm = other (λ e. omega arith) (whole no_bad_somewhere calm_end)

    look_calm : (k : K) → Calm (look_rows M m k)
    look_calm k = other (λ e. omega arith) (other (asked-else k) (whole (no_bad_on_path k) calm_end))

    room_calm : (k : K) → Calm (room_rows M m k)
    room_calm k = whole (no_harm_on_path k) (other (λ e. omega arith) (other (λ e. omega arith) calm_end))

    place_calm : (k : K) → Calm (place_rows M m k)
    place_calm k = other (λ e. omega arith) (other (kept-else k) (room_calm k))

    grip_calm : (i : ℕ) (k : K) → Calm (grip_rows M m i k)
    grip_calm i k = other (λ e. omega arith) (other (asked-else k) (whole (not_bad_at i) (other (λ e. omega arith) calm_end)))

    open_calm : (i : ℕ) (k : K) → Calm (open_rows M m i k)
    open_calm i k = other (λ e. omega arith) (other (kept-else k) (whole (no_harm_on_path k) (other (λ e. omega arith) calm_end)))

  calm : (w : World M) → ((y : ℕ) → SoundTable M (w y)) → (x : ℕ) (c : Call K W) → Calm (rows M w x c)
  calm w h x (own makes) = sized_calm (w x) (h x)
  calm w h x (own clears) = sized_calm (w x) (h x)
  calm w h x (own capacities) = sized_calm (w x) (h x)
  calm w h x (own lens) = count_calm (w x) (h x)
  calm w h x (own empties) = count_calm (w x) (h x)
  calm w h x (own (reserves n b)) = other (λ e. omega arith) (whole (no_ruin (w x) (h x)) (other (λ e. omega arith) (other (λ e. omega arith) calm_end)))
  calm w h x (own (gets k)) = look_calm (w x) (h x) k
  calm w h x (own (contains_keys k)) = look_calm (w x) (h x) k
  calm w h x (own (removes k)) = other (λ e. omega arith) (other (asked-else k) (whole (no_harm_on_path (w x) (h x) k) calm_end))
  calm w h x (own (entries k)) = place_calm (w x) (h x) k
  calm w h x (own (inserts k v)) = place_calm (w x) (h x) k
  calm w h x (own (puts k v)) = other (λ e. omega arith) (room_calm (w x) (h x) k)
  calm w h x (own (occupied_gets i k)) = grip_calm (w x) (h x) i k
  calm w h x (own (occupied_removes i k)) = other (λ e. omega arith) (other (asked-else k) (whole (λ p. ⊎_elim (no_harm (w x) (h x)) (not_bad_at (w x) (h x) i) p) (other (λ e. omega arith) calm_end)))
  calm w h x (own (occupied_sets i k v)) = grip_calm (w x) (h x) i k
  calm w h x (own (vacant_inserts i k v)) = open_calm (w x) (h x) i k
  calm w h x (own (or_inserts (on_occupied i) k v)) = grip_calm (w x) (h x) i k
  calm w h x (own (or_inserts (on_vacant i) k v)) = open_calm (w x) (h x) i k
  calm w h x (own (insert_entries (on_occupied i) k v)) = grip_calm (w x) (h x) i k
  calm w h x (own (insert_entries (on_vacant i) k v)) = open_calm (w x) (h x) i k
  calm w h x (copies y) = other (λ e. omega arith) calm_end
  calm w h x (unions y) = other (λ e. omega arith) (whole (λ p. ⊎_elim (no_ruin (w x) (h x)) (no_ruin (w y) (h y)) p) (other (carried-else (w y)) (other (λ e. omega arith) (other (λ e. omega arith) calm_end))))
  calm w h x (steps a b) = other (λ e. omega arith) (other (λ e. omega arith) (other (λ e. omega arith) (whole (λ (j, u, l, v, q, r). (h x).sound.whole j l q) calm_end)))

  -- a sound table never answers 5, whatever the call (where a key itself is not refused with 5)
  pub sound_never_5 : (w : World M) → ((y : ℕ) → SoundTable M (w y)) → (x : ℕ) (c : Call K W) → refusal (answer M w x c) ≡ 5 → ⊥
  sound_never_5 w h x c e = first_calm (demand_1 M L.homes w x c) (calm w h x c) e

module _ {K W : Type 0} (M : Store K W) where
  swept : (c : Call K W) → sweeps M c ≡ true → Renewal M c
  unfolding sweeps renews
  swept (own makes) e = inl refl
  swept (own clears) e = inr (inl refl)
  swept (own capacities) e = clash cc
  swept (own lens) e = clash cc
  swept (own empties) e = clash cc
  swept (own (reserves n b)) e = clash cc
  swept (own (gets k)) e = clash cc
  swept (own (contains_keys k)) e = clash cc
  swept (own (removes k)) e = clash cc
  swept (own (entries k)) e = clash cc
  swept (own (inserts k v)) e = clash cc
  swept (own (puts k v)) e = clash cc
  swept (own (occupied_gets i k)) e = clash cc
  swept (own (occupied_removes i k)) e = clash cc
  swept (own (occupied_sets i k v)) e = clash cc
  swept (own (vacant_inserts i k v)) e = clash cc
  swept (own (or_inserts h k v)) e = clash cc
  swept (own (insert_entries h k v)) e = clash cc
  swept (copies y) e = inr (inr (y, refl))
  swept (unions y) e = clash cc
  swept (steps a b) e = clash cc

  sweeping : (c : Call K W) → Renewal M c → sweeps M c ≡ true
  unfolding sweeps renews
  sweeping c (inl e) = rw e
  sweeping c (inr (inl e)) = rw e
  sweeping c (inr (inr (y, e))) = rw e

  -- what counts as removing every key of the walked table: make, clear, or copy onto it, and no other call
  pub sweeps_exactly : (c : Call K W) → (sweeps M c ≡ true) ↔ Renewal M c
  sweeps_exactly c = (swept c, sweeping c)

-- A step of a walk, on any memory.
module _ {K W : Type 0} (M : Store K W) (m : M.State) (a b : ℕ) where
  strode_from : (p : StepAnswer K W) → stepping M m a b ≡ ok p → Strode (M.size m) (M.slots m) a b p
  unfolding stepping
  strode_from p e = strode (M.size m) (M.slots m) a 0 b p (need_ok (M.sized m) 1 (step (M.size m) (M.slots m) 0 a b) p e).1

  -- a pair is that of the first live slot from the walk on; the walk moves past it, and counts what it passed, within the budget
  pub step_pair : (k : K) (v : W) (x e : ℕ) → stepping M m a b ≡ ok (pair k v x e) → (j : ℕ) × (a ≤ j) × (j < M.size m) × (M.slots m j ≡ live k v) × ((i : ℕ) → a ≤ i → i < j → halts (M.slots m i) ≡ false) × (x ≡ suc j) × (a + e ≡ x) × (e ≤ b)
  step_pair k v x e q = go (strode_from (pair k v x e) q)
    where
      go : Strode (M.size m) (M.slots m) a b (pair k v x e) → (j : ℕ) × (a ≤ j) × (j < M.size m) × (M.slots m j ≡ live k v) × ((i : ℕ) → a ≤ i → i < j → halts (M.slots m i) ≡ false) × (x ≡ suc j) × (a + e ≡ x) × (e ≤ b)
      go (strode_pair j k' v' l h u t c d) =
          let y : x ≡ suc j = cc in
          let z : e ≡ suc j - a = cc in
          (j, l, h, t ∙ ap (λ z. live z v') (cc) ∙ ap (λ z. live k z) (cc), c, y, omega arith, omega arith)
      go (strode_nothing j l h u c d) = clash cc
      go (strode_done h d) = clash cc

  -- nothing: no live slot among b slots, or up to S; all of them are passed and counted
  pub step_nothing : (x e : ℕ) → stepping M m a b ≡ ok (nothing x e) → (x ≡ min (a + b) (M.size m)) × (a < x) × (a + e ≡ x) × ((i : ℕ) → a ≤ i → i < x → halts (M.slots m i) ≡ false)
  step_nothing x e q = go (strode_from (nothing x e) q)
    where
      go : Strode (M.size m) (M.slots m) a b (nothing x e) → (x ≡ min (a + b) (M.size m)) × (a < x) × (a + e ≡ x) × ((i : ℕ) → a ≤ i → i < x → halts (M.slots m i) ≡ false)
      go (strode_pair j k' v' l h u t c d) = clash cc
      go (strode_nothing j l h u c d) =
          let y : x ≡ j = cc in
          let z : e ≡ j - a = cc in
          (omega arith, omega arith, omega arith, λ i n o. c i n (omega arith))
      go (strode_done h d) = clash cc

  -- done: the walk stands at S, and stays there
  pub step_done : (x : ℕ) → stepping M m a b ≡ ok (done x) → (a ≡ M.size m) × (x ≡ a)
  step_done x q = go (strode_from (done x) q)
    where
      go : Strode (M.size m) (M.slots m) a b (done x) → (a ≡ M.size m) × (x ≡ a)
      go (strode_pair j k' v' l h u t c d) = clash cc
      go (strode_nothing j l h u c d) = clash cc
      go (strode_done h d) = (h, cc)
