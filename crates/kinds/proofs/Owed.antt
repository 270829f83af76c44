-- A table whose map is known: what the calls of the theory say, told by any numbers, is what they owe; and the runs of published calls.
-- Each law takes a function that tells a call's answer, with what it tells of a refusal and of each case; a kind gives these by `refl`.
-- What the theory answers on a table that shows a map is exact (model/proofs/Exact.antt), so telling it is what is owed.
use Prim.Native.Nat.{ℕ, zero, suc, ◌-◌, ◌<◌}
use mathlib.Core.Bool.{true, false, cond, not, ◌&&◌}
use mathlib.Core.Option.{Option, none, some}
use mathlib.Core.Path.{◌≡◌, refl, sym, ◌∙◌, ap}
use native.Mathlib.Omega.{arith}
use borrow.Author.Tests.{lt-leb}
use lib.Dec.{leb, eqb}
use Rattle.model.specs.Slots.{live, total}
use Rattle.model.specs.Finite.{Finite, contains, is_some, mass, len, insert as insert-in, remove as remove-from, union_prefer_right}
use Rattle.model.specs.Store.{Store, path, path_length, slot_at}
use Rattle.model.specs.Calls.{Or, no, ok, need, pass, give, Seen, found, absent, Spot, occupied, vacant, seen_by, spot_by, get, entry, remove, capacity, length, reserve, copy, union, held_at, occupied_get, occupied_remove, good_for, vacancy, vacant_insert, any_damage}
use Rattle.model.specs.Walk.{StepAnswer, pair, nothing, done, step}
use Rattle.model.specs.Machine.{stepping}
use Rattle.model.specs.Demand2.{grown, holds_now}
use Rattle.model.specs.Lawful.{Lawful, Shows}
use Rattle.model.proofs.Cases.{by_bool, by_lt, by_eq, clash}
use Rattle.model.proofs.Path.{hit_examined, miss_examined}
use Rattle.model.proofs.Shows.{shows_unharmed, home_below, PathOf, here, gone as lost, path_of_law}
use Rattle.model.proofs.Sound.{sound_look}
use Rattle.model.proofs.Union.{union_any, union_known}
use Rattle.model.proofs.Accepted.{need_ok, pass_ok, seen_found, seen_absent, spot_occupied, spot_vacant, entry_spot, remove_seen}
use Rattle.model.proofs.Walk.{Strode, strode_pair, strode_nothing, strode_done, strode}
use Rattle.model.proofs.Demand3.{not_between, step_going}
use Rattle.model.specs.Demand3.{unrefused}
use Rattle.model.proofs.Exact.{seen_for, spot_for, held_for, seen_is, spot_is, grip_is, length_is, reserve_is}
use Rattle.model.proofs.Numbered.{Numbered, numbered_no, numbered_ok, get_numbered, remove_numbered, entry_numbered}
use Rattle.answers.specs.Cases.{NOTHING, WALK-DONE}
use Rattle.answers.specs.declared.Numbers.{Numbers}
use Rattle.kinds.specs.Owed.{refusing, moving, unless, by_map, last_slot, open_slot, admitting, copying, looking, placing, reserving, holding, vacates, opening, lacked, joining, OwesStep, no_budget, beyond, ended, hands, passes}

-- what is said of a refusal: its number, and zeros elsewhere
abbrev pub Plainly : {A : Type 0} → (Or A → Numbers) → Type 0
Plainly said = (n : ℕ) → said (no n) ≡ refusing n 0

passed : {A : Type 0} (said : Or A → Numbers) → Plainly said → (n : ℕ) (a : Or A) (r : Numbers) → said a ≡ r → said (pass n a) ≡ unless n r
unfolding pass unless
passed said z zero a r e = e
passed said z (suc n) a r e = z (suc n)

module _ {K W : Type 0} (M : Store K W) (L : Lawful M) (m : M.State) (f : Finite K W) (s : Shows M m f) where
  calm : M.damaged_fully m ≡ false
  calm = shows_unharmed M L m f s

  seen_told : (said : Or (Seen W) → Numbers) (present : W → ℕ → ℕ → Numbers) (gone : ℕ → Numbers) → ((v : W) (i e : ℕ) → said (ok (found v i e)) ≡ present v i e) → ((e : ℕ) → said (ok (absent e)) ≡ gone e) → (k : K) → said (seen_by M m k (path M m k)) ≡ by_map (f.look k) (λ v. present v (last_slot M m k) (path_length M m k)) (gone (path_length M m k))
  unfolding seen_for by_map last_slot
  seen_told said present gone p q k = rw (seen_is M L m f s k) (go (f.look k))
    where
      go : (o : Option W) → said (ok (seen_for M m k o)) ≡ by_map o (λ v. present v (last_slot M m k) (path_length M m k)) (gone (path_length M m k))
      go none = q (path_length M m k)
      go (some v) = p v (slot_at M m k (path_length M m k - 1)) (path_length M m k)

  -- get and contains
  pub get_owed : (said : Or (Seen W) → Numbers) (present : W → ℕ → ℕ → Numbers) (gone : ℕ → Numbers) → Plainly said → ((v : W) (i e : ℕ) → said (ok (found v i e)) ≡ present v i e) → ((e : ℕ) → said (ok (absent e)) ≡ gone e) → (k : K) → said (get M m k) ≡ looking M m f k present gone
  unfolding get looking need
  get_owed said present gone z p q k = rw s.sound_table.sized (passed said z (M.asked k) (seen_by M m k (path M m k)) _ (seen_told said present gone p q k))

  -- remove
  pub remove_owed : (said : Or (Seen W) → Numbers) (present : W → ℕ → ℕ → Numbers) (gone : ℕ → Numbers) → Plainly said → ((v : W) (i e : ℕ) → said (ok (found v i e)) ≡ present v i e) → ((e : ℕ) → said (ok (absent e)) ≡ gone e) → (k : K) → said (remove M m k) ≡ looking M m f k present gone
  unfolding remove looking need
  remove_owed said present gone z p q k = rw (s.sound_table.sized, calm) (passed said z (M.asked k) (seen_by M m k (path M m k)) _ (seen_told said present gone p q k))

  -- insert and entry
  pub entry_owed : (said : Or (Spot W) → Numbers) (present : W → ℕ → ℕ → Numbers) (fresh : ℕ → ℕ → Numbers) → Plainly said → ((v : W) (i e : ℕ) → said (ok (occupied i v e)) ≡ present v i e) → ((i e : ℕ) → said (ok (vacant i e)) ≡ fresh i e) → (k : K) → said (entry M m k) ≡ placing M m f k present fresh
  unfolding entry placing need admitting spot_for by_map last_slot open_slot
  entry_owed said present fresh z p q k = rw (s.sound_table.sized, calm) (passed said z (M.kept k) (spot_by M m k (path M m k)) _ (rw (spot_is M L m f s k)
      (by_bool (leb (mass (λ a. 1) (grown M f k)) (M.size m))
      (λ a. by_bool (leb (mass M.weight (grown M f k)) (M.bytes m)) (λ b. rw (a, b) (go (f.look k))) (λ b. rw (a, b) (z 8)))
      (λ a. rw a (z 7)))))
    where
      go : (o : Option W) → said (ok (spot_for M m k o)) ≡ by_map o (λ v. present v (last_slot M m k) (path_length M m k)) (fresh (open_slot M m k) (path_length M m k))
      go none = q (open_slot M m k) (path_length M m k)
      go (some v) = p v (last_slot M m k) (path_length M m k)

  grip_told : (said : Or W → Numbers) (held : W → Numbers) → Plainly said → ((v : W) → said (ok v) ≡ held v) → (i : ℕ) (k : K) → said (held_at M m i k) ≡ cond (holds_now M m i k) (by_map (f.look k) held (refusing 6 0)) (refusing 6 0)
  unfolding held_for by_map
  grip_told said held z p i k = rw (grip_is M L m f s i k) (by_bool (holds_now M m i k) (λ e. rw e (go (f.look k))) (λ e. rw e (z 6)))
    where
      go : (o : Option W) → said (held_for o) ≡ by_map o held (refusing 6 0)
      go none = z 6
      go (some v) = p v

  -- an occupied handle's get and set
  pub held_owed : (said : Or W → Numbers) (held : W → Numbers) → Plainly said → ((v : W) → said (ok v) ≡ held v) → (i : ℕ) (k : K) → said (occupied_get M m i k) ≡ holding M m f i k held
  unfolding occupied_get holding need
  held_owed said held z p i k = rw s.sound_table.sized (passed said z (M.asked k) (held_at M m i k) _ (grip_told said held z p i k))

  -- its remove
  pub taken_owed : (said : Or W → Numbers) (held : W → Numbers) → Plainly said → ((v : W) → said (ok v) ≡ held v) → (i : ℕ) (k : K) → said (occupied_remove M m i k) ≡ holding M m f i k held
  unfolding occupied_remove holding need
  taken_owed said held z p i k = rw (s.sound_table.sized, calm) (passed said z (M.asked k) (held_at M m i k) _ (grip_told said held z p i k))

  -- a vacant handle
  good_told : (said : Or (Unit {0}) → Numbers) (n : Numbers) → Plainly said → said (ok tt) ≡ n → (i : ℕ) (k : K) → said (good_for M i (spot_by M m k (path M m k))) ≡ cond (vacates M m f i k) n (refusing 6 0)
  unfolding good_for vacates open_slot need contains is_some spot_for
  good_told said n z p i k = rw (spot_is M L m f s k)
      (by_bool (leb (mass (λ a. 1) (grown M f k)) (M.size m))
      (λ a. by_bool (leb (mass M.weight (grown M f k)) (M.bytes m)) (λ b. rw (a, b) (go (f.look k))) (λ b. rw (a, b) (full (f.look k))))
      (λ a. rw a (full (f.look k))))
    where
      full : (o : Option W) → said (no 6) ≡ cond (not (is_some o) && false) n (refusing 6 0)
      full none = z 6
      full (some v) = z 6

      go : (o : Option W) → said (good_for M i (ok (spot_for M m k o))) ≡ cond (not (is_some o) && eqb i (open_slot M m k)) n (refusing 6 0)
      go none = by_bool (eqb i (open_slot M m k)) (λ e. rw e p) (λ e. rw e (z 6))
      go (some v) = z 6

  pub filled_owed : (said : Or W → Numbers) (v : W) (n : Numbers) → Plainly said → said (ok v) ≡ n → (i : ℕ) (k : K) → said (vacant_insert M m i k v) ≡ opening M m f i k n
  unfolding vacant_insert vacancy opening need give
  filled_owed said v n z p i k = rw (s.sound_table.sized, calm) (passed (λ o. said (give v o)) (λ r. z r) (M.kept k) (good_for M i (spot_by M m k (path M m k))) _ (good_told (λ o. said (give v o)) n (λ r. z r) p i k))

  -- length, reserve, copy, union
  pub length_owed : (said : Or ℕ → Numbers) (n : Numbers) → said (ok (len f)) ≡ n → said (length M m) ≡ n
  length_owed said n p = ap said (length_is M L m f s) ∙ p

  pub capacity_owed : (said : Or ℕ → Numbers) (n : Numbers) → said (ok (M.size m)) ≡ n → said (capacity M m) ≡ n
  unfolding capacity need
  capacity_owed said n p = rw s.sound_table.sized p

  pub reserve_owed : (said : Or (Unit {0}) → Numbers) (n : Numbers) → Plainly said → said (ok tt) ≡ n → (a b : ℕ) → said (reserve M m a b) ≡ reserving M m f a b n
  unfolding reserving need
  reserve_owed said n z p a b = rw (reserve_is M L m f s a b) (by_bool (leb a (M.size m - len f))
      (λ e. by_bool (leb b (M.bytes m - mass M.weight f.dom)) (λ d. rw (e, d) p) (λ d. rw (e, d) (z 8)))
      (λ e. rw e (z 7)))

  pub copy_owed : (said : Or (Unit {0}) → Numbers) (n : Numbers) → Plainly said → said (ok tt) ≡ n → (o : M.State) → said (copy M m o) ≡ copying M m o n
  unfolding copy copying need
  copy_owed said n z p o = rw s.sound_table.sized (by_bool (M.sized o)
      (λ a. rw a (by_bool (eqb (M.size m) (M.size o)) (λ b. rw b (by_bool (eqb (M.bytes m) (M.bytes o)) (λ c. rw c p) (λ c. rw c (z 1)))) (λ b. rw b (z 1))))
      (λ a. rw a (z 1)))

  -- a union with any right, and with one whose map is known
  pub union_owed : (said : Or (Unit {0}) → Numbers) (n : Numbers) → Plainly said → said (ok tt) ≡ n → (r : M.State) → said (union M m r) ≡ joining M m f r n
  unfolding joining lacked need
  union_owed said n z p r = rw (union_any M L m r f s) (by_bool (M.sized r)
      (λ a. rw a (by_bool (any_damage M r) (λ b. rw b (z 5))
      (λ b. rw b (passed said z (M.carried r) _ _ (by_bool (leb (total (λ k. cond (contains f k) 0 1) (M.slots r) (M.size r)) (M.size m - mass (λ k. 1) f.dom))
      (λ c. rw c (by_bool (leb (total (λ k. cond (contains f k) 0 (M.weight k)) (M.slots r) (M.size r)) (M.bytes m - mass M.weight f.dom)) (λ d. rw d p) (λ d. rw d (z 8))))
      (λ c. rw c (z 7)))))))
      (λ a. rw a (z 1)))

  pub union_known_owed : (said : Or (Unit {0}) → Numbers) (n : Numbers) → Plainly said → said (ok tt) ≡ n → (r : M.State) (g : Finite K W) → Shows M r g → said (union M m r) ≡ unless (M.carried r) (admitting M m (union_prefer_right f g).dom n)
  unfolding admitting need
  union_known_owed said n z p r g t = rw (union_known M L m r f s g t)
      (passed said z (M.carried r) _ _ (by_bool (leb (mass (λ a. 1) (union_prefer_right f g).dom) (M.size m))
      (λ a. rw a (by_bool (leb (mass M.weight (union_prefer_right f g).dom) (M.bytes m)) (λ b. rw b p) (λ b. rw b (z 8))))
      (λ a. rw a (z 7))))

module _ {K W : Type 0} (M : Store K W) (L : Lawful M) (m : M.State) (f : Finite K W) (s : Shows M m f) where
  -- a step
  pub step_owed : (said : Or (StepAnswer K W) → Numbers) (a b : ℕ) (hand : K → W → ℕ → ℕ → ℕ → Numbers) → ((n : ℕ) → said (no n) ≡ refusing n a) → ((j : ℕ) (k : K) (v : W) (e : ℕ) → M.slots m j ≡ live k v → said (ok (pair k v (suc j) e)) ≡ hand k v j (suc j) e) → ((x e : ℕ) → said (ok (nothing x e)) ≡ moving NOTHING x e) → ((x : ℕ) → said (ok (done x)) ≡ moving WALK-DONE x 0) → OwesStep M m f hand a b (said (stepping M m a b))
  unfolding stepping need step unrefused
  step_owed said a b hand z p q r = rw s.sound_table.sized (by_eq b 0
      (λ e t. no_budget e (rw (step_three t) (z 3)))
      (λ e t. by_lt (M.size m) a
      (λ l u. beyond (omega arith) l (rw (step_four t l) (z 4)))
      (λ l u. go (omega arith) (step (M.size m) (M.slots m) 0 a b) refl (step_going (M.size m) (M.slots m) a b s.sound_table.sound.whole (omega arith) l))))
    where
      step_three : eqb b 0 ≡ true → step (M.size m) (M.slots m) 0 a b ≡ no 3
      step_three t = rw t

      step_four : eqb b 0 ≡ false → M.size m < a → step (M.size m) (M.slots m) 0 a b ≡ no 4
      step_four t l = rw (t, lt-leb a (M.size m) l)

      strided : (0 < b) → (y : StepAnswer K W) → Strode (M.size m) (M.slots m) a b y → OwesStep M m f hand a b (said (ok y))
      strided d y (strode_pair j k v lo hi u t c e) = hands j k v lo hi (omega arith) t
          (sym (s.looks k) ∙ sound_look M.keys (M.size m) (M.home m) (home_below M L m s.sound_table) (M.slots m) s.sound_table.sound k j v hi t)
          (λ i o w x y g. not_between (M.slots m) i o w g (c i x y)) (rw e (p j k v (suc j - a) t))
      strided d y (strode_nothing x lo hi u c e) = passes x lo u (λ i o w g h k. not_between (M.slots m) i o w k (c i g h)) (rw e (q x (x - a)))
      strided d y (strode_done h e) = ended d h (rw (e, sym h) (r a))

      go : (0 < b) → (o : Or (StepAnswer K W)) → step (M.size m) (M.slots m) 0 a b ≡ o → unrefused o ≡ 1 → OwesStep M m f hand a b (said o)
      go d (no n) e x = absurd (omega arith)
      go d (ok y) e x = strided d y (strode (M.size m) (M.slots m) a 0 b y e)

-- what a lookup owes of a key that was just inserted, or just removed
module _ {K W : Type 0} (M : Store K W) (m : M.State) (f : Finite K W) (k : K) (present : W → ℕ → ℕ → Numbers) (gone : ℕ → Numbers) where
  pub looked_inserted : (v : W) → M.asked k ≡ 0 → looking M m (insert-in M.keys f k v) k present gone ≡ present v (last_slot M m k) (path_length M m k)
  unfolding looking unless by_map insert-in
  looked_inserted v a = rw (a, M.keys.self k)

  pub looked_removed : M.asked k ≡ 0 → looking M m (remove-from M.keys f k) k present gone ≡ gone (path_length M m k)
  unfolding looking unless by_map remove-from
  looked_removed a = rw (a, M.keys.self k)

-- on any memory: an accepted lookup tells its path's own examined number
module _ {K W : Type 0} (M : Store K W) (m : M.State) (k : K) where
  seen_counted : (said : Or (Seen W) → Numbers) → ((v : W) (i e : ℕ) → (said (ok (found v i e))).examined ≡ e) → ((e : ℕ) → (said (ok (absent e))).examined ≡ e) → (y : Seen W) → seen_by M m k (path M m k) ≡ ok y → (said (ok y)).examined ≡ path_length M m k
  unfolding path path_length
  seen_counted said p q (found v i e) t =
      let (n, h, c, d) = seen_found M m k v i e t in
      p v i e ∙ d ∙ sym (hit_examined M.keys (M.size m) (M.home m k) (M.slots m) k n v h)
  seen_counted said p q (absent e) t =
      let (n, h) = seen_absent M m k e t in
      q e ∙ sym (miss_examined M.keys (M.size m) (M.home m k) (M.slots m) k e n h)

  spot_counted : (said : Or (Spot W) → Numbers) → ((v : W) (i e : ℕ) → (said (ok (occupied i v e))).examined ≡ e) → ((i e : ℕ) → (said (ok (vacant i e))).examined ≡ e) → (y : Spot W) → spot_by M m k (path M m k) ≡ ok y → (said (ok y)).examined ≡ path_length M m k
  unfolding path path_length
  spot_counted said p q (occupied i v e) t =
      let (n, h, c, d) = spot_occupied M m k v i e t in
      p v i e ∙ d ∙ sym (hit_examined M.keys (M.size m) (M.home m k) (M.slots m) k n v h)
  spot_counted said p q (vacant i e) t =
      let (n, h, c, d, u) = spot_vacant M m k i e t in
      q i e ∙ sym (miss_examined M.keys (M.size m) (M.home m k) (M.slots m) k e n h)

  -- what tells the number 0 was accepted
  accepted : {A : Type 0} (said : Or A → Numbers) → ((n : ℕ) → (said (no n)).refusal ≡ n) → (a : Or A) → Numbered a → (said a).refusal ≡ 0 → (y : A) × (a ≡ ok y)
  accepted said z a (numbered_no n) e = absurd (omega (arith, z (suc n)))
  accepted said z a (numbered_ok y) e = (y, refl)

  pub get_counted : (said : Or (Seen W) → Numbers) → ((n : ℕ) → (said (no n)).refusal ≡ n) → ((v : W) (i e : ℕ) → (said (ok (found v i e))).examined ≡ e) → ((e : ℕ) → (said (ok (absent e))).examined ≡ e) → (said (get M m k)).refusal ≡ 0 → (said (get M m k)).examined ≡ path_length M m k
  unfolding get
  get_counted said z p q e = let (y, t) = accepted said z (get M m k) (get_numbered M m k) e in
      rw t (seen_counted said p q y (pass_ok (M.asked k) (seen_by M m k (path M m k)) y (need_ok (M.sized m) 1 (pass (M.asked k) (seen_by M m k (path M m k))) y t).1).1)

  pub remove_counted : (said : Or (Seen W) → Numbers) → ((n : ℕ) → (said (no n)).refusal ≡ n) → ((v : W) (i e : ℕ) → (said (ok (found v i e))).examined ≡ e) → ((e : ℕ) → (said (ok (absent e))).examined ≡ e) → (said (remove M m k)).refusal ≡ 0 → (said (remove M m k)).examined ≡ path_length M m k
  remove_counted said z p q e = let (y, t) = accepted said z (remove M m k) (remove_numbered M m k) e in
      rw t (seen_counted said p q y (remove_seen M m k y t))

  pub entry_counted : (said : Or (Spot W) → Numbers) → ((n : ℕ) → (said (no n)).refusal ≡ n) → ((v : W) (i e : ℕ) → (said (ok (occupied i v e))).examined ≡ e) → ((i e : ℕ) → (said (ok (vacant i e))).examined ≡ e) → (said (entry M m k)).refusal ≡ 0 → (said (entry M m k)).examined ≡ path_length M m k
  entry_counted said z p q e = let (y, t) = accepted said z (entry M m k) (entry_numbered M m k) e in
      rw t (spot_counted said p q y (entry_spot M m k y t))

-- on any memory: a refused call tells its number, zeros elsewhere, and the walk as it came
pub zeros : {A : Type 0} (said : Or A → Numbers) (a : ℕ) → ((n : ℕ) → said (no n) ≡ refusing n a) → ((y : A) → (said (ok y)).refusal ≡ 0) → (o : Or A) → ((said o).refusal ≡ 0 → ⊥) → said o ≡ refusing (said o).refusal a
zeros said a z y (no n) h = z n ∙ ap (λ r. refusing r a) (sym (ap (λ q. q.refusal) (z n)))
zeros said a z y (ok u) h = absurd (h (y u))

module _ {K W : Type 0} (M : Store K W) (L : Lawful M) (m : M.State) (f : Finite K W) (s : Shows M m f) where
  -- a key of the map stands live in the last slot of its path
  pub last_live : (k : K) (v : W) → f.look k ≡ some v → (last_slot M m k < M.size m) × (M.slots m (last_slot M m k) ≡ live k v)
  unfolding last_slot path_length path
  last_live k v e = go (path_of_law M L m f s k)
    where
      go : PathOf M L m f s k → (slot_at M m k (path_length M m k - 1) < M.size m) × (M.slots m (slot_at M m k (path_length M m k - 1)) ≡ live k v)
      go (here n u p d l q) =
          let z : suc n - 1 ≡ n = omega arith in
          let y : path_length M m k ≡ suc n = hit_examined M.keys (M.size m) (M.home m k) (M.slots m) k n u p in
          let c : u ≡ v = cc in
          rw (y, z) (l, q ∙ ap (λ w. live k w) c)
      go (lost p d) = clash cc

-- what a step owes is decided: two answers that owe it coincide
module _ {K W : Type 0} (M : Store K W) (m : M.State) (f : Finite K W) (hand : K → W → ℕ → ℕ → ℕ → Numbers) (a b : ℕ) (n o : Numbers) where
  pub paces_once : OwesStep M m f hand a b n → OwesStep M m f hand a b o → n ≡ o
  paces_once (no_budget p q) (no_budget r t) = q ∙ sym t
  paces_once (no_budget p q) (beyond r t u) = absurd (omega arith)
  paces_once (no_budget p q) (ended r t u) = absurd (omega arith)
  paces_once (no_budget p q) (hands j k v c d e g h i u) = absurd (omega arith)
  paces_once (no_budget p q) (passes x c d e u) = absurd (omega arith)
  paces_once (beyond p l q) (no_budget r t) = absurd (omega arith)
  paces_once (beyond p l q) (beyond r t u) = q ∙ sym u
  paces_once (beyond p l q) (ended r t u) = absurd (omega arith)
  paces_once (beyond p l q) (hands j k v c d e g h i u) = absurd (omega arith)
  paces_once (beyond p l q) (passes x c d e u) = absurd (omega arith)
  paces_once (ended p l q) (no_budget r t) = absurd (omega arith)
  paces_once (ended p l q) (beyond r t u) = absurd (omega arith)
  paces_once (ended p l q) (ended r t u) = q ∙ sym u
  paces_once (ended p l q) (hands j k v c d e g h i u) = absurd (omega arith)
  paces_once (ended p l q) (passes x c d e u) = absurd (omega arith)
  paces_once (hands j k v c d e g h i u) (no_budget r t) = absurd (omega arith)
  paces_once (hands j k v c d e g h i u) (beyond r t w) = absurd (omega arith)
  paces_once (hands j k v c d e g h i u) (ended r t w) = absurd (omega arith)
  paces_once (hands j k v c d e g h i u) (hands j' k' v' c' d' e' g' h' i' u') = by_lt j j'
      (λ l x. absurd (i' j k v c l g))
      (λ l x. by_lt j' j (λ l' x'. absurd (i j' k' v' c' l' g'))
      (λ l' x'. let z : j ≡ j' = omega arith in let y : live k v ≡ live k' v' = sym g ∙ ap (λ y. M.slots m y) z ∙ g' in let p : k ≡ k' = cc in let q : v ≡ v' = cc in u ∙ rw (z, p, q) (sym u')))
  paces_once (hands j k v c d e g h i u) (passes x p q r t) = absurd (r j k v c (omega arith) g)
  paces_once (passes x p q r t) (no_budget c d) = absurd (omega arith)
  paces_once (passes x p q r t) (beyond c d e) = absurd (omega arith)
  paces_once (passes x p q r t) (ended c d e) = absurd (omega arith)
  paces_once (passes x p q r t) (hands j k v c d e g h i u) = absurd (r j k v c (omega arith) g)
  paces_once (passes x p q r t) (passes x' p' q' r' t') = let z : x ≡ x' = q ∙ sym q' in t ∙ rw z (sym t')
