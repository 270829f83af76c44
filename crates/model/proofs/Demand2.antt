-- What is known of a table's map after any call is so: the memory that the call leaves shows that map.
use Prim.Native.Nat.{ℕ}
use mathlib.Core.Bool.{true, cond}
use mathlib.Core.List.{List}
use mathlib.Core.Path.{◌≡◌, refl, subst}
use mathlib.Core.Option.{Option, none, some}
use Rattle.model.specs.Slots.{pairs}
use Rattle.model.specs.Finite.{Finite, is_some, empty, union_prefer_right, insert_all}
use Rattle.model.specs.Store.{Store}
use Rattle.model.specs.Calls.{Or, no, ok, acted, capacity, after_make, copy, after_copy, store_all, union, after_union}
use Rattle.model.specs.Machine.{Own, Call, own, copies, unions, steps, fine, stepped, report, World, tells, leaves, stepping, answer, left}
use Rattle.model.specs.Demand2.{refuses, grows, renews, mapped, joined, next}
use Rattle.model.specs.Lawful.{Lawful, Shows}
use Rattle.model.proofs.Cases.{by_bool, clash}
use Rattle.model.proofs.Accepted.{need_ok}
use Rattle.model.proofs.Shows.{shows_wipe}
use Rattle.model.proofs.Keeps.{by_renews, own_shows}
use Rattle.model.proofs.Union.{union_map, union_shows}

module _ {K W : Type 0} (M : Store K W) (L : Lawful M) where
  acted_left : {A : Type 0} (m : M.State) (a : Or A) (n : M.State) (o p : Option (Finite K W)) (f : Finite K W) → ((g : Finite K W) → o ≡ some g → Shows M m g) → ((u : A) → a ≡ ok u → p ≡ some f → Shows M n f) → cond (refuses (report {K = K} {W = W} (λ u. fine) a)) o p ≡ some f → Shows M (acted M m a n) f
  unfolding acted report refuses
  acted_left m (no r) n o p f h t q = h f q
  acted_left m (ok u) n o p f h t q = t u refl q

  joined_shows : (l r : M.State) (o p : Option (Finite K W)) → ((g : Finite K W) → o ≡ some g → Shows M l g) → ((g : Finite K W) → p ≡ some g → Shows M r g) → (f : Finite K W) (u : Unit {0}) → union M l r ≡ ok u → joined M o p (pairs (M.slots r) (M.size r)) ≡ some f → Shows M (store_all M l (pairs (M.slots r) (M.size r))) f
  unfolding joined after_union acted
  joined_shows l r none p h t f u a q = clash cc
  joined_shows l r (some x) none h t f u a q =
      let d : insert_all M.keys x (pairs (M.slots r) (M.size r)) ≡ f = cc in
      subst (λ g. Shows M (store_all M l (pairs (M.slots r) (M.size r))) g) d (union_shows M L l r x (h x refl) u a)
  joined_shows l r (some x) (some y) h t f u a q =
      let d : union_prefer_right x y ≡ f = cc in
      subst (λ g. Shows M (store_all M l (pairs (M.slots r) (M.size r))) g) d (rw a at (union_map M L l r x (h x refl) y (t y refl) u a))

  -- a call that does not make the table anew: its map, where it was known
  other_left : (m : M.State) (o : Option (Finite K W)) → ((g : Finite K W) → o ≡ some g → Shows M m g) → (c : Own K W) (f : Finite K W) → cond (refuses (tells M m c)) o (mapped M (grows M c) o) ≡ some f → Shows M (leaves M m c) f
  unfolding mapped
  other_left m none h c f q = by_bool (refuses (tells M m c))
      (λ p. let r : none ≡ some f = rw p at q in clash cc)
      (λ p. let r : none ≡ some f = rw p at q in clash cc)
  other_left m (some g) h c f q = by_bool (refuses (tells M m c))
      (λ p. let r : some g ≡ some f = rw p at q in let d : g ≡ f = cc in subst (λ g. Shows M (leaves M m c) g) d (rw p at (own_shows M L m g (h g refl) c)))
      (λ p. let r : some (grows M c g) ≡ some f = rw p at q in let d : grows M c g ≡ f = cc in subst (λ g. Shows M (leaves M m c) g) d (rw p at (own_shows M L m g (h g refl) c)))

  made_left : (m : M.State) (o : Option (Finite K W)) → ((g : Finite K W) → o ≡ some g → Shows M m g) → (f : Finite K W) → cond (refuses (report {K = K} {W = W} (λ u. fine) (capacity M m))) o (some empty) ≡ some f → Shows M (after_make M m) f
  unfolding after_make capacity
  made_left m o h f q = acted_left m (capacity M m) (M.wipe m) o (some empty) f h
      (λ u t r. let d : empty ≡ f = cc in subst (λ g. Shows M (M.wipe m) g) d (shows_wipe M L m (need_ok (M.sized m) 1 (ok (M.size m)) u t).0)) q

  own_left : (m : M.State) (o : Option (Finite K W)) → ((g : Finite K W) → o ≡ some g → Shows M m g) → (c : Own K W) (f : Finite K W) → cond (refuses (tells M m c)) o (cond (renews M c) (some empty) (mapped M (grows M c) o)) ≡ some f → Shows M (leaves M m c) f
  own_left m o h c f q = by_renews M m c
      (λ e. other_left m o h c f (rw e at q))
      (λ e l t. rw l (made_left m o h f (rw (e, t) at q)))

  -- what is known of a table after a call is so
  pub left_shows : (w : World M) (e : ℕ → Option (Finite K W)) → ((y : ℕ) (f : Finite K W) → e y ≡ some f → Shows M (w y) f) → (x : ℕ) (c : Call K W) (f : Finite K W) → cond (refuses (answer M w x c)) (e x) (next M w e x c) ≡ some f → Shows M (left M w x c) f
  unfolding answer left next after_copy after_union
  left_shows w e known x (own c) f q = own_left (w x) (e x) (known x) c f q
  left_shows w e known x (copies y) f q = acted_left (w x) (copy M (w x) (w y)) (w y) (e x) (e y) f (known x) (λ u t r. known y f r) q
  left_shows w e known x (unions y) f q = acted_left (w x) (union M (w x) (w y)) _ (e x) (joined M (e x) (e y) (pairs (M.slots (w y)) (M.size (w y)))) f (known x) (λ u t r. joined_shows (w x) (w y) (e x) (e y) (known x) (known y) f u t r) q
  left_shows w e known x (steps a b) f q = known x f (by_bool (refuses (report {K = K} stepped (stepping M (w x) a b))) (λ p. rw p at q) (λ p. rw p at q))

-- a known table stays known after every accepted call, but a copy onto it from a table that is not
module _ {K W : Type 0} (M : Store K W) (w : World M) (e : ℕ → Option (Finite K W)) (x : ℕ) (k : is_some (e x) ≡ true) where
  mapped_known : (u : Finite K W → Finite K W) (o : Option (Finite K W)) → is_some o ≡ true → is_some (mapped M u o) ≡ true
  unfolding mapped is_some
  mapped_known u none q = clash cc
  mapped_known u (some f) q = refl

  joined_known : (o p : Option (Finite K W)) (ps : List (K × W)) → is_some o ≡ true → is_some (joined M o p ps) ≡ true
  unfolding joined is_some
  joined_known none p ps q = clash cc
  joined_known (some f) none ps q = refl
  joined_known (some f) (some g) ps q = refl

  pub next_known : (c : Call K W) → ((y : ℕ) → c ≡ copies y → is_some (e y) ≡ true) → is_some (next M w e x c) ≡ true
  unfolding next is_some
  next_known (own o) g = by_bool (renews M o) (λ u. rw u) (λ u. rw u (mapped_known (grows M o) (e x) k))
  next_known (copies y) g = g y refl
  next_known (unions y) g = joined_known (e x) (e y) (pairs (M.slots (w y)) (M.size (w y))) k
  next_known (steps a b) g = k
