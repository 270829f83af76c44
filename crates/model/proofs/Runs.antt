-- Lists of accepted calls, for demands 2 and 3: what is known after them is so, and a key that they do not remove on their way stays in its slot. And what a list of puts does.
use Prim.Native.Nat.{ℕ, ◌<◌}
use mathlib.Core.Bool.{Bool, true, false, cond, ◌&&◌}
use mathlib.Core.List.{List, [], ◌∷◌}
use mathlib.Core.Option.{Option, none, some}
use mathlib.Core.Path.{◌≡◌, refl, sym, ◌∙◌, ap, subst, fun_ext}
use borrow.Author.Tests.{eq-eqb}
use lib.Dec.{eqb}
use Rattle.model.specs.Slots.{live}
use Rattle.model.specs.Finite.{Finite, is_some, insert, insert_all}
use Rattle.model.specs.Store.{Store, path}
use Rattle.model.specs.Calls.{ok, put_spot, rule, store_all}
use Rattle.model.specs.Machine.{puts, Call, own, copies, report, World, placed, tells, leaves, answer, left, turned}
use Rattle.model.specs.Demand2.{refuses, renews, grows, mapped, next, becomes, Book, booked}
use Rattle.model.specs.Demand3.{look_in}
use Rattle.model.specs.Tables.{sweeps, Sure}
use Rattle.model.specs.Lawful.{Lawful, Steady, Shows}
use Rattle.model.specs.Running.{Roomy}
use Rattle.model.specs.Runs.{put_all, run, Accepted, booked_all, drops, CopiesKnown}
use Rattle.model.proofs.Cases.{by_bool, by_eq, neither, clash}
use Rattle.model.proofs.Finite.{some_is}
use Rattle.model.proofs.Demand2.{next_known}
use Rattle.model.proofs.Laws.{put_clear, put_by_rule}
use Rattle.model.proofs.Running.{one_more}
use Rattle.model.proofs.Tables.{booked_shows, booked_sure, booked_stands, sure_settled, turned_size}

-- where a key is found, the map is known
looked_known : {K W : Type 0} (o : Option (Finite K W)) (k : K) → is_some (look_in o k) ≡ true → is_some o ≡ true
unfolding look_in is_some
looked_known none k e = clash cc
looked_known (some f) k e = refl

-- the key was kept, and the rest keeps it
kept_on : (b c : Bool) → cond b c true ≡ false → (b ≡ true) × (c ≡ false)
kept_on true c e = (refl, e)
kept_on false c e = clash cc

module _ {A : Type 0} (w : ℕ → A) (x : ℕ) where
  pub placed_here : (m : A) → placed w x m x ≡ m
  unfolding placed
  placed_here m = rw (eq-eqb x x refl)

  pub placed_twice : (m n : A) → placed (placed w x m) x n ≡ placed w x n
  unfolding placed
  placed_twice m n = fun_ext (λ y. by_bool (eqb y x) (λ e. rw e) (λ e. rw e))

  pub placed_same : placed w x (w x) ≡ w
  unfolding placed
  placed_same = fun_ext (λ y. by_eq y x (λ r e. rw e (ap w (sym r))) (λ r e. rw e))

module _ {K W : Type 0} (M : Store K W) where
  -- the book has the tables after the list
  pub booked_world : (cs : List (ℕ × Call K W)) (s : Book M) → (booked_all M s cs).world ≡ run M s.world cs
  unfolding booked_all run
  booked_world [] s = refl
  booked_world (c ∷ cs) s = booked_world cs (booked M s c.0 c.1)

  -- a known table stays known after every call, but a copy onto it from a table that is not
  booked_known : (x : ℕ) (s : Book M) → is_some (s.maps x) ≡ true → (z : ℕ) (c : Call K W) → ((y : ℕ) → ◌≡◌ {A = ℕ × Call K W} (z, c) (x, copies y) → is_some (s.maps y) ≡ true) → is_some ((booked M s z c).maps x) ≡ true
  unfolding becomes placed
  booked_known x s k z c h = by_eq x z
      (λ e t. rw t (subst (λ y. is_some (next M s.world s.maps y c) ≡ true) e (next_known M s.world s.maps x k c (λ y q. h y (λ i. (sym e i, q i))))))
      (λ e t. rw t k)

  pub known_stays : (x : ℕ) (cs : List (ℕ × Call K W)) (s : Book M) → is_some (s.maps x) ≡ true → CopiesKnown M x s cs → is_some ((booked_all M s cs).maps x) ≡ true
  unfolding booked_all
  known_stays x [] s k h = k
  known_stays x (c ∷ cs) s k h = known_stays x cs (booked M s c.0 c.1) (booked_known x s k c.0 c.1 h.0) h.1

  module _ (L : Lawful M) where
    -- what is known of the tables stays right
    pub booked_all_shows : (cs : List (ℕ × Call K W)) (s : Book M) → ((y : ℕ) (f : Finite K W) → s.maps y ≡ some f → Shows M (s.world y) f) → Accepted M s.world cs → (y : ℕ) (f : Finite K W) → (booked_all M s cs).maps y ≡ some f → Shows M ((booked_all M s cs).world y) f
    unfolding booked_all
    booked_all_shows [] s h a = h
    booked_all_shows (c ∷ cs) s h a = booked_all_shows cs (booked M s c.0 c.1) (booked_shows M L s h c.0 c.1 a.0) a.1

    -- and so does the number of slots
    run_size : (cs : List (ℕ × Call K W)) (w : World M) (x : ℕ) → M.size (run M w cs x) ≡ M.size (w x)
    unfolding run
    run_size [] w x = refl
    run_size (c ∷ cs) w x = run_size cs (turned M w c.0 c.1) x ∙ turned_size M L w c.0 c.1 x

    -- a table that is known after the list is sound, of as many slots
    pub booked_all_sure : (cs : List (ℕ × Call K W)) (x S : ℕ) (s : Book M) → Sure M x S s → Accepted M s.world cs → is_some ((booked_all M s cs).maps x) ≡ true → Sure M x S (booked_all M s cs)
    booked_all_sure cs x S s f a k = record {
      shows = booked_all_shows cs s f.shows a;
      known = k;
      sized = ap (λ w. M.size (w x)) (booked_world cs s) ∙ run_size cs s.world x ∙ f.sized;
    }

    -- a key that the list does not remove on its way stays in its slot
    pub booked_all_stands : (cs : List (ℕ × Call K W)) (x S : ℕ) (s : Book M) → Sure M x S s → Accepted M s.world cs → (i : ℕ) (k : K) (v u : W) → drops M x s cs k ≡ false → i < S → M.slots (s.world x) i ≡ live k v → look_in ((booked_all M s cs).maps x) k ≡ some u → M.slots ((booked_all M s cs).world x) i ≡ live k u
    unfolding booked_all drops
    booked_all_stands [] x S s f a i k v u d l p q = sure_settled M L x S s f i k v u l p q
    booked_all_stands (c ∷ cs) x S s f a i k v u d l p q =
        let t = booked M s c.0 c.1 in
        let (e, r) = neither (eqb c.0 x && sweeps M c.1) _ d in
        let (y, z) = kept_on (is_some (look_in (t.maps x) k)) (drops M x t cs k) r in
        let n = looked_known (t.maps x) k y in
        let (o, j) = some_is M.keys (look_in (t.maps x) k) y in
        booked_all_stands cs x S t (booked_sure M L x S s f c.0 c.1 a.0 n) a.1 i k o u z l (booked_stands M L x S s f c.0 c.1 a.0 n e i k v o l p j) q

  -- one put of a list for which there is room is accepted, is the insert rule, and leaves room for the rest
  put_one : Steady M → (p : K × W) (ps : List (K × W)) (w : World M) (x : ℕ) → Roomy M (w x) (p ∷ ps) → (refuses (answer M w x (own (puts p.0 p.1))) ≡ false) × (left M w x (own (puts p.0 p.1)) ≡ rule M (w x) p.0 p.1) × Roomy M (rule M (w x) p.0 p.1) ps
  unfolding answer tells left leaves report refuses rule
  put_one T p ps w x r =
      let ((s, e), t) = one_more M T (w x) p.0 p.1 ps r (path M (w x) p.0) refl in
      let z : put_spot M (w x) p.0 ≡ ok s = put_clear M (w x) p.0 r.sized r.unharmed ∙ e in
      (rw z, put_by_rule M (w x) p.0 p.1 s z, t)

  -- A list of pairs for which there is room is put in whole: no put is refused, and together they are the insert rule for each pair.
  pub puts_run : Steady M → (ps : List (K × W)) (w : World M) (x : ℕ) → Roomy M (w x) ps → Accepted M w (put_all x ps) × (run M w (put_all x ps) ≡ placed w x (store_all M (w x) ps))
  unfolding put_all run store_all turned
  puts_run T [] w x r = (tt, sym (placed_same w x))
  puts_run T (p ∷ ps) w x r =
      let (a, g, t) = put_one T p ps w x r in
      let c : Call K W = own (puts p.0 p.1) in
      let h : turned M w x c x ≡ rule M (w x) p.0 p.1 = placed_here w x (left M w x c) ∙ g in
      let (b, e) = puts_run T ps (turned M w x c) x (subst (λ m. Roomy M m ps) (sym h) t) in
      ((a, b), e ∙ ap (λ m. placed (turned M w x c) x (store_all M m ps)) h ∙ placed_twice w x (left M w x c) (store_all M (rule M (w x) p.0 p.1) ps))

  -- and a known map is then known with the pairs inserted in their order
  pub puts_known : (ps : List (K × W)) (s : Book M) (x : ℕ) (f : Finite K W) → s.maps x ≡ some f → (booked_all M s (put_all x ps)).maps x ≡ some (insert_all M.keys f ps)
  unfolding put_all booked_all insert_all becomes next renews mapped grows
  puts_known [] s x f e = e
  puts_known (p ∷ ps) s x f e = puts_known ps (booked M s x (own (puts p.0 p.1))) x (insert M.keys f p.0 p.1) (placed_here s.maps x _ ∙ rw e)
