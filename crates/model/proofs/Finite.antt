-- Laws of finite maps: insert, remove and union list their keys once, and the weights of a sound table's live keys are those of its map's keys.
use Prim.Native.Nat.{ℕ, zero, suc, ◌+◌, ◌<◌}
use mathlib.Core.Bool.{Bool, true, false, cond, not}
use mathlib.Core.List.{List, [], ◌∷◌, ◌++◌}
use mathlib.Core.Path.{◌≡◌, refl, sym, ◌∙◌, ap}
use mathlib.Core.Option.{Option, none, some}
use native.Mathlib.Omega.{arith}
use Rattle.model.specs.Slots.{Slot, never, freed, damaged, live, Table, Keys, put, weigh, total, look}
use Rattle.model.specs.Finite.{Finite, is_some, or_else, contains, member, Once, once_none, once_more, Proper, mass, select, empty, insert, remove, union_prefer_right}
use Rattle.model.proofs.Cases.{by_bool, by_same, clash}
use Rattle.model.proofs.Slots.{by_put, holds_live, look_some, look_gone, total_put}
use Rattle.model.proofs.Change.{removed_look}

module _ {K : Type 0} (E : Keys K) where
  pub member_select : (p : K → Bool) (k : K) (ks : List K) → member E k (select p ks) ≡ cond (p k) (member E k ks) false
  unfolding member select
  member_select p k [] = by_bool (p k) (λ e. rw e) (λ e. rw e)
  member_select p k (a ∷ ks) = by_bool (p a)
      (λ e. rw e (by_same E k a
      (λ q x. rw (x, q, e))
      (λ x. rw x (member_select p k ks))))
      (λ e. rw e (by_same E k a
      (λ q x. rw (member_select p k ks, x, q, e))
      (λ x. rw x (member_select p k ks))))

  pub member_append : (k : K) (xs ys : List K) → member E k (xs ++ ys) ≡ cond (member E k xs) true (member E k ys)
  unfolding member
  member_append k [] ys = refl
  member_append k (a ∷ xs) ys = by_bool (E.same k a) (λ e. rw e) (λ e. rw e (member_append k xs ys))

  pub once_select : (p : K → Bool) (ks : List K) → Once E ks → Once E (select p ks)
  unfolding select
  once_select p [] o = o
  once_select p (k ∷ ks) (once_more m o) = by_bool (p k)
      (λ e. rw e (once_more (member_select p k ks ∙ (rw (e, m))) (once_select p ks o)))
      (λ e. rw e (once_select p ks o))

  pub once_append : (xs ys : List K) → Once E xs → Once E ys → ((k : K) → member E k xs ≡ true → member E k ys ≡ false) → Once E (xs ++ ys)
  unfolding member
  once_append [] ys a b h = b
  once_append (x ∷ xs) ys (once_more m a) b h =
      once_more (member_append x xs ys ∙ (rw (m, h x (rw (E.self x)))))
      (once_append xs ys a b (λ k e. h k (by_bool (E.same k x) (λ q. rw q) (λ q. rw q e))))

  mass_append : (g : K → ℕ) (xs ys : List K) → mass g (xs ++ ys) ≡ mass g xs + mass g ys
  unfolding mass
  mass_append g [] ys = omega arith
  mass_append g (x ∷ xs) ys = omega (arith, mass_append g xs ys)

  -- the mass of the keys that fail a test is the mass where the others weigh nothing
  mass_select : (g : K → ℕ) (p : K → Bool) (ks : List K) → mass g (select (λ k. not (p k)) ks) ≡ mass (λ k. cond (p k) 0 (g k)) ks
  unfolding mass select
  mass_select g p [] = refl
  mass_select g p (k ∷ ks) = by_bool (p k) (λ e. rw e (omega (arith, mass_select g p ks))) (λ e. rw e (omega (arith, mass_select g p ks)))

  module _ {W : Type 0} where
    pub some_is : (o : Option W) → is_some o ≡ true → (v : W) × (o ≡ some v)
    unfolding is_some
    some_is none e = clash cc
    some_is (some v) e = (v, refl)

    none_is : (o : Option W) → is_some o ≡ false → o ≡ none
    unfolding is_some
    none_is none e = refl
    none_is (some v) e = clash cc

    pub empty_proper : Proper {W = W} E empty
    unfolding empty contains member is_some
    empty_proper = record { listed = λ k. refl; once = once_none }

    pub insert_proper : (f : Finite K W) (k : K) (v : W) → Proper E f → Proper E (insert E f k v)
    unfolding insert contains member is_some
    insert_proper f k v p = by_bool (is_some (f.look k))
        (λ e. record {
          listed = λ a. rw e (by_same E a k (λ q x. rw x (p.listed a ∙ (rw (q, e)))) (λ x. rw x (p.listed a)));
          once = rw e p.once;
        })
        (λ e. record {
          listed = λ a. rw e (by_same E a k (λ q x. rw x) (λ x. rw x (p.listed a)));
          once = rw e (once_more (p.listed k ∙ e) p.once);
        })

    pub remove_proper : (f : Finite K W) (k : K) → Proper E f → Proper E (remove E f k)
    unfolding remove contains is_some
    remove_proper f k p = record {
      listed = λ a. member_select (λ x. not (E.same x k)) a f.dom ∙ by_same E a k (λ q x. rw x) (λ x. rw x (p.listed a));
      once = once_select (λ x. not (E.same x k)) f.dom p.once;
    }

    pub union_proper : (f g : Finite K W) → Proper E f → Proper E g → Proper E (union_prefer_right f g)
    unfolding union_prefer_right contains is_some or_else
    union_proper f g p q = record {
      listed = λ a. member_append a (select (λ x. not (contains f x)) g.dom) f.dom
          ∙ rw (member_select (λ x. not (contains f x)) a g.dom, p.listed a, q.listed a) (go (g.look a) (f.look a));
      once = once_append (select (λ x. not (contains f x)) g.dom) f.dom (once_select (λ x. not (contains f x)) g.dom q.once) p.once
          (λ k e. p.listed k ∙ by_bool (is_some (f.look k))
          (λ x. let z : ◌≡◌ {A = Bool} false true = sym (member_select (λ x. not (contains f x)) k g.dom ∙ (rw x)) ∙ e in cc)
          (λ x. x));
    }
      where
        go : (x y : Option W) → cond (cond (not (is_some y)) (is_some x) false) true (is_some y) ≡ is_some (or_else x y)
        go none none = refl
        go none (some w) = refl
        go (some v) none = refl
        go (some v) (some w) = refl

  -- the union's mass: the left's, and that of the right's keys that the left lacks
  pub union_mass : {W : Type 0} (w : K → ℕ) (f g : Finite K W) → mass w (union_prefer_right f g).dom ≡ mass w f.dom + mass (λ k. cond (contains f k) 0 (w k)) g.dom
  unfolding union_prefer_right
  union_mass w f g = omega (arith, mass_append w (select (λ x. not (contains f x)) g.dom) f.dom, mass_select w (λ x. contains f x) g.dom)

  pub insert_mass : {W : Type 0} (w : K → ℕ) (f : Finite K W) (k : K) (v : W) → mass w (insert E f k v).dom ≡ mass w f.dom + cond (contains f k) 0 (w k)
  unfolding insert mass
  insert_mass w f k v = by_bool (contains f k) (λ e. rw e (omega arith)) (λ e. rw e (omega arith))

module _ {K W : Type 0} (g : K → ℕ) where
  weigh_dead : (s : Slot K W) → ((a : K) (v : W) → s ≡ live a v → ⊥) → weigh g s ≡ 0
  unfolding weigh
  weigh_dead never h = refl
  weigh_dead freed h = refl
  weigh_dead damaged h = refl
  weigh_dead (live a v) h = absurd (h a v refl)

  -- a table with no live slot weighs nothing
  pub total_dead : (t : Table K W) (n : ℕ) → ((i : ℕ) → i < n → (a : K) (v : W) → t i ≡ live a v → ⊥) → total g t n ≡ 0
  unfolding total
  total_dead t zero h = refl
  total_dead t (suc n) h = omega (arith, total_dead t n (λ i l. h i (omega arith)), weigh_dead (t n) (h n (omega arith)))

  once_put : {S : ℕ} {t : Table K W} (x : ℕ) → ((i j : ℕ) (k : K) (v w : W) → i < S → j < S → t i ≡ live k v → t j ≡ live k w → i ≡ j) → (i j : ℕ) (k : K) (v w : W) → i < S → j < S → put t x freed i ≡ live k v → put t x freed j ≡ live k w → i ≡ j
  once_put {S} {t} x once i j k v w a b p q = by_put t x freed i
      (λ e r. clash cc)
      (λ e r. by_put t x freed j
      (λ e' r'. clash cc)
      (λ e' r'. once i j k v w a b (sym r ∙ p) (sym r' ∙ q)))

  -- where each live key stands once, and the list has just the live keys, each once, the totals agree
  pub total_mass : (E : Keys K) (S : ℕ) (ks : List K) (t : Table K W) → ((i j : ℕ) (k : K) (v w : W) → i < S → j < S → t i ≡ live k v → t j ≡ live k w → i ≡ j) → Once E ks → ((k : K) → member E k ks ≡ is_some (look E t S k)) → total g t S ≡ mass g ks
  unfolding mass member is_some weigh
  total_mass E S [] t once o h = total_dead t S (λ i l a v e.
      let z : ◌≡◌ {A = Bool} true false = sym (holds_live E a (t i) v e) ∙ look_gone E a t S i (none_is E (look E t S a) (sym (h a))) l in
      clash cc)
  total_mass E S (k ∷ ks) t once (once_more m o) h =
      let (v, p) = some_is E (look E t S k) (sym (h k) ∙ (rw (E.self k))) in
      let (i, l, q) = look_some E k t S v p in
      let r = total_mass E S ks (put t i freed) (once_put i once) o (λ a. by_same E a k
      (λ x e. rw (removed_look E S t once k i v l q a, e, x) m)
      (λ e. rw (removed_look E S t once k i v l q a, e) (rw e at (h a)))) in
      omega (arith, r, total_put g t i freed S l, ap (λ s. weigh g s) q)
