-- Laws of lists of pairs: what inserting them all does to a map, and that a table's pairs carry its map and its totals.
use Prim.Native.Nat.{ℕ, zero, suc, ◌+◌, ◌≤◌}
use mathlib.Core.Bool.{cond}
use mathlib.Core.List.{List, [], ◌∷◌, ◌++◌}
use mathlib.Core.Path.{◌≡◌, refl, sym, ◌∙◌, ap}
use mathlib.Core.Option.{Option, none, some}
use native.Mathlib.Omega.{arith}
use Rattle.model.specs.Slots.{Slot, never, freed, damaged, live, Table, Keys, weigh, total, pair_of, pairs, value_in, look}
use Rattle.model.specs.Finite.{Finite, is_some, or_else, contains, mass, insert, firsts, last_in, insert_all}
use Rattle.model.proofs.Cases.{by_bool}

pub or_else_assoc : {W : Type 0} (a b c : Option W) → or_else (or_else a b) c ≡ or_else a (or_else b c)
unfolding or_else
or_else_assoc none b c = refl
or_else_assoc (some v) b c = refl

pub or_else_none : {W : Type 0} (a : Option W) → or_else a none ≡ a
unfolding or_else
or_else_none none = refl
or_else_none (some v) = refl

module _ {K W : Type 0} (E : Keys K) where
  pub insert_all_look : (f : Finite K W) (ps : List (K × W)) (a : K) → (insert_all E f ps).look a ≡ or_else (last_in E a ps) (f.look a)
  unfolding insert_all last_in insert or_else
  insert_all_look f [] a = refl
  insert_all_look f (p ∷ ps) a = insert_all_look (insert E f p.0 p.1) ps a
      ∙ ap (λ o. or_else (last_in E a ps) o) (by_bool (E.same a p.0) (λ e. rw e) (λ e. rw e))
      ∙ sym (or_else_assoc (last_in E a ps) (cond (E.same a p.0) (some p.1) none) (f.look a))

  last_in_append : (a : K) (ps qs : List (K × W)) → last_in E a (ps ++ qs) ≡ or_else (last_in E a qs) (last_in E a ps)
  unfolding last_in
  last_in_append a [] qs = sym (or_else_none (last_in E a qs))
  last_in_append a (p ∷ ps) qs = rw (last_in_append a ps qs) (or_else_assoc (last_in E a qs) (last_in E a ps) (cond (E.same a p.0) (some p.1) none))

  last_pair : (a : K) (s : Slot K W) (o : Option W) → or_else (last_in E a (pair_of s)) o ≡ value_in E a s o
  unfolding last_in pair_of value_in or_else
  last_pair a never o = refl
  last_pair a freed o = refl
  last_pair a damaged o = refl
  last_pair a (live b v) o = by_bool (E.same a b) (λ e. rw e) (λ e. rw e)

  -- the last pair of a key among a table's pairs is the key's value in the table's map
  pub last_look : (a : K) (t : Table K W) (n : ℕ) → last_in E a (pairs t n) ≡ look E t n a
  unfolding pairs look last_in
  last_look a t zero = refl
  last_look a t (suc n) = last_in_append a (pairs t n) (pair_of (t n)) ∙ (rw (last_look a t n) (last_pair a (t n) (look E t n a)))

  -- what inserting can only lessen: the mass of the keys that the map lacks
  pub lacking_less : (g : K → ℕ) (f : Finite K W) (k : K) (v : W) (ks : List K) → mass (λ a. cond (contains (insert E f k v) a) 0 (g a)) ks ≤ mass (λ a. cond (contains f a) 0 (g a)) ks
  unfolding mass insert contains is_some
  lacking_less g f k v [] = omega arith
  lacking_less g f k v (a ∷ ks) = by_bool (E.same a k)
      (λ e. rw e (omega (arith, lacking_less g f k v ks)))
      (λ e. rw e (omega (arith, lacking_less g f k v ks)))

module _ {K W : Type 0} (g : K → ℕ) where
  firsts_mass : (ps qs : List (K × W)) → mass g (firsts (ps ++ qs)) ≡ mass g (firsts ps) + mass g (firsts qs)
  unfolding mass firsts
  firsts_mass [] qs = omega arith
  firsts_mass (p ∷ ps) qs = omega (arith, firsts_mass ps qs)

  pair_weigh : (s : Slot K W) → mass g (firsts (pair_of s)) ≡ weigh g s
  unfolding mass firsts pair_of weigh
  pair_weigh never = refl
  pair_weigh freed = refl
  pair_weigh damaged = refl
  pair_weigh (live a v) = omega arith

  -- a table's totals are those of its pairs
  pub total_pairs : (t : Table K W) (n : ℕ) → total g t n ≡ mass g (firsts (pairs t n))
  unfolding total pairs firsts mass
  total_pairs t zero = refl
  total_pairs t (suc n) = omega (arith, total_pairs t n, firsts_mass (pairs t n) (pair_of (t n)), pair_weigh (t n))
