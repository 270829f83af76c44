-- The test of an integer map's sizes, and what right sizes say.
use Prim.Native.Nat.{ℕ}
use mathlib.Core.Bool.{Bool, true, false}
use mathlib.Core.List.{List}
use mathlib.Core.Path.{◌≡◌, sym, ◌∙◌}
use borrow.Author.Tests.{eqb-true, eq-eqb, ne_eqb}
use lib.Dec.{eqb}
use lib.ListN.{length}
use Rattle.model.proofs.Cases.{both, by_bool}
use Rattle.digest.specs.Home.{slots_fit}
use Rattle.kinds.specs.Calls.{sized_of}
use Rattle.kinds.specs.Columns.{values}
use Rattle.kinds.proofs.Sizing.{sized_as}
use Rattle.int_slots.specs.Memory.{IntMemory, memory, fitting}
use Rattle.int_slots.specs.Maps.{maps}
use Rattle.int_slots.proofs.Sizes.{fitting_says}
use Rattle.int_slots.proofs.Bridge.{sized_is, sized_short}

module _ (m : IntMemory values) where
  -- the sizes, from their tests
  pub map_fits_all : {b : Bool} → length m.marks ≡ length m.words → length m.marks ≡ length m.keys → b ≡ slots_fit (length m.marks) → b ≡ sized_of maps m
  unfolding sized_of
  map_fits_all e f p = rw (p, eq-eqb (length m.marks) (length m.words) e, eq-eqb (length m.marks) (length m.keys) f) (by_bool (slots_fit (length m.marks)) (λ q. rw q) (λ q. rw q))

  pub map_fits_keys : (length m.marks ≡ length m.keys → ⊥) → false ≡ sized_of maps m
  unfolding sized_of
  map_fits_keys h = rw (ne_eqb (length m.marks) (length m.keys) h) (by_bool (slots_fit (length m.marks)) (λ q. rw q) (λ q. rw q))

  -- other many values than marks: wrong sizes
  pub map_short : (length m.marks ≡ length m.words → ⊥) → maps.sized m ≡ false
  map_short h = sized_short values m (ne_eqb (length m.marks) (length m.words) h)

  pub map_fits_values : (length m.marks ≡ length m.words → ⊥) → false ≡ sized_of maps m
  unfolding sized_of
  map_fits_values h = sym (map_short h)

  -- right sizes: as many keys and values as marks
  pub same_long : {b : Bool} → b ≡ sized_of maps m → b ≡ true → (length m.keys ≡ length m.marks) × (length m.words ≡ length m.marks)
  same_long p q =
      let (a, d) = both (fitting m.marks m.keys) (eqb (length m.marks) (length m.words)) (sym (sized_is values m) ∙ sized_as maps m p q) in
      ((fitting_says m.marks m.keys a).1, sym (eqb-true (length m.marks) (length m.words) d))

  pub map_long : maps.sized m ≡ true → length m.words ≡ length m.marks
  map_long q = let (a, d) = both (fitting m.marks m.keys) (eqb (length m.marks) (length m.words)) (sym (sized_is values m) ∙ q) in sym (eqb-true (length m.marks) (length m.words) d)

-- what the test of the sizes answered
module _ (marks keys vs : List ℕ) {b : Bool} (p : b ≡ sized_of maps (memory marks keys vs)) where
  pub fit : b ≡ true → maps.sized (memory marks keys vs) ≡ true
  fit q = sized_as maps (memory marks keys vs) p q

  pub unfit : b ≡ false → maps.sized (memory marks keys vs) ≡ false
  unfit q = sized_as maps (memory marks keys vs) p q
