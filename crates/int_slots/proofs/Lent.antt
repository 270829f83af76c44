-- What the probing and the scan of lent arrays found is what they find in the lists, and what a refused lending tells.
use Prim.Native.Nat.{ℕ}
use mathlib.Core.Bool.{true, false}
use mathlib.Core.Path.{◌≡◌, sym, ◌∙◌}
use lib.ListN.{length}
use Rattle.std.specs.Prelude.{Result, Ok, Err}
use Rattle.model.proofs.Cases.{both, by_bool}
use Rattle.answers.specs.declared.Refusal.{Refusal}
use Rattle.answers.specs.declared.Refusal.TheVariants.{Sizes}
use Rattle.kinds.specs.Columns.{Column, values, nothing}
use Rattle.kinds.specs.declared.Probed.{Probed}
use Rattle.tables.specs.Reading as tables
use Rattle.tables.specs.Reading.{lent_of}
use Rattle.tables.proofs.Calls.{lent_ok, lent_err}
use Rattle.int_slots.specs.Memory.{IntMemory, int_store, fitting}
use Rattle.int_slots.specs.Maps.{maps, MapMemory}
use Rattle.int_slots.specs.Sets.{sets, SetMemory, memory}
use Rattle.int_slots.specs.Probing.{probing}
use Rattle.int_slots.specs.Seeking.{probing_beside, probing_map}
use Rattle.int_slots.proofs.Bridge.{sized_is, probing_unfit}
use Rattle.int_slots.proofs.Seeking.{path_probed}
use Rattle.int_slots.proofs.Sizes.{fitting_says}

-- a table of right sizes: the probing of its slots is the probing of its lists
module _ {W : Type 0} (C : Column W) (m : IntMemory C) (k : ℕ) where
  sized_probed : (int_store C).sized m ≡ true → {x : Result Probed Refusal} → x ≡ tables.probing (int_store C) m k → x ≡ probing_beside C m k
  unfolding tables.probing
  sized_probed s p = p ∙ sym (path_probed C m k s)

  -- of wrong sizes: refusal 1
  unsized_probed : (int_store C).sized m ≡ false → Err Sizes ≡ probing_beside C m k
  unfolding probing_beside
  unsized_probed s =
      by_bool (C.long m.words (length m.marks))
      (λ l. by_bool (fitting m.marks m.keys)
      (λ f. let z : true ≡ false = sym (sized_is C m ∙ (rw (f, l))) ∙ s in absurd cc)
      (λ f. rw (l, probing_unfit C m k f)))
      (λ l. rw l)

-- right sizes: as many keys as marks
pub sized_keys : {W : Type 0} (C : Column W) (m : IntMemory C) → (int_store C).sized m ≡ true → length m.keys ≡ length m.marks
sized_keys C m s = let (a, b) = both (fitting m.marks m.keys) (C.long m.words (length m.marks)) (sym (sized_is C m) ∙ s) in (fitting_says m.marks m.keys a).1

pub set_probing : (m : SetMemory) (k : ℕ) → sets.sized m ≡ true → {x : Result Probed Refusal} → x ≡ tables.probing sets m k → x ≡ probing m.marks m.keys k
unfolding probing_beside
set_probing m k s p = sized_probed nothing m k s p

pub map_probing : (m : MapMemory) (k : ℕ) → maps.sized m ≡ true → {x : Result Probed Refusal} → x ≡ tables.probing maps m k → x ≡ probing_map m k
unfolding probing_map
map_probing m k s p = sized_probed values m k s p

-- and the other way: what the path over the arrays found is what the probing of the slots finds
pub set_path : (m : SetMemory) (k : ℕ) → sets.sized m ≡ true → {x : Result Probed Refusal} → x ≡ probing m.marks m.keys k → x ≡ tables.probing sets m k
unfolding probing_beside tables.probing
set_path m k s p = p ∙ path_probed nothing m k s

pub set_fit : (m : SetMemory) → fitting m.marks m.keys ≡ true → sets.sized m ≡ true
set_fit m f = sized_is nothing m ∙ (rw f)

pub map_path : (m : MapMemory) (k : ℕ) → maps.sized m ≡ true → sets.sized (memory m.marks m.keys) ≡ true → {x : Result Probed Refusal} → x ≡ tables.probing sets (memory m.marks m.keys) k → x ≡ tables.probing maps m k
unfolding probing_beside tables.probing
map_path m k s t p =
    let (a, b) = both (fitting m.marks m.keys) (values.long m.words (length m.marks)) (sym (sized_is values m) ∙ s) in
    set_probing (memory m.marks m.keys) k t p ∙ (rw b at (path_probed values m k s))

-- a set's arrays
module _ (m : SetMemory) (k : ℕ) {r : Result SetMemory Refusal} (p : r ≡ lent_of sets m) where
  pub set_probed : {n : SetMemory} → r ≡ Ok n → {x : Result Probed Refusal} → x ≡ tables.probing sets n k → x ≡ probing m.marks m.keys k
  set_probed q h = let (s, e) = lent_ok sets m p q in set_probing m k s (rw e at h)

  pub set_unprobed : {y : Refusal} → r ≡ Err y → Err y ≡ probing m.marks m.keys k
  unfolding probing_beside
  set_unprobed q = let (s, e) = lent_err sets m p q in rw e (unsized_probed nothing m k s)

-- a map's
module _ (m : MapMemory) (k : ℕ) {r : Result MapMemory Refusal} (p : r ≡ lent_of maps m) where
  pub map_probed : {n : MapMemory} → r ≡ Ok n → {x : Result Probed Refusal} → x ≡ tables.probing maps n k → x ≡ probing_map m k
  map_probed q h = let (s, e) = lent_ok maps m p q in map_probing m k s (rw e at h)

  pub map_unprobed : {y : Refusal} → r ≡ Err y → Err y ≡ probing_map m k
  unfolding probing_map
  map_unprobed q = let (s, e) = lent_err maps m p q in rw e (unsized_probed values m k s)
