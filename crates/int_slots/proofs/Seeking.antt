-- What the probing of a key says of get, remove and entry, on any memory: the laws that every call of a map or a set cites.
use Prim.Native.Nat.{ℕ, ◌<◌}
use mathlib.Core.Bool.{true, false}
use mathlib.Core.Path.{◌≡◌, refl, sym, ◌∙◌}
use native.Mathlib.Omega.{arith}
use borrow.Author.Tests.{eq-eqb, ne_eqb, eqb-true}
use lib.ListN.{length}
use Rattle.model.specs.Store.{Store, path}
use Rattle.answers.specs.declared.Refusal.TheVariants.{Sizes}
use Rattle.model.specs.Calls.{no, need, get, entry, remove}
use Rattle.model.proofs.Cases.{both, by_bool, clash}
use Rattle.digest.specs.Home.{home_of_word}
use Rattle.kinds.specs.Columns.{Column, values}
use Rattle.kinds.specs.Probing.{along}
use Rattle.int_slots.specs.Memory.{IntMemory, int_store, fitting}
use Rattle.int_slots.specs.Probing.{probing}
use Rattle.int_slots.specs.Seeking.{probing_beside, probing_map}
use Rattle.kinds.proofs.Bridge.{seen_of, spot_of}
use Rattle.int_slots.proofs.Bridge.{sized_is, sized_short, probing_path, get_probing, remove_probing, entry_probing, hit_slot, free_slot}
use Rattle.std.specs.Prelude.{Result, Ok, Err}
use Rattle.answers.specs.declared.Refusal.{Refusal}
use Rattle.kinds.specs.declared.Probed.{Probed}
use Rattle.kinds.specs.declared.Probed.TheVariants.{Hit, Free}

module _ {K W : Type 0} (M : Store K W) (m : M.State) (k : K) (e : M.sized m ≡ false) where
  get_unsized : get M m k ≡ no 1
  unfolding get need
  get_unsized = rw e

  remove_unsized : remove M m k ≡ no 1
  unfolding remove need
  remove_unsized = rw e

  entry_unsized : entry M m k ≡ no 1
  unfolding entry need
  entry_unsized = rw e

module _ {W : Type 0} (C : Column W) (m : IntMemory C) (k : ℕ) where
  by_long : {A : Type 0} (a : A) (f : Result Probed Refusal → A) → (probing_beside C m k ≡ probing m.marks m.keys k → C.long m.words (length m.marks) ≡ true → a ≡ f (probing_beside C m k)) → ((int_store C).sized m ≡ false → a ≡ f (Err Sizes)) → a ≡ f (probing_beside C m k)
  unfolding probing_beside
  by_long a f long short = by_bool (C.long m.words (length m.marks)) (λ e. long (rw e) e) (λ e. rw e (short (sized_short C m e)))

  -- get, remove and entry by what the probing found
  pub get_probed : get (int_store C) m k ≡ seen_of (C.read m.words) (probing_beside C m k)
  get_probed = by_long (get (int_store C) m k) (seen_of (C.read m.words)) (λ p e. get_probing C m k p refl e) (λ e. get_unsized (int_store C) m k e)

  pub remove_probed : remove (int_store C) m k ≡ seen_of (C.read m.words) (probing_beside C m k)
  remove_probed = by_long (remove (int_store C) m k) (seen_of (C.read m.words)) (λ p e. remove_probing C m k p refl e) (λ e. remove_unsized (int_store C) m k e)

  pub entry_probed : entry (int_store C) m k ≡ spot_of (C.read m.words) (probing_beside C m k)
  entry_probed = by_long (entry (int_store C) m k) (spot_of (C.read m.words)) (λ p e. entry_probing C m k p refl e) (λ e. entry_unsized (int_store C) m k e)

  -- right sizes: the probing is the path
  pub path_probed : (int_store C).sized m ≡ true → probing_beside C m k ≡ along (length m.marks) (home_of_word 0 (length m.marks) k) (path (int_store C) m k)
  unfolding probing_beside
  path_probed e = let (a, b) = both (fitting m.marks m.keys) (C.long m.words (length m.marks)) (sym (sized_is C m) ∙ e) in rw b (probing_path C m k a)

  -- a slot that the probing answers is one of the table's
  module _ {r : Result Probed Refusal} (p : r ≡ probing_beside C m k) where
    probed : (r ≡ Err Sizes → ⊥) → (r ≡ probing m.marks m.keys k) × (C.long m.words (length m.marks) ≡ true)
    unfolding probing_beside
    probed h = by_bool (C.long m.words (length m.marks)) (λ e. (p ∙ (rw e), e)) (λ e. absurd (h (p ∙ (rw e))))

    pub hit_probed : {s e : ℕ} → r ≡ Ok (Hit s e) → (s < length m.marks) × (length m.keys ≡ length m.marks) × (C.long m.words (length m.marks) ≡ true)
    hit_probed q =
        let (x, l) = probed (λ z. clash cc) in
        let (a, b) = hit_slot m.marks m.keys k x q in (a, b, l)

    pub free_probed : {s e : ℕ} → r ≡ Ok (Free s e) → (s < length m.marks) × (length m.keys ≡ length m.marks) × (C.long m.words (length m.marks) ≡ true)
    free_probed q =
        let (x, l) = probed (λ z. clash cc) in
        let (a, b) = free_slot m.marks m.keys k x q in (a, b, l)

-- the probing in a map, from its own tests
module _ (m : IntMemory values) (k : ℕ) where
  pub map_probe_long : {r : Result Probed Refusal} → length m.marks ≡ length m.words → r ≡ probing m.marks m.keys k → r ≡ probing_map m k
  unfolding probing_map probing_beside
  map_probe_long e p = rw (eq-eqb (length m.marks) (length m.words) e) p

  pub map_probe_short : (length m.marks ≡ length m.words → ⊥) → Err Sizes ≡ probing_map m k
  unfolding probing_map probing_beside
  map_probe_short h = rw (ne_eqb (length m.marks) (length m.words) h)

  -- a slot that the probing answers is inside all three arrays
  module _ {r : Result Probed Refusal} (p : r ≡ probing_map m k) where
    pub hit_inside : {s e : ℕ} → r ≡ Ok (Hit s e) → (s < length m.marks) × (s < length m.keys) × (s < length m.words)
    unfolding probing_map
    hit_inside q = let (a, b, l) = hit_probed values m k p q in (a, omega arith, omega (arith, eqb-true (length m.marks) (length m.words) l))

    pub free_inside : {s e : ℕ} → r ≡ Ok (Free s e) → (s < length m.marks) × (s < length m.keys) × (s < length m.words)
    unfolding probing_map
    free_inside q = let (a, b, l) = free_probed values m k p q in (a, omega arith, omega (arith, eqb-true (length m.marks) (length m.words) l))
