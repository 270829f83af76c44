-- A key that is absent, may be stored and fits goes in as fresh, and leaves a table that shows the map with it.
use Prim.Native.Nat.{ℕ, ◌+◌, ◌≤◌, ◌<◌}
use mathlib.Core.Option.{none}
use mathlib.Core.Path.{◌≡◌, ◌∙◌}
use native.Mathlib.Omega.{arith}
use Rattle.model.specs.Finite.{Finite, is_some, contains, mass, len, insert}
use Rattle.model.specs.Store.{Store}
use Rattle.model.specs.Calls.{ok, vacant, entry, after_insert}
use Rattle.model.specs.Demand2.{EntryOf, is_occupied, is_vacant, is_full, is_tight}
use Rattle.model.specs.Lawful.{Lawful, Shows}
use Rattle.model.proofs.Cases.{clash}
use Rattle.model.proofs.Finite.{insert_mass}
use Rattle.model.proofs.Accepted.{need_ok, pass_ok}
use Rattle.model.proofs.Union.{rule_shows}
use Rattle.model.proofs.Laws.{entry_of, insert_by_rule, vacant_absent}

module _ {K W : Type 0} (M : Store K W) (L : Lawful M) (m : M.State) (f : Finite K W) (s : Shows M m f) (k : K) where
  pub fits_fresh : M.kept k ≡ 0 → f.look k ≡ none → len f < M.size m → mass M.weight f.dom + M.weight k ≤ M.bytes m → (i : ℕ) × (e : ℕ) × (entry M m k ≡ ok (vacant i e))
  fits_fresh y a l u = go (entry_of M L m f s k y)
    where
      go : EntryOf M m f k → (i : ℕ) × (e : ℕ) × (entry M m k ≡ ok (vacant i e))
      go (is_occupied i v e q r) = clash cc
      go (is_vacant i e c d r) = (i, _, r)
      go (is_full e c r) = absurd (omega arith)
      go (is_tight e c d r) = absurd (omega arith)

  module _ (i e : ℕ) (q : entry M m k ≡ ok (vacant i e)) where
    fresh_kept : M.kept k ≡ 0
    unfolding entry
    fresh_kept = (pass_ok (M.kept k) _ (vacant i e) (need_ok (M.sized m) 1 _ (vacant i e) q).1).0

    fresh_fits : (len f < M.size m) × (mass M.weight f.dom + M.weight k ≤ M.bytes m)
    fresh_fits = go (entry_of M L m f s k fresh_kept)
      where
        go : EntryOf M m f k → (len f < M.size m) × (mass M.weight f.dom + M.weight k ≤ M.bytes m)
        go (is_occupied x v a b r) = clash cc
        go (is_vacant x a c d r) = (c, d)
        go (is_full a c r) = clash cc
        go (is_tight a c d r) = clash cc

    pub fresh_mass : (v : W) (g : K → ℕ) → mass g (insert M.keys f k v).dom ≡ mass g f.dom + g k
    unfolding contains is_some
    fresh_mass v g = insert_mass M.keys g f k v ∙ rw (vacant_absent M L m f s k i e q)

    pub fresh_shows : (v : W) → Shows M (after_insert M m k v) (insert M.keys f k v) × (M.size (after_insert M m k v) ≡ M.size m) × (M.bytes (after_insert M m k v) ≡ M.bytes m)
    unfolding len
    fresh_shows v = rw (insert_by_rule M m k v (vacant i e) q) (rule_shows M L m f s k v (omega (arith, fresh_mass v (λ a. 1), fresh_fits.0)) (omega (arith, fresh_mass v M.weight, fresh_fits.1)))
