-- The tables of a store, of which some maps are known, for the walk of one of them.
use Rattle.std.specs.Prelude.{ℕ, Bool, true, false, ◌⊎◌, ◌≡◌}
use Rattle.std.proofs.Math.Option.{some}
use Rattle.model.specs.Store.{Store}
use Rattle.model.specs.Machine.{makes, clears, Call, own, copies, unions, steps}
use Rattle.model.specs.Demand2.{renews, Book}
use Rattle.model.specs.Lawful.{Shows}
use Rattle.model.specs.Finite.{Finite, is_some}

module _ {K W : Type 0} (M : Store K W) where
  -- Making, clearing and copying onto a table count as removing every key first.
  unfoldable pub sweeps : Call K W → Bool
  sweeps (own c) = renews M c
  sweeps (copies y) = true
  sweeps (unions y) = false
  sweeps (steps a b) = false

  -- The same in words: a make, a clear, or a copy onto the table.
  abbrev pub Renewal : Call K W → Type 0
  Renewal c = (c ≡ own makes) ⊎ ((c ≡ own clears) ⊎ ((y : ℕ) × (c ≡ copies y)))

  -- What is known of the tables is so, x is known, and it has S slots. Of the other tables nothing is asked.
  pub record Sure (x S : ℕ) (s : Book M) : Type 0 where
    pub shows : (y : ℕ) (f : Finite K W) → s.maps y ≡ some f → Shows M (s.world y) f
    pub known : is_some (s.maps x) ≡ true
    pub sized : M.size (s.world x) ≡ S
