-- A list of pairs that the insert rule takes one after the other, and never refuses; and the room that suffices for it.
use Rattle.std.specs.Prelude.{◌+◌, ◌≤◌, true, false, cond, List, [], ◌∷◌, ◌≡◌}
use Rattle.model.specs.Finite.{mass, firsts}
use Rattle.model.specs.Store.{Store, path, live_count, used, damaged_slots}
use Rattle.model.specs.Calls.{ok, Spot, spot_by, rule, lacking}

-- Each pair in turn meets no damage on its key's path, and an absent key finds a slot and its bytes.
abbrev pub Running : {K W : Type 0} (M : Store K W) → M.State → List (K × W) → Type 0
Running M m [] = Unit {0}
Running {K} {W} M m (p ∷ ps) = ((x : Spot W) × (spot_by M m p.0 (path M m p.0) ≡ ok x)) × Running M (rule M m p.0 p.1) ps

-- A memory with no damage that has room for what it lacks of the pairs.
pub record Roomy {K W : Type 0} (M : Store K W) (m : M.State) (ps : List (K × W)) : Type 0 where
  pub sized : M.sized m ≡ true
  pub unharmed : M.damaged_fully m ≡ false
  pub unhurt : damaged_slots M m ≡ false
  pub slots_left : live_count M m + mass (λ k. cond (lacking M m k) 1 0) (firsts ps) ≤ M.size m
  pub bytes_left : used M m + mass (λ k. cond (lacking M m k) (M.weight k) 0) (firsts ps) ≤ M.bytes m
