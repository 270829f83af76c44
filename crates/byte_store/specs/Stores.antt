-- What a byte table has to be for the insert rule with no test, maps and sets alike.
use Rattle.std.specs.Prelude.{ℕ, ◌≤◌, List, [], ◌∷◌, ◌≡◌, length}
use Rattle.model.specs.Slots.{pair_of, pairs}
use Rattle.model.specs.Running.{Roomy}
use Rattle.digest.specs.Home.{key_limit}
use Rattle.byte_slots.specs.Memory.{Spans, bare, used_of}
use Rattle.byte_slots.specs.Kinds.{sets, as_set}

-- A table with u used bytes that has room for what it lacks of these keys; what stands beside keys takes none.
pub record Ready (s : Spans) (u : ℕ) (ks : List (List ℕ × Unit {0})) : Type 0 where
  pub room : Roomy sets (as_set s) ks
  pub used : u ≡ used_of s

-- The same for one key, which is one that a table may have.
pub record Storable (s : Spans) (u : ℕ) (k : List ℕ) : Type 0 where
  pub ready : Ready s u ((k, tt) ∷ [])
  pub short : length k ≤ key_limit

-- The key of the slot i, where it is live, and the keys of the first n slots.
unfoldable pub pair_at : Spans → ℕ → List (List ℕ × Unit {0})
pair_at s i = pair_of (bare s i)

unfoldable pub pairs_of : Spans → ℕ → List (List ℕ × Unit {0})
pairs_of s n = pairs (bare s) n
