-- Soundness of a table's slots, as the scope words it.
use Rattle.std.specs.Prelude.{ℕ, ◌<◌, ◌≡◌}
use Rattle.model.specs.Slots.{never, damaged, live, Table}
use Rattle.model.specs.Path.{at}

-- No mark above 2, each live key once, no mark 0 between its home and its slot.
pub record SoundSlots {K W : Type 0} (S : ℕ) (home : K → ℕ) (t : Table K W) : Type 0 where
  -- no mark above 2, and no live span past the arena
  pub whole : (i : ℕ) → i < S → t i ≡ damaged → ⊥
  -- each live key once
  pub once : (i j : ℕ) (k : K) (v w : W) → i < S → j < S → t i ≡ live k v → t j ≡ live k w → i ≡ j
  -- no mark 0 between a live key's home (the home slot itself too) and its slot
  pub reach : (k : K) (v : W) (n m : ℕ) → n < S → m < n → t (at S (home k) n) ≡ live k v → t (at S (home k) m) ≡ never → ⊥
