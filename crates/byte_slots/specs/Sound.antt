-- Soundness of a whole byte table, in the scope's words.
use Rattle.std.specs.Prelude.{ℕ, ◌≤◌, ◌<◌, List, ◌↔◌, ◌≡◌, length, get_or}
use Rattle.model.specs.Path.{at}
use Rattle.digest.specs.Home.{home_of}
use Rattle.byte_slots.specs.Memory.{Spans, end_at, key_at, used_of, live_at, offset_of, length_of}

module _ (s : Spans) where
  -- The slot's span covers the byte b.
  abbrev pub Covers : ℕ → ℕ → Type 0
  Covers i b = (offset_of s i ≤ b) × (b < end_at s i)

  -- The slot n places up from a key's home.
  abbrev pub on_path : List ℕ → ℕ → ℕ
  on_path k n = at (length s.marks) (home_of 0 (length s.marks) k) n

-- A sound byte table in the scope's words, one field a clause.
pub record SoundAsWorded (s : Spans) : Type 0 where
  -- no mark above 2
  pub marks : (i : ℕ) → get_or s.marks i 0 ≤ 2
  -- each live key once
  pub once : (i j : ℕ) → live_at s i → live_at s j → key_at s i ≡ key_at s j → i ≡ j
  -- no mark 0 between its home and its slot
  pub reach : (k : List ℕ) (n m : ℕ) → n < length s.marks → m < n → live_at s (on_path s k n) → key_at s (on_path s k n) ≡ k → get_or s.marks (on_path s k m) 0 ≡ 0 → ⊥
  -- live spans of non-zero length disjoint
  pub disjoint : (i j b : ℕ) → live_at s i → live_at s j → (i ≡ j → ⊥) → Covers s i b → Covers s j b → ⊥
  -- and together covering exactly the first `used` bytes
  pub covering : (b : ℕ) → (b < used_of s) ↔ ((i : ℕ) × live_at s i × Covers s i b)
  -- which are bytes of the arena
  pub within : used_of s ≤ length s.arena
  -- no live span ending beyond `used`
  pub ends : (i : ℕ) → live_at s i → end_at s i ≤ used_of s
  -- no empty one strictly inside another
  pub empty : (i j : ℕ) → live_at s i → live_at s j → length_of s i ≡ 0 → offset_of s j < offset_of s i → offset_of s i < end_at s j → ⊥
