-- What a slot has to be, for a key to be put into it and for it to be freed.
use Rattle.std.specs.Prelude.{ℕ, ◌+◌, ◌≤◌, ◌<◌, List, ◌≡◌, length}
use Rattle.digest.specs.Home.{key_limit}
use Rattle.byte_slots.specs.Memory.{Spans, arena_limit, end_at, used_of}

-- One of the slots, in lists that agree.
pub record Aligned (s : Spans) (i : ℕ) : Type 0 where
  pub slot : i < length s.marks
  pub offsets : length s.offsets ≡ length s.marks
  pub lengths : length s.lengths ≡ length s.marks

-- The key has room behind the u used bytes.
pub record Fillable (s : Spans) (i u : ℕ) (k : List ℕ) : Type 0 where
  pub aligned : Aligned s i
  pub used : u ≡ used_of s
  pub room : u + length k ≤ length s.arena
  pub key : length k ≤ key_limit
  pub size : length s.arena ≤ arena_limit

-- The slot's span ends among the u used bytes, and these are bytes of an arena within its limit.
pub record Freeable (s : Spans) (i u : ℕ) : Type 0 where
  pub aligned : Aligned s i
  pub used : u ≡ used_of s
  pub ends : end_at s i ≤ u
  pub within : u ≤ length s.arena
  pub size : length s.arena ≤ arena_limit
