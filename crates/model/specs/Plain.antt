-- Plain tables: slots with sizes and a home function, and nothing else. The simplest store, which shows that what stores owe can be had.
use Rattle.std.specs.Prelude.{ℕ, ◌≤◌, cond, ltb}
use Rattle.model.specs.Slots.{Slot, never, freed, damaged, live, Table, Keys, put, made, total}
use Rattle.model.specs.Store.{Store}

-- A plain table in memory.
pub record Plain (K W : Type 0) : Type 0 where
  pub slots : Table K W
  pub size : ℕ
  pub bytes : ℕ
  pub home : K → ℕ

-- The slot with another value.
unfoldable pub revalued : {K W : Type 0} → Slot K W → W → Slot K W
revalued never v = never
revalued freed v = freed
revalued damaged v = damaged
revalued (live a w) v = live a v

-- The table with other slots.
unfoldable pub reslotted : {K W : Type 0} → Plain K W → Table K W → Plain K W
reslotted m t = record { slots = t; size = m.size; bytes = m.bytes; home = m.home }

-- Homes are kept below the size; `used` above the arena is the only damage beyond the slots.
abbrev pub plain : {K W : Type 0} → Keys K → (K → ℕ) → Store K W
plain {K} {W} E weight = record {
  State = Plain K W;
  keys = E;
  weight = weight;
  size = λ m. m.size;
  slots = λ m. m.slots;
  home = λ m k. cond (ltb (m.home k) m.size) (m.home k) 0;
  bytes = λ m. m.bytes;
  sized = λ m. ltb 0 m.size;
  asked = λ k. 0;
  kept = λ k. 0;
  carried = λ m. 0;
  damaged_fully = λ m. ltb m.bytes (total weight m.slots m.size);
  good = λ m. total weight m.slots m.size ≤ m.bytes;
  over = λ m i v. reslotted m (put m.slots i (revalued (m.slots i) v));
  fill = λ m i k v. reslotted m (put m.slots i (live k v));
  free = λ m i. reslotted m (put m.slots i freed);
  wipe = λ m. reslotted m made;
}
