-- What a slot holds, by the raw words of the lent lists.
use Rattle.std.specs.Prelude.{ℕ, ◌<◌, ◌≡◌}
use Rattle.model.specs.Slots.{Slot, never, freed, damaged, live}

-- Mark 0: never used. Mark 1: live with the key and the value beside it, or damaged where its span is not within the arena. Mark 2: freed. A mark above 2: damaged.
pub data SlotSays {K W : Type 0} (mark : ℕ) (Within : Type 0) (k : K) (v : W) (s : Slot K W) : Type 0 where
  mark_0 : mark ≡ 0 → s ≡ never → SlotSays mark Within k v s
  mark_1 : mark ≡ 1 → Within → s ≡ live k v → SlotSays mark Within k v s
  mark_1_past : mark ≡ 1 → (Within → ⊥) → s ≡ damaged → SlotSays mark Within k v s
  mark_2 : mark ≡ 2 → s ≡ freed → SlotSays mark Within k v s
  mark_above : 2 < mark → s ≡ damaged → SlotSays mark Within k v s
