-- What a store owes, so that every promise about its calls follows: each write changes the slots as it should, and keeps the memory good.
use Rattle.std.specs.Prelude.{ℕ, ◌+◌, ◌≤◌, ◌<◌, true, false, ◌≡◌}
use Rattle.model.specs.Slots.{freed, live, Table, put, made, frees, look}
use Rattle.model.specs.Sound.{SoundSlots}
use Rattle.model.specs.Store.{Store, used}
use Rattle.model.specs.Finite.{Finite, Proper}

-- A write from m to n left the slots t, the sizes and the homes, and good memory.
pub record Wrote {K W : Type 0} (M : Store K W) (Good : M.State → Type 0) (m n : M.State) (t : Table K W) : Type 0 where
  pub slots : M.slots n ≡ t
  pub size : M.size n ≡ M.size m
  pub home : M.home n ≡ M.home m
  pub bytes : M.bytes n ≡ M.bytes m
  pub sized : M.sized n ≡ M.sized m
  pub good : Good n

-- The debts of a store, as its fields say.
pub record Lawful {K W : Type 0} (M : Store K W) : Type 1 where
  -- a home slot is below S
  pub homes : (m : M.State) (k : K) → M.sized m ≡ true → M.home m k < M.size m
  -- a sound memory is not refused for damage
  pub unharmed : (m : M.State) → M.sized m ≡ true → M.good m → SoundSlots (M.size m) (M.home m) (M.slots m) → M.damaged_fully m ≡ false
  -- the live keys fit the arena
  pub within : (m : M.State) → M.sized m ≡ true → M.good m → used M m ≤ M.bytes m
  -- over changes the value of a live slot, and nothing else
  pub over_wrote : (m : M.State) (i : ℕ) (k : K) (v w : W) → M.sized m ≡ true → M.good m → i < M.size m → M.slots m i ≡ live k w → Wrote M M.good m (M.over m i v) (put (M.slots m) i (live k v))
  -- fill makes a free slot live with the key and the value, where the key's bytes fit
  pub fill_wrote : (m : M.State) (i : ℕ) (k : K) (v : W) → M.sized m ≡ true → M.good m → i < M.size m → frees (M.slots m i) ≡ true → used M m + M.weight k ≤ M.bytes m → Wrote M M.good m (M.fill m i k v) (put (M.slots m) i (live k v))
  -- free gives a live slot mark 2
  pub free_wrote : (m : M.State) (i : ℕ) (k : K) (w : W) → M.sized m ≡ true → M.good m → i < M.size m → M.slots m i ≡ live k w → Wrote M M.good m (M.free m i) (put (M.slots m) i freed)
  -- wipe gives every slot mark 0
  pub wipe_wrote : (m : M.State) → M.sized m ≡ true → Wrote M M.good m (M.wipe m) made
  -- on any memory no write changes the number of slots
  pub over_size : (m : M.State) (i : ℕ) (v : W) → M.size (M.over m i v) ≡ M.size m
  pub fill_size : (m : M.State) (i : ℕ) (k : K) (v : W) → M.size (M.fill m i k v) ≡ M.size m
  pub free_size : (m : M.State) (i : ℕ) → M.size (M.free m i) ≡ M.size m
  pub wipe_size : (m : M.State) → M.size (M.wipe m) ≡ M.size m

-- What a store owes on any memory without damage: a value written over, and a key put into a free slot where its bytes fit, change the slots as they should and do no damage.
pub record Steady {K W : Type 0} (M : Store K W) : Type 0 where
  pub homes : (m : M.State) (k : K) → M.sized m ≡ true → M.home m k < M.size m
  pub room : (m : M.State) → M.sized m ≡ true → M.damaged_fully m ≡ false → used M m ≤ M.bytes m
  pub over_steady : (m : M.State) (i : ℕ) (k : K) (v w : W) → M.sized m ≡ true → M.damaged_fully m ≡ false → i < M.size m → M.slots m i ≡ live k w → Wrote M (λ n. M.damaged_fully n ≡ false) m (M.over m i v) (put (M.slots m) i (live k v))
  pub fill_steady : (m : M.State) (i : ℕ) (k : K) (v : W) → M.sized m ≡ true → M.damaged_fully m ≡ false → i < M.size m → frees (M.slots m i) ≡ true → used M m + M.weight k ≤ M.bytes m → Wrote M (λ n. M.damaged_fully n ≡ false) m (M.fill m i k v) (put (M.slots m) i (live k v))

-- A sound memory: right sizes, good, and sound slots.
pub record SoundTable {K W : Type 0} (M : Store K W) (m : M.State) : Type 0 where
  pub sized : M.sized m ≡ true
  pub good : M.good m
  pub sound : SoundSlots (M.size m) (M.home m) (M.slots m)

-- A sound memory whose live slots are the finite map f.
pub record Shows {K W : Type 0} (M : Store K W) (m : M.State) (f : Finite K W) : Type 0 where
  pub sound_table : SoundTable M m
  pub looks : (k : K) → look M.keys (M.slots m) (M.size m) k ≡ f.look k
  pub proper : Proper M.keys f
