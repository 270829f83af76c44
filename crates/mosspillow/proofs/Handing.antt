-- What a wrapper hands over: the callee's answer as numbers, and the memory that the callee left.
-- Assumes nothing.
use mathlib.Core.Path.{◌≡◌}
use Prim.Native.Nat.{ℕ}
use Rattle.model.specs.Calls.{Handle}
use Rattle.answers.specs.declared.Numbers.{Numbers}
use Rattle.kinds.specs.Told.{ToldAndLeft, told}

-- A call that writes: the numbers are those of the callee's answer.
pub handed : {M : Type 0} {r n : Numbers} {m : M} {t : ToldAndLeft M} → r ≡ n → told n m ≡ t → told r m ≡ t
handed p q = rw p q

-- The same where the callee takes a handle that C spells in another way.
pub handed_by : {M K : Type 0} (call : M → Handle → K → ℕ → ToldAndLeft M) {r n : Numbers} {m t : M} {h g : Handle} {k : K} {v : ℕ}
    → r ≡ n → told n m ≡ call t h k v → h ≡ g → told r m ≡ call t g k v
handed_by call p q e = rw (p, ← e) q
