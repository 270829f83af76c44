-- Each contract of the C library settles its answer: two results that it allows are equal.
-- Assumes nothing.
use mathlib.Core.Path.{◌≡◌, sym, ◌∙◌}
use mathlib.Core.List.{List}
use Prim.Native.Nat.{ℕ}
use Rattle.answers.specs.declared.Numbers.{Numbers}
use Rattle.answers.specs.Numbers.{homed_numbers}
use Rattle.kinds.specs.Told.{ToldAndLeft, Settled, SettledWith}
use Rattle.kinds.proofs.Settled.{settled, settled_with}
use Rattle.digest.specs.Digest.{digest_of}
use Rattle.digest.specs.Home.{homed_of}
use Rattle.answers.specs.Returned.{returned}

-- `moss_digest`.
pub moss_digest_settled : (bytes : List ℕ) (r s : ℕ) → r ≡ digest_of bytes → s ≡ digest_of bytes → r ≡ s
moss_digest_settled bytes r s p q = p ∙ sym q

-- `moss_home`.
pub moss_home_settled : (slots : ℕ) (bytes : List ℕ) (r s : ℕ) → r ≡ returned (homed_numbers (homed_of 0 slots bytes))
    → s ≡ returned (homed_numbers (homed_of 0 slots bytes)) → r ≡ s
moss_home_settled slots bytes r s p q = p ∙ sym q

-- A call that answers numbers and writes nothing: whatever its definition says.
pub numbers_settled : {n : Numbers} → Settled (λ r. r) n
numbers_settled = settled (λ a b p. p)

-- A call that answers numbers and writes: the lent arrays too.
pub numbers_settled_with : {M : Type 0} {t : ToldAndLeft M} → SettledWith (λ r. r) t
numbers_settled_with = settled_with (λ a b p. p)
