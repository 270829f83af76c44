-- What C is handed for the home slot: 65,537 or 65,538 where it is refused 1 or 2, and else a slot, which is below the slot count.
-- Assumes nothing.
use mathlib.Core.Path.{◌≡◌}
use mathlib.Core.List.{List}
use Prim.Native.Nat.{ℕ, ◌%◌, ◌≤◌, ◌<◌}
use lib.ListN.{length}
use Rattle.answers.specs.Numbers.{homed_numbers}
use Rattle.digest.specs.Digest.{digest_of}
use Rattle.digest.specs.Home.{key_limit, homed_of}
use Rattle.digest.proofs.Bounds.{home_below}
use Rattle.digest.proofs.Refusals.{Fit, Unfit, home_refused_1, home_refused_2, home_answered}
use Rattle.answers.specs.Returned.{returned}

module _ (slots : ℕ) (bytes : List ℕ) where
  -- What `moss_home` hands back.
  abbrev handed : ℕ
  handed = returned (homed_numbers (homed_of 0 slots bytes))

  -- 65,537 where the slot count is 0 or above 4,096.
  pub moss_home_1 : Unfit slots → handed ≡ 65537
  moss_home_1 u = rw ((home_refused_1 0 slots bytes).1 u)

  -- 65,538 where it is right and the key is above the key limit.
  pub moss_home_2 : Fit slots → key_limit < length bytes → handed ≡ 65538
  moss_home_2 f l = rw ((home_refused_2 0 slots bytes).1 (f, l))

  -- Else the digest modulo the slot count.
  pub moss_home_slot : Fit slots → length bytes ≤ key_limit → handed ≡ digest_of bytes % slots
  moss_home_slot f l = rw ((home_answered 0 slots bytes).1 (f, l))

  -- That slot is below the slot count, so it is never taken for a refusal.
  pub moss_home_below : Fit slots → length bytes ≤ key_limit → handed < slots
  moss_home_below f l = rw ((home_answered 0 slots bytes).1 (f, l)) (home_below 0 slots bytes f.0)
