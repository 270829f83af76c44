-- What the test of an integer set's sizes says.
use Prim.Native.Nat.{ℕ}
use mathlib.Core.Bool.{Bool, true, false}
use mathlib.Core.List.{List}
use mathlib.Core.Path.{◌≡◌, sym, ◌∙◌}
use lib.ListN.{length}
use Rattle.model.proofs.Cases.{by_bool}
use Rattle.kinds.specs.Columns.{nothing}
use Rattle.kinds.specs.Calls.{sized_of}
use Rattle.kinds.proofs.Sizing.{sized_as}
use Rattle.int_slots.specs.Memory.{fitting}
use Rattle.int_slots.specs.Sets.{sets, memory}
use Rattle.int_slots.proofs.Sizes.{fitting_says}
use Rattle.int_slots.proofs.Bridge.{sized_is}

module _ (marks keys : List ℕ) {b : Bool} (p : b ≡ fitting marks keys) where
  pub fits_sized : b ≡ sized_of sets (memory marks keys)
  unfolding sized_of
  fits_sized = rw (p, sized_is nothing (memory marks keys)) (by_bool (fitting marks keys) (λ f. rw f) (λ f. rw f))

  pub fit : b ≡ true → sets.sized (memory marks keys) ≡ true
  fit q = sized_as sets (memory marks keys) fits_sized q

  pub unfit : b ≡ false → sets.sized (memory marks keys) ≡ false
  unfit q = sized_as sets (memory marks keys) fits_sized q

  -- there are as many keys as marks
  pub same_long : b ≡ true → length keys ≡ length marks
  same_long q = (fitting_says marks keys (sym p ∙ q)).1
