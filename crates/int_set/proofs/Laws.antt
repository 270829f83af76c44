-- A copy of both arrays is what copy leaves, where both sets are of right and equal sizes.
use mathlib.Core.Bool.{true}
use mathlib.Core.List.{List}
use mathlib.Core.Path.{◌≡◌, refl}
use Prim.Native.Nat.{ℕ}
use native.Mathlib.Omega.{arith}
use lib.ListN.{length}
use Rattle.answers.specs.Numbers.{outcome_numbers}
use Rattle.arrays.specs.Whole.{copied}
use Rattle.arrays.proofs.Below.{copied_whole}
use Rattle.kinds.specs.Columns.{nothing}
use Rattle.kinds.specs.Told.{told}
use Rattle.kinds.specs.Calls.{copy_of}
use Rattle.kinds.proofs.Copying.{copy_sized}
use Rattle.int_slots.specs.Sets.{sets, SetMemory, memory}
use Rattle.int_slots.proofs.Lent.{sized_keys}
use Rattle.std.specs.Prelude.{Ok}

pub copy_done : (m n : SetMemory) → sets.sized m ≡ true → sets.sized n ≡ true → length m.marks ≡ length n.marks → {x y : List ℕ} → x ≡ copied m.marks n.marks → y ≡ copied m.keys n.keys → told (outcome_numbers (Ok tt)) (memory x y) ≡ copy_of sets m n
copy_done m n p q e x y =
    let i = sized_keys nothing m p in
    let j = sized_keys nothing n q in
    copy_sized sets m n p q e refl (rw (copied_whole m.marks n.marks e x, copied_whole m.keys n.keys (omega arith) y))
