-- A copy of all three arrays is what copy leaves, where both maps are of right and equal sizes.
use mathlib.Core.Bool.{true}
use mathlib.Core.List.{List}
use mathlib.Core.Path.{◌≡◌, refl}
use Prim.Native.Nat.{ℕ}
use native.Mathlib.Omega.{arith}
use lib.ListN.{length}
use Rattle.answers.specs.Numbers.{outcome_numbers}
use Rattle.arrays.specs.Whole.{copied}
use Rattle.arrays.proofs.Below.{copied_whole}
use Rattle.kinds.specs.Columns.{values}
use Rattle.kinds.specs.Told.{told}
use Rattle.kinds.specs.Calls.{copy_of}
use Rattle.kinds.proofs.Copying.{copy_sized}
use Rattle.int_slots.specs.Memory.{memory}
use Rattle.int_slots.specs.Maps.{maps, MapMemory}
use Rattle.int_slots.proofs.Lent.{sized_keys}
use Rattle.int_slots.proofs.MapSizes.{map_long}
use Rattle.std.specs.Prelude.{Ok}

pub copy_done : (m n : MapMemory) → maps.sized m ≡ true → maps.sized n ≡ true → length m.marks ≡ length n.marks → {x y z : List ℕ} → x ≡ copied m.marks n.marks → y ≡ copied m.keys n.keys → z ≡ copied m.words n.words → told (outcome_numbers (Ok tt)) (memory x y z) ≡ copy_of maps m n
copy_done m n p q e x y z =
    let i = sized_keys values m p in
    let j = sized_keys values n q in
    let k = map_long m p in
    let l = map_long n q in
    copy_sized maps m n p q e refl
    (rw (copied_whole m.marks n.marks e x, copied_whole m.keys n.keys (omega arith) y, copied_whole m.words n.words (omega arith) z))
