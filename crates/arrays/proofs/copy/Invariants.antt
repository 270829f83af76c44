-- `arrays::copy`: the elements before i are the other's.
use Rattle.std.proofs.Common.{◌≡◌, take}
use Rattle.arrays.proofs.copy.Given as goal

abbrev pub invariant-loop-i : goal.invariant-loop-i
invariant-loop-i g l = take l.i l.to ≡ take l.i l.from
