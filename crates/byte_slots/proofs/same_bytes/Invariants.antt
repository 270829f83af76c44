-- `byte_slots::same_bytes` meets its contract. The loop's invariant: of one length, and equal so far. The measure is what is left of the length.
use Rattle.std.proofs.Common.{◌-◌, length}
use Rattle.byte_slots.proofs.Equal.{Alike}
use Rattle.byte_slots.proofs.same_bytes.Given as goal

abbrev pub invariant-loop-i : goal.invariant-loop-i
invariant-loop-i l = Alike l.a l.b l.i

abbrev pub decreases-loop-i : goal.decreases-loop-i
decreases-loop-i l = length l.a - l.i
