-- `byte_store::map_store_all` meets its contract. The loop's invariant: the pairs of the slots passed are in, and there is room for the others.
use Rattle.byte_slots.specs.Kinds.{map_memory}
use Rattle.byte_store.proofs.Turns.{Turning}
use Rattle.kinds.specs.Columns.{values}
use Rattle.std.proofs.Common.{length, ◌≡◌}
use Rattle.byte_store.proofs.map_store_all.Given as goal

abbrev pub invariant-loop-i : goal.invariant-loop-i
invariant-loop-i l = Turning values (map_memory l.initial.marks l.initial.offsets l.initial.lengths l.initial.values l.initial.arena) (map_memory l.right_marks l.right_offsets l.right_lengths l.right_values l.right_arena) (map_memory l.marks l.offsets l.lengths l.values l.arena) l.end l.i × (length l.values ≡ length l.initial.values)
