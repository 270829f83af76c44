-- `byte_map_union::table_needs` meets its contract. The loop's invariant: the needs of the slots passed.
use Rattle.byte_slots.specs.Memory.{spans_of}
use Rattle.byte_map_union.proofs.Needing.{Needing}
use Rattle.byte_map_union.proofs.table_needs.Given as goal

abbrev pub invariant-loop-i : goal.invariant-loop-i
invariant-loop-i l = Needing (spans_of l.marks l.offsets l.lengths l.arena) (spans_of l.right_marks l.right_offsets l.right_lengths l.right_arena) l.slots l.bytes l.i
