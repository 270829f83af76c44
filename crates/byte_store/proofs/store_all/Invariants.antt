-- `byte_store::store_all` meets its contract. The loop's invariant: the keys of the slots passed are in, and there is room for the others.
use Rattle.byte_slots.specs.Kinds.{set_memory}
use Rattle.byte_store.proofs.Turns.{Turning}
use Rattle.kinds.specs.Columns.{nothing}
use Rattle.byte_store.proofs.store_all.Given as goal

abbrev pub invariant-loop-i : goal.invariant-loop-i
invariant-loop-i l = Turning nothing (set_memory l.initial.marks l.initial.offsets l.initial.lengths l.initial.arena) (set_memory l.right_marks l.right_offsets l.right_lengths l.right_arena) (set_memory l.marks l.offsets l.lengths l.arena) l.end l.i
