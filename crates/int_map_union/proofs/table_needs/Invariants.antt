-- `int_map_union::table_needs` meets its contract. The loop's invariant: the needs of the slots passed.
use Rattle.int_slots.specs.Memory.{memory}
use Rattle.int_map_union.proofs.Needing.{Needing}
use Rattle.int_map_union.proofs.table_needs.Given as goal

abbrev pub invariant-loop-i : goal.invariant-loop-i
invariant-loop-i l = Needing (memory l.marks l.keys l.values) (memory l.right_marks l.right_keys l.right_values) l.sum l.i
