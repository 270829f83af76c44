-- `int_store::map_store_all` meets its contract. The loop's invariant: the pairs of the slots passed are in.
use Rattle.int_slots.specs.Memory.{memory}
use Rattle.int_store.proofs.Storing.{Storing}
use Rattle.kinds.specs.Columns.{values}
use Rattle.int_store.proofs.map_store_all.Given as goal

abbrev pub invariant-loop-i : goal.invariant-loop-i
invariant-loop-i l = Storing values (memory l.initial.marks l.initial.keys l.initial.values) (memory l.right_marks l.right_keys l.right_values) (memory l.marks l.keys l.values) l.i
