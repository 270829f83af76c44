-- `int_store::store_all` meets its contract. The loop's invariant: the keys of the slots passed are in.
use Rattle.int_slots.specs.Sets.{memory}
use Rattle.int_store.proofs.Storing.{Storing}
use Rattle.kinds.specs.Columns.{nothing}
use Rattle.int_store.proofs.store_all.Given as goal

abbrev pub invariant-loop-i : goal.invariant-loop-i
invariant-loop-i l = Storing nothing (memory l.initial.marks l.initial.keys) (memory l.right_marks l.right_keys) (memory l.marks l.keys) l.i
