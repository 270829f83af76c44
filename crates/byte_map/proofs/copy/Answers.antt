-- `byte_map::copy` meets its contract: other sizes are refused, and of equal sizes every array is copied whole.
use Rattle.std.proofs.Common.{rules}
use Rattle.byte_slots.specs.Kinds.{maps}
use Rattle.kinds.proofs.Copying.{copy_arena}
use Rattle.tables.proofs.Lent.{copy_slots_unlike}
use Rattle.byte_map.proofs.Laws.{copy_done}
use Rattle.byte_map.proofs.copy.Goals as goal
use Rattle.byte_map.proofs.copy.Goals.{then-to_marks-size-via-then-to_marks-size, then-to_marks-size-via-else-to_marks-size+then-to_arena-arena}

pub returns-then-to_marks-size : goal.returns-then-to_marks-size
returns-then-to_marks-size c = elim c.then-to_marks-size.branch [
  | then-to_marks-size-via-then-to_marks-size w ↦ copy_slots_unlike maps _ c.lent.ensures _ c.in_ok-lent.was c.lent-2.ensures c.in_ok-from.was c.size.ensures.slots (search rules)
  | then-to_marks-size-via-else-to_marks-size+then-to_arena-arena w ↦ copy_arena maps _ _ (search rules)
]

pub returns : goal.returns
returns c = copy_done _ _ c.lent.ensures c.in_ok-lent.was c.lent-2.ensures c.in_ok-from.was c.size.ensures.slots (search rules) (search rules) (search rules) (search rules) (search rules) (search rules) (search rules)
