-- `byte_map_reads::get` meets its contract: the slot where the path found the key is one of the table's.
use Rattle.kinds.specs.Columns.{values}
use Rattle.byte_slots.proofs.Lookups.{hit_inside}
use Rattle.byte_map_reads.proofs.get.Goals as goal

pub value-requires : goal.value-requires
value-requires c = hit_inside values _ c.probe.ensures.sized _ c.probe.ensures.found c.in_ok-slot.was c.in-Hit.is
