-- `byte_set_reads::get` meets its contract: the slot where the path found the key is one of the table's.
use Rattle.kinds.specs.Columns.{nothing}
use Rattle.byte_slots.proofs.Lookups.{hit_inside}
use Rattle.byte_set_reads.proofs.get.Goals as goal

pub span-span-requires : goal.span-span-requires
span-span-requires c = hit_inside nothing _ c.probe.ensures.sized _ c.probe.ensures.found c.in_ok-slot.was c.in-Hit.is
