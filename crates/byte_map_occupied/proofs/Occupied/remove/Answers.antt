-- `Occupied::remove` meets its contract: a good handle's slot is freed, a refusal leaves all.
use Rattle.std.proofs.Common.{rules}
use Rattle.byte_map_occupied.proofs.Removals.{removal_freeable, removal_inside, remove_done}
use Rattle.byte_map_occupied.proofs.Occupied.remove.Goals as goal

pub offset_bounds-values-slot : goal.offset_bounds-values-slot
offset_bounds-values-slot c = let a = removal_inside _ _ _ c.lent.ensures c.in_ok-map.was c.plan_removal.ensures c.in_ok-old.was in search rules

pub bounds-values-slot : goal.bounds-values-slot
bounds-values-slot c = removal_inside _ _ _ c.lent.ensures c.in_ok-map.was c.plan_removal.ensures c.in_ok-old.was

pub free-requires : goal.free-requires
free-requires c = removal_freeable _ _ _ c.lent.ensures c.in_ok-map.was c.plan_removal.ensures c.in_ok-old.was

pub returns : goal.returns
returns c = remove_done _ _ _ c.lent.ensures c.in_ok-map.was c.plan_removal.ensures c.in_ok-old.was c.free.ensures
