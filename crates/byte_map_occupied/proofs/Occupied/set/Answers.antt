-- `Occupied::set` meets its contract: a good handle's value changes, a refusal leaves all.
use Rattle.std.proofs.Common.{rules}
use Rattle.byte_map_occupied.proofs.Values.{held_inside, set_done}
use Rattle.byte_map_occupied.proofs.Occupied.set.Goals as goal

pub offset_bounds-values-slot : goal.offset_bounds-values-slot
offset_bounds-values-slot c = let a = held_inside _ _ _ c.lent.ensures c.in_ok-map.was c.value_of.ensures c.in_ok-old.was in search rules

pub bounds-values-slot : goal.bounds-values-slot
bounds-values-slot c = held_inside _ _ _ c.lent.ensures c.in_ok-map.was c.value_of.ensures c.in_ok-old.was

pub returns : goal.returns
returns c = set_done _ _ _ c.lent.ensures c.in_ok-map.was c.value_of.ensures _ c.in_ok-old.was
