-- `byte_store::map_store` meets its contract: the set's rule, then the value in the key's slot.
use Rattle.byte_store.proofs.Storing.{map_store_there, map_store_none}
use Rattle.byte_store.proofs.map_store.Goals as goal

pub returns-then-slot-values : goal.returns-then-slot-values
returns-then-slot-values c = map_store_there _ _ _ c.requires.0 c.requires.1 c.store-slot.ensures

pub returns-else-slot-values : goal.returns-else-slot-values
returns-else-slot-values c = map_store_none _ _ _ c.requires.0 c.requires.1 c.store-slot.ensures c.if-slot-values.false
