-- `Entered::or_insert` meets its contract: the occupied case first, then everything else as vacant.
use Rattle.int_map_entry.proofs.Answers.{or_insert_vacant, or_insert_kept}
use Rattle.int_map_entry.proofs.Entered.or_insert.Goals as goal

pub returns-in_default : goal.returns-in_default
returns-in_default c = or_insert_vacant _ _ _ _ _ _ c.in_default.not-Occupied c.vacant.ensures c.insert.ensures

pub returns : goal.returns
returns c = or_insert_kept _ _ _ _ _ _ c.in-Occupied.is c.get.ensures c.in_ok-present.was
