-- `Entered::insert_entry` meets its contract: the occupied case first, then everything else as vacant.
use Rattle.std.proofs.Common.{rules}
use Rattle.int_map_entry.proofs.Answers.{insert_entry_vacant, insert_entry_set, insert_entry_refused}
use Rattle.int_map_entry.proofs.Entered.insert_entry.Goals as goal

pub returns-in_default : goal.returns-in_default
returns-in_default c = insert_entry_vacant _ _ _ _ _ _ c.in_default.not-Occupied c.vacant.ensures c.insert.ensures

pub returns-in_err-set : goal.returns-in_err-set
returns-in_err-set c = let z = insert_entry_refused _ _ _ _ _ _ c.in-Occupied.is c.set.ensures c.in_err-set.was in search rules

pub returns : goal.returns
returns c = insert_entry_set _ _ _ _ _ _ c.in-Occupied.is c.set.ensures c.in_ok-set.was
