-- `Occupied::remove_entry` meets its contract: the remove, with the key.
use Rattle.std.proofs.Common.{rules}
use Rattle.int_map_occupied.proofs.Values.{remove_entry_done, remove_entry_refused}
use Rattle.int_map_occupied.proofs.Occupied.remove_entry.Goals as goal

pub returns-in_err-remove : goal.returns-in_err-remove
returns-in_err-remove c = let z = remove_entry_refused _ _ _ _ _ c.remove.ensures c.in_err-remove.was in search rules

pub returns : goal.returns
returns c = remove_entry_done _ _ _ _ _ c.remove.ensures c.in_ok-remove.was
