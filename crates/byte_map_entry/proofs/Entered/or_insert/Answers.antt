-- `Entered::or_insert` meets its contract: the occupied case first, then everything else as vacant.
use Rattle.std.proofs.Common.{rules}
use Rattle.byte_map_entry.proofs.Answers.{or_insert_vacant, or_insert_kept, or_insert_refused}
use Rattle.byte_map_entry.proofs.Entered.or_insert.Goals as goal

pub returns-in_default : goal.returns-in_default
returns-in_default c = or_insert_vacant _ _ _ _ c.in_default.not-Occupied c.vacant.ensures c.insert.ensures

pub returns-in_err-present : goal.returns-in_err-present
returns-in_err-present c = let z = or_insert_refused _ _ c.args.default _ c.in-Occupied.is c.get.ensures c.in_err-present.was in search rules

pub returns : goal.returns
returns c = or_insert_kept _ _ _ _ c.in-Occupied.is c.get.ensures c.in_ok-present.was
