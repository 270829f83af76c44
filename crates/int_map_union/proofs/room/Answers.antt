-- `int_map_union::room` meets its contract: damage in either table, then the count of what the right needs.
use Rattle.std.proofs.Common.{rules, refl}
use Rattle.int_slots.proofs.MapSizes.{same_long}
use Rattle.int_map_union.proofs.Joining.{right_bad, room_done, room_none}
use Rattle.int_map_union.proofs.room.Goals as goal

pub returns-in_err-scan : goal.returns-in_err-scan
returns-in_err-scan c = let z = right_bad _ _ c.requires.0 c.requires.1 c.scan.ensures c.in_ok-left.was c.scan-2.ensures c.in_err-scan.was in search rules

pub table_needs-requires : goal.table_needs-requires
table_needs-requires c = (c.requires.0, (same_long _ refl c.requires.1).0)

pub returns-then-left-table_needs : goal.returns-then-left-table_needs
returns-then-left-table_needs c = room_none _ _ c.requires.0 c.requires.1 c.scan.ensures c.in_ok-left.was c.scan-2.ensures c.in_ok-scan.was c.table_needs.ensures c.if-left-table_needs.true

pub returns : goal.returns
returns c = room_done _ _ c.requires.0 c.requires.1 c.scan.ensures c.in_ok-left.was c.scan-2.ensures c.in_ok-scan.was c.table_needs.ensures c.if-left-table_needs.false
