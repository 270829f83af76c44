-- `byte_map_union::carry_out` meets its contract: all pairs go in where the plan says so, else the refusal is told.
use Rattle.std.proofs.Common.{rules}
use Rattle.byte_map_union.proofs.Joining.{go_ready, union_done, union_refused}
use Rattle.byte_map_union.proofs.carry_out.Goals as goal

pub map_store_all-requires : goal.map_store_all-requires
map_store_all-requires c = go_ready _ _ c.requires c.in_ok-used.was

pub returns-in_err-used : goal.returns-in_err-used
returns-in_err-used c = let z = union_refused _ _ c.requires c.in_err-used.was in search rules

pub returns : goal.returns
returns c = union_done _ _ c.requires c.in_ok-used.was c.map_store_all.ensures
