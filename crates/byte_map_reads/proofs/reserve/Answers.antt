-- `byte_map_reads::reserve` meets its contract: refusal 1 where the values do not fit, else what the set of the keys tells.
use Rattle.std.proofs.Common.{rules, ◌∙◌}
use Rattle.byte_map_reads.proofs.Laws.{reserve_as_set, reserve_short}
use Rattle.byte_map_reads.proofs.reserve.Goals as goal

pub returns-then-marks-values : goal.returns-then-marks-values
returns-then-marks-values c = reserve_short _ c.if-marks-values.true _ _

pub returns : goal.returns
returns c = (search rules) ∙ reserve_as_set _ c.if-marks-values.false _ _
