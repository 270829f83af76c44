-- `byte_slots::live_marks` meets its contract: each turn of the loop is a mark more.
use Rattle.std.proofs.Common.{rules}
use Rattle.byte_slots.proofs.Lives.{count_start, count_more}
use Rattle.kinds.proofs.Scanning.{counted_low}
use Rattle.byte_slots.proofs.live_marks.Goals as goal

pub loop-i-init : goal.loop-i-init
loop-i-init c = count_start _

pub overflow_add-live : goal.overflow_add-live
overflow_add-live c = let low = c.loop-i.invariant.low in let one = counted_low _ c.count_mark-live.ensures in search rules

pub loop-i-preserved : goal.loop-i-preserved
loop-i-preserved c = count_more c.loop-i.invariant c.count_mark-live.ensures
