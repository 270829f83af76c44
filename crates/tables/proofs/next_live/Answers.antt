-- `tables::next_live` meets its contract: each turn of the loop is a slot more.
use Rattle.std.specs.Prelude.{Ok}
use Rattle.std.proofs.Common.{rules, refl, ◌∙◌, ap}
use Rattle.tables.specs.Reading.{nexting}
use Rattle.tables.proofs.Scanning as turn
use Rattle.tables.proofs.next_live.Goals as goal

pub loop-slot-init : goal.loop-slot-init
unfolding nexting
loop-slot-init g c = refl

pub returns-in_err-mark : goal.returns-in_err-mark
returns-in_err-mark g c = let z = turn.next_bad _ c.loop-slot.invariant c.loop-slot-test.true c.mark.ensures c.in_err-mark.was in search rules

pub returns-in-Live : goal.returns-in-Live
returns-in-Live g c = turn.next_live _ c.loop-slot.invariant c.loop-slot-test.true c.mark.ensures (c.in_ok-mark.was ∙ ap Ok c.in-Live.is)

pub loop-slot-preserved : goal.loop-slot-preserved
loop-slot-preserved g c = turn.next_other _ c.loop-slot.invariant c.loop-slot-test.true c.mark.ensures c.in_ok-mark.was c.in_default.not-Live

pub returns : goal.returns
returns g c = turn.next_end _ c.loop-slot.invariant c.loop-slot-test.false
