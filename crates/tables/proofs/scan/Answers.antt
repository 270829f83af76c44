-- `tables::scan` meets its contract: each turn of the loop is a slot more.
use Rattle.std.specs.Prelude.{Ok}
use Rattle.std.proofs.Common.{rules, ◌∙◌, ap}
use Rattle.tables.proofs.Scanning.{scan_start, scan_bad, scan_live, scan_other, scan_end}
use Rattle.tables.proofs.scan.Goals as goal
use Rattle.tables.proofs.scan.Goals.{in-Live, in_default}

pub loop-slot-init : goal.loop-slot-init
loop-slot-init g c = scan_start _

pub returns-in_err-mark : goal.returns-in_err-mark
returns-in_err-mark g c = let z = scan_bad g.T.Table.store (g.T.Table.state c.args.table.now) c.loop-slot.invariant (search rules) c.mark.ensures c.in_err-mark.was in search rules

pub loop-slot-preserved : goal.loop-slot-preserved
loop-slot-preserved g c = elim c.match-branch-2.branch [
  | in-Live w ↦ rw w.live-is (scan_live g.T.Table.store (g.T.Table.state c.args.table.now) c.loop-slot.invariant (search rules) c.mark.ensures (c.in_ok-mark.was ∙ ap Ok w.in-Live.is))
  | in_default w ↦ rw w.live-is (scan_other g.T.Table.store (g.T.Table.state c.args.table.now) c.loop-slot.invariant (search rules) c.mark.ensures c.in_ok-mark.was w.in_default.not-Live)
]

pub returns : goal.returns
returns g c = record { found = scan_end g.T.Table.store (g.T.Table.state c.args.table.now) c.loop-slot.invariant (search rules); sized = c.size-slot-end.ensures.sized }
