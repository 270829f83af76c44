-- `int_slots::scan` meets its contract. The loop's invariant: no damage so far, and so many live. The measure is what is left of the length.
use Rattle.std.specs.Prelude.{Ok}
use Rattle.std.proofs.Common.{rules, refl, ◌∙◌, ap}
use Rattle.kinds.proofs.Scanning.{scan_start, scan_bad, scan_live, scan_other, scan_end}
use Rattle.int_slots.specs.Scanning.{scanning}
use Rattle.int_slots.proofs.scan.Goals as goal
use Rattle.int_slots.proofs.scan.Goals.{in-Live, in_default}

pub loop-i-init : goal.loop-i-init
loop-i-init c = scan_start _ _

pub returns-in_err-mark : goal.returns-in_err-mark
unfolding scanning
returns-in_err-mark c = let z = scan_bad c.loop-i.invariant c.loop-i-test.true refl c.try_from.ensures c.in_err-mark.was in search rules

pub loop-i-preserved : goal.loop-i-preserved
loop-i-preserved c = elim c.match-mark.branch [
  | in-Live w ↦ rw w.live-is (scan_live c.loop-i.invariant c.loop-i-test.true refl c.try_from.ensures (c.in_ok-mark.was ∙ ap Ok w.in-Live.is))
  | in_default w ↦ rw w.live-is (scan_other c.loop-i.invariant c.loop-i-test.true refl c.try_from.ensures c.in_ok-mark.was w.in_default.not-Live)
]

pub returns : goal.returns
unfolding scanning
returns c = scan_end c.loop-i.invariant c.loop-i-test.false
