-- `lines::Decimal::of` meets its contract: the loop's invariant is `Printing`, and the number still to be written falls.
-- Assumes nothing.
use Rattle.lines.proofs.Printing.{Printing}
use Rattle.lines.proofs.Decimal.of.Given as goal

abbrev pub invariant-loop-rest : goal.invariant-loop-rest
invariant-loop-rest l = Printing l.n l.digits l.from l.rest

abbrev pub decreases-loop-rest : goal.decreases-loop-rest
decreases-loop-rest l = l.rest
