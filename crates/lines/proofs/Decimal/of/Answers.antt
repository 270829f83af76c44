-- `lines::Decimal::of` meets its contract: the loop's invariant is `Printing`, and the number still to be written falls.
-- Assumes nothing.
use Rattle.lines.proofs.Printing.{starts, goes, ends}
use native.Mathlib.Omega.{arith}
use borrow.Author.Rules.{rules}
use Rattle.lines.proofs.Decimal.of.Goals as goal

pub loop-rest-init : goal.loop-rest-init
loop-rest-init c = starts _ (search rules)

pub loop-rest-preserved : goal.loop-rest-preserved
loop-rest-preserved c = goes _ _ _ _ c.loop-rest.invariant (omega arith)

pub returns : goal.returns
returns c = ends _ _ _ _ c.loop-rest.invariant (omega arith)
