-- `int_slots::IntSet::probe` meets its contract: the path over the arrays is the lent table's.
use Rattle.int_slots.proofs.Lent.{set_fit, set_path}
use Rattle.int_slots.proofs.IntSet.probe.Goals as goal

pub returns-clause-found : goal.returns-clause-found
returns-clause-found c = rw (← c.self.view_is) (set_path _ _ (set_fit _ c.self.invariant) c.path.ensures)

pub returns-clause-sized : goal.returns-clause-sized
returns-clause-sized c = rw (← c.self.view_is) (set_fit _ c.self.invariant)
