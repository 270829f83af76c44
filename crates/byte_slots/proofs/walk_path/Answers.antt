-- `byte_slots::walk_path` meets its contract. The loop's invariant: the rest of the trail gives the path's answer. The measure is how many slots are left.
use Rattle.std.proofs.Common.{Ok, rules, ◌∙◌, ap}
use Rattle.kinds.proofs.Trail.{at_home, round, on_never, on_bad, on_same, on_freed, on_other}
use Rattle.byte_slots.specs.Keys.{byte_keys}
use Rattle.byte_slots.specs.Probing.{sight_at, path_from}
use Rattle.byte_slots.proofs.walk_path.Goals as goal
use Rattle.byte_slots.proofs.walk_path.Goals.{in-Freed, in-Other}

pub loop-n-init : goal.loop-n-init
unfolding path_from
loop-n-init c = at_home byte_keys _ _ _ _ _ c.requires.0

pub loop-n-preserved : goal.loop-n-preserved
unfolding sight_at
loop-n-preserved c =
    elim c.match-branch-2.branch [
      | in-Freed w ↦ on_freed c.loop-n.invariant (search rules) c.look.ensures c.next_slot-slot.ensures (c.in_ok-look.was ∙ ap Ok w.in-Freed.is) (w.free-is ∙ w.first_free-free.ensures)
      | in-Other w ↦ on_other c.loop-n.invariant (search rules) c.look.ensures c.next_slot-slot.ensures (c.in_ok-look.was ∙ ap Ok w.in-Other.is) w.free-is
    ]

pub returns-in_err-look : goal.returns-in_err-look
unfolding sight_at
returns-in_err-look c = let z = on_bad c.loop-n.invariant (search rules) c.look.ensures c.in_err-look.was in search rules

pub returns-then-n-size : goal.returns-then-n-size
returns-then-n-size c = round c.loop-n.invariant c.if-n-size.true c.ended_at.ensures

pub returns-in-Never : goal.returns-in-Never
unfolding sight_at
returns-in-Never c = on_never c.loop-n.invariant (search rules) c.look.ensures (c.in_ok-look.was ∙ ap Ok c.in-Never.is) c.first_free.ensures c.ended_at-in-Never.ensures

pub returns-in-Same : goal.returns-in-Same
unfolding sight_at
returns-in-Same c = on_same c.loop-n.invariant (search rules) c.look.ensures (c.in_ok-look.was ∙ ap Ok c.in-Same.is)
