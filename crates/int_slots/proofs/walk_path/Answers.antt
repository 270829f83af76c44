-- `int_slots::walk_path` meets its contract. The loop's invariant: the rest of the trail, of one slot or more, gives the path's answer. The measure is how many slots are left.
use Rattle.std.specs.Prelude.{Ok}
use Rattle.std.proofs.Common.{arith, rules, refl, ◌∙◌, ap}
use Rattle.kinds.proofs.Trail.{at_home, round, on_never, on_bad, on_same, on_freed, on_other}
use Rattle.int_slots.specs.Memory.{integers}
use Rattle.int_slots.proofs.Walked.{walked_home, walked_below, walked_next, walked_last, never_free}
use Rattle.int_slots.proofs.walk_path.Goals as goal
use Rattle.int_slots.proofs.walk_path.Goals.{in-Freed, in-Other}

pub loop-free-init : goal.loop-free-init
loop-free-init c = rw (walked_home _ _ c.requires.0) (at_home integers _ _ _ _ _ c.requires.0)

pub loop-free-preserved : goal.loop-free-preserved
loop-free-preserved c =
    let l = walked_below _ _ c.requires.0 _ c.loop-free.invariant.inside in
    rw (walked_next _ _ c.requires.0 _ c.loop-free.invariant.inside c.next_slot-slot.ensures c.if-slot-home.false) (elim c.match-branch-2.branch [
      | in-Freed w ↦ on_freed c.loop-free.invariant l c.look.ensures c.next_slot-slot.ensures (c.in_ok-look.was ∙ ap Ok w.in-Freed.is) (w.free-is ∙ w.first_free-free.ensures)
      | in-Other w ↦ on_other c.loop-free.invariant l c.look.ensures c.next_slot-slot.ensures (c.in_ok-look.was ∙ ap Ok w.in-Other.is) w.free-is
    ])

pub loop-free-smaller : goal.loop-free-smaller
loop-free-smaller c =
    let l = walked_below _ _ c.requires.0 _ c.loop-free.invariant.inside in
    let e = walked_next _ _ c.requires.0 _ c.loop-free.invariant.inside c.next_slot-slot.ensures c.if-slot-home.false in
    omega (arith, l, e)

pub returns-in_err-look : goal.returns-in_err-look
returns-in_err-look c = let z = on_bad c.loop-free.invariant (walked_below _ _ c.requires.0 _ c.loop-free.invariant.inside) c.look.ensures c.in_err-look.was in search rules

pub returns-in-Never : goal.returns-in-Never
returns-in-Never c =
    let l = walked_below _ _ c.requires.0 _ c.loop-free.invariant.inside in
    on_never c.loop-free.invariant l c.look.ensures (c.in_ok-look.was ∙ ap Ok c.in-Never.is) refl (c.free_end.ensures ∙ never_free _ _ c.loop-free.invariant.inside refl)

pub returns-in-Same : goal.returns-in-Same
returns-in-Same c =
    rw c.examined.ensures (on_same c.loop-free.invariant (walked_below _ _ c.requires.0 _ c.loop-free.invariant.inside) c.look.ensures (c.in_ok-look.was ∙ ap Ok c.in-Same.is))

pub returns-then-slot-home : goal.returns-then-slot-home
returns-then-slot-home c =
    let l = walked_below _ _ c.requires.0 _ c.loop-free.invariant.inside in
    let e = walked_last _ _ c.requires.0 _ c.loop-free.invariant.inside c.next_slot-slot.ensures c.if-slot-home.true in
    elim c.match-branch-2.branch [
      | in-Freed w ↦ round (rw e at (on_freed c.loop-free.invariant l c.look.ensures refl (c.in_ok-look.was ∙ ap Ok w.in-Freed.is) (w.free-is ∙ w.first_free-free.ensures))) refl c.ended_at.ensures
      | in-Other w ↦ round (rw e at (on_other c.loop-free.invariant l c.look.ensures refl (c.in_ok-look.was ∙ ap Ok w.in-Other.is) w.free-is)) refl c.ended_at.ensures
    ]
