-- `tables::probe` meets its contract: each turn of the loop is a turn of the trail.
use Rattle.std.specs.Prelude.{Ok}
use Rattle.std.proofs.Common.{rules, refl, ◌∙◌, ap}
use Rattle.std.proofs.lemmas.Result.{err_from_is_err_and}
use Rattle.tables.proofs.Trail.{on_path, round, on_never, on_bad, on_same, on_freed, on_other}
use Rattle.tables.proofs.probe.Goals as goal
use Rattle.tables.proofs.probe.Goals.{in-Freed, in-Other}

pub loop-free-init : goal.loop-free-init
loop-free-init g c = (on_path _ _ _ c.size-size.ensures.slots c.home-slot.ensures, search rules, c.size-size.ensures.slots)

pub loop-free-preserved : goal.loop-free-preserved
loop-free-preserved g c = (
  elim c.match-branch-2.branch [
    | in-Freed w ↦ on_freed c.loop-free.invariant.0 (search rules) c.look.ensures c.next_slot-slot.ensures (c.in_ok-look.was ∙ ap Ok w.in-Freed.is) (w.free-is ∙ w.or-free.ensures)
    | in-Other w ↦ on_other c.loop-free.invariant.0 (search rules) c.look.ensures c.next_slot-slot.ensures (c.in_ok-look.was ∙ ap Ok w.in-Other.is) w.free-is
  ],
  search rules,
  c.size-size.ensures.slots,
)

pub returns-in_err-look : goal.returns-in_err-look
returns-in_err-look g c =
    let p = err_from_is_err_and c.from_residual.result c.from_residual.ensures.1 in
    record { found = rw (p.1, p.2) (on_bad c.loop-free.invariant.0 (search rules) c.look.ensures c.in_err-look.was); sized = c.size-size.ensures.sized }

pub returns-in-Never : goal.returns-in-Never
returns-in-Never g c = record { found = on_never c.loop-free.invariant.0 (search rules) c.look.ensures (c.in_ok-look.was ∙ ap Ok c.in-Never.is) c.unwrap_or.ensures; sized = c.size-size.ensures.sized }

pub returns-in-Same : goal.returns-in-Same
returns-in-Same g c = record { found = on_same c.loop-free.invariant.0 (search rules) c.look.ensures (c.in_ok-look.was ∙ ap Ok c.in-Same.is); sized = c.size-size.ensures.sized }

pub returns-then-n-size : goal.returns-then-n-size
returns-then-n-size g c = record {
  found = elim c.match-branch-2.branch [
    | in-Freed w ↦ round (on_freed c.loop-free.invariant.0 (search rules) c.look.ensures refl (c.in_ok-look.was ∙ ap Ok w.in-Freed.is) (w.free-is ∙ w.or-free.ensures)) c.if-n-size.true c.ended_at.ensures
    | in-Other w ↦ round (on_other c.loop-free.invariant.0 (search rules) c.look.ensures refl (c.in_ok-look.was ∙ ap Ok w.in-Other.is) w.free-is) c.if-n-size.true c.ended_at.ensures
  ];
  sized = c.size-size.ensures.sized;
}
