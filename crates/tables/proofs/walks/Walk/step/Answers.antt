-- `tables::walks::Walk::step` meets its contract: what stands in the live slot that it comes upon, nothing, done, or the refusal.
use Rattle.std.proofs.Common.{arith, ◌∙◌, ap, Ok}
use Rattle.tables.specs.Handing.{numbers_of, yielded_numbers}
use Rattle.tables.proofs.Pacing.{live_slot, nothing_slot, said_live, said_nothing, said_done, said_refused}
use Rattle.tables.proofs.walks.Walk.step.Goals as goal

pub overflow_add-result : goal.overflow_add-result
overflow_add-result g c =
    let z = live_slot _ _ _ _ c.ahead.ensures.found (c.in-Ok-Live.is ∙ ap Ok c.in-Ok-Live.field-0-is) in
    omega (arith, z.before, c.ahead.ensures.sized)

pub item-requires : goal.item-requires
item-requires g c =
    let z = live_slot _ _ _ _ c.ahead.ensures.found (c.in-Ok-Live.is ∙ ap Ok c.in-Ok-Live.field-0-is) in z.before

pub overflow_add-result-in-Ok-Live : goal.overflow_add-result-in-Ok-Live
overflow_add-result-in-Ok-Live g c =
    let z = live_slot _ _ _ _ c.ahead.ensures.found (c.in-Ok-Live.is ∙ ap Ok c.in-Ok-Live.field-0-is) in
    omega (arith, z.before, c.ahead.ensures.sized)

pub overflow_sub-result : goal.overflow_sub-result
overflow_sub-result g c =
    let z = live_slot _ _ _ _ c.ahead.ensures.found (c.in-Ok-Live.is ∙ ap Ok c.in-Ok-Live.field-0-is) in
    omega (arith, z.from_there)

pub overflow_sub-result-in-Ok-Nothing : goal.overflow_sub-result-in-Ok-Nothing
overflow_sub-result-in-Ok-Nothing g c = nothing_slot _ _ _ _ c.ahead.ensures.found (c.in-Ok-Nothing.is ∙ ap Ok c.in-Ok-Nothing.field-0-is)

pub returns-in-Ok-Live : goal.returns-in-Ok-Live
unfolding numbers_of yielded_numbers
returns-in-Ok-Live g c =
    said_live _ _ _ _ c.ahead.ensures.found c.ahead.ensures.sized.0 (g.T.Table.tells (g.T.Table.state c.args.table.now)) _ (c.in-Ok-Live.is ∙ ap Ok c.in-Ok-Live.field-0-is) c.item.ensures

pub returns-in-Ok-Nothing : goal.returns-in-Ok-Nothing
unfolding numbers_of yielded_numbers
returns-in-Ok-Nothing g c =
    said_nothing _ _ _ _ c.ahead.ensures.found c.ahead.ensures.sized.0 (g.T.Table.tells (g.T.Table.state c.args.table.now)) (c.in-Ok-Nothing.is ∙ ap Ok c.in-Ok-Nothing.field-0-is)

pub returns-in-Ok-Done : goal.returns-in-Ok-Done
unfolding numbers_of yielded_numbers
returns-in-Ok-Done g c =
    said_done _ _ _ _ c.ahead.ensures.found c.ahead.ensures.sized.0 (g.T.Table.tells (g.T.Table.state c.args.table.now)) (c.in-Ok-Done.is ∙ ap Ok c.in-Ok-Done.field-0-is)

pub returns-in-Err : goal.returns-in-Err
unfolding numbers_of yielded_numbers
returns-in-Err g c =
    let (w, o, e) = c.refused.ensures in
    rw (w, o, e) (said_refused _ _ _ _ c.ahead.ensures.found c.ahead.ensures.sized.0 (g.T.Table.tells (g.T.Table.state c.args.table.now)) c.in-Err.is)
