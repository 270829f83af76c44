-- `byte_slots::survey` meets its contract. The loop's invariant: no mark above 2 so far, the sum and the largest end. The measure is what is left of the length.
use Rattle.std.proofs.Common.{refl, ◌∙◌}
use Rattle.byte_slots.proofs.Surveys.{survey_start, survey_bad, survey_live, survey_pass, survey_over, survey_beyond, survey_end}
use Rattle.byte_slots.proofs.survey.Goals as goal
use Rattle.byte_slots.proofs.survey.Goals.{then-state, else-state+else-state-2, then-arena-used-via-then-arena-used, then-arena-used-via-else-arena-used+then-used-top}

pub loop-i-init : goal.loop-i-init
loop-i-init c = survey_start _ c.requires

pub returns-then-state-2 : goal.returns-then-state-2
returns-then-state-2 c = survey_bad c.loop-i.invariant c.loop-i-test.true refl c.if-state-2.true c.if-state.false

pub loop-i-preserved : goal.loop-i-preserved
loop-i-preserved c =
    elim c.if-state.branch [
      | then-state w ↦ survey_live c.loop-i.invariant c.loop-i-test.true refl w.if-state.true w.len_at-len.ensures refl w.used-is (w.top-is ∙ w.higher_end-top.ensures)
      | else-state+else-state-2 w ↦ survey_pass c.loop-i.invariant c.loop-i-test.true refl w.if-state-2.false w.if-state.false w.used-is w.top-is
    ]

pub returns-then-arena-used : goal.returns-then-arena-used
returns-then-arena-used c =
    elim c.then-arena-used.branch [
      | then-arena-used-via-then-arena-used w ↦ survey_over c.loop-i.invariant c.loop-i-test.false w.if-arena-used.true
      | then-arena-used-via-else-arena-used+then-used-top w ↦ survey_beyond c.loop-i.invariant c.loop-i-test.false w.if-arena-used.false w.if-used-top.true
    ]

pub returns : goal.returns
returns c = survey_end c.loop-i.invariant c.loop-i-test.false c.if-arena-used.false c.if-used-top.false
