-- `digest::home_word` meets its contract: each return is a case of when the home slot is refused.
-- Assumes nothing.
use Rattle.std.proofs.Common.{sym, ap, ◌∙◌}
use Rattle.digest.proofs.Refusals.{word_unfit, word_fit}
use Rattle.digest.proofs.home_word.Goals as goal
use Rattle.std.specs.Prelude.{Ok}

pub returns-then-slots_fit : goal.returns-then-slots_fit
returns-then-slots_fit c =
    ap Ok c.slot_of_word.ensures
    ∙ sym (word_fit _ _ _ (sym c.slots_fit.ensures ∙ c.if-slots_fit.true))

pub returns : goal.returns
returns c = sym (word_unfit _ _ _ (sym c.slots_fit.ensures ∙ c.if-slots_fit.false))
