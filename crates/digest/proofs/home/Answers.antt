-- `digest::home` meets its contract: each return is a case of when the home slot is refused.
-- Assumes nothing.
use Rattle.std.proofs.Common.{sym, ap, ◌∙◌}
use Rattle.digest.proofs.Refusals.{home_unfit, home_long, home_fit}
use Rattle.digest.proofs.home.Goals as goal
use Rattle.std.specs.Prelude.{Ok}

pub returns-then-bytes-le-KEY_LIMIT : goal.returns-then-bytes-le-KEY_LIMIT
returns-then-bytes-le-KEY_LIMIT c =
    ap Ok c.slot_of_key.ensures
    ∙ sym
    (home_fit _ _ _ (sym c.slots_fit.ensures ∙ c.if-slots_fit.true)
    c.if-bytes-le-KEY_LIMIT.true)

pub returns-then-slots_fit : goal.returns-then-slots_fit
returns-then-slots_fit c = sym (home_long _ _ _ (sym c.slots_fit.ensures ∙ c.if-slots_fit.true) c.if-bytes-le-KEY_LIMIT.false)

pub returns : goal.returns
returns c = sym (home_unfit _ _ _ (sym c.slots_fit.ensures ∙ c.if-slots_fit.false))
