-- `digest::digest_word` meets its contract. The loop's invariant: the bytes that are left, after the state so far, give the whole digest.
-- The measure is how many are left. Assumes nothing.
use Rattle.std.proofs.Common.{◌∙◌, rules}
use Rattle.digest.proofs.Steps.{word_turn, word_end}
use Rattle.digest.proofs.digest_word.Goals as goal

pub loop-left-preserved : goal.loop-left-preserved
loop-left-preserved c = word_turn _ _ _ _ (search rules) c.mix-h.ensures ∙ c.loop-left.invariant

pub returns : goal.returns
returns c = word_end _ _ _ _ (search rules) c.loop-left.invariant
