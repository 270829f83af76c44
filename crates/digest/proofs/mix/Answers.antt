-- `digest::mix` meets its contract, by what `times_prime` ensures.
-- Assumes nothing.
use Rattle.digest.specs.Digest.{mix_of}
use Rattle.digest.proofs.mix.Goals as goal

pub returns : goal.returns
unfolding mix_of
returns c = c.times_prime.ensures
