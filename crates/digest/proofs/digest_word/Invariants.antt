-- `digest::digest_word` meets its contract. The loop's invariant: the bytes that are left, after the state so far, give the whole digest.
-- The measure is how many are left. Assumes nothing.
use Rattle.std.proofs.Common.{◌≡◌}
use Rattle.lists.specs.Bytes.{le}
use Rattle.digest.specs.Digest.{more_of, word_of}
use Rattle.digest.proofs.digest_word.Given as goal

abbrev pub invariant-loop-left : goal.invariant-loop-left
invariant-loop-left l = more_of l.h (le l.left l.rest) ≡ word_of l.start l.x

abbrev pub decreases-loop-left : goal.decreases-loop-left
decreases-loop-left l = l.left
