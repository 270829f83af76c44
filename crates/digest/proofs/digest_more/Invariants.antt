-- `digest::digest_more` meets its contract. The loop's invariant: the bytes from this one on, after the state so far, give the whole digest.
-- Assumes nothing.
use Rattle.std.proofs.Common.{◌≡◌, drop}
use Rattle.digest.specs.Digest.{more_of}
use Rattle.digest.proofs.digest_more.Given as goal

abbrev pub invariant-loop-b : goal.invariant-loop-b
invariant-loop-b l = more_of l.h (drop l.b-index l.bytes) ≡ more_of l.state l.bytes
