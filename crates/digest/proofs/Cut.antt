-- The digest depends on the joined bytes alone: wherever they are cut, the second part goes on from the digest of the first.
-- Assumes nothing.
use Rattle.std.proofs.Common.{◌≡◌, ℕ, List, [], ◌∷◌, ◌++◌, refl}
use Rattle.digest.specs.Digest.{published, mix_of, more_of, digest_of}

-- From any state.
pub more_append : (h : ℕ) (xs ys : List ℕ) → more_of h (xs ++ ys) ≡ more_of (more_of h xs) ys
unfolding more_of
more_append h [] ys = refl
more_append h (x ∷ xs) ys = more_append (mix_of h x) xs ys

-- From the published start.
pub digest_append : (xs ys : List ℕ) → digest_of (xs ++ ys) ≡ more_of (digest_of xs) ys
digest_append xs ys = more_append published xs ys
