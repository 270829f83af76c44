-- Digests are below 2^64, and a home slot is below the slot count.
-- Assumes nothing.
use Rattle.std.proofs.Common.{ℕ, ◌*◌, ◌^◌, ◌<◌, List, [], ◌∷◌, mod-lt, lit<, pow_pos}
use lib.Bits.{bit_xor, xor_lt}
use Rattle.lists.specs.Bytes.{le}
use Rattle.digest.specs.Digest.{prime, published, start_of, mix_of, more_of, digest_of, key_digest}
use Rattle.digest.specs.Home.{home_of, home_of_word}

-- A state below 2^64 stays there, whatever the bytes.
pub more_below : (h : ℕ) (bytes : List ℕ) → h < 2 ^ 64 → more_of h bytes < 2 ^ 64
unfolding more_of mix_of
more_below h [] l = l
more_below h (b ∷ bs) l = more_below (mix_of h b) bs (mod-lt (bit_xor h b * prime) (pow_pos 64))

-- The digest of bytes.
pub digest_below : (bytes : List ℕ) → digest_of bytes < 2 ^ 64
digest_below bytes = more_below published bytes (lit< tt)

-- The digest of a key in a table whose start number is below 2^64.
pub key_digest_below : (start : ℕ) (bytes : List ℕ) → start < 2 ^ 64 → key_digest start bytes < 2 ^ 64
key_digest_below start bytes l = more_below (start_of start) bytes (xor_lt 64 start published l (lit< tt))

-- The home slot of a byte key.
pub home_below : (start slots : ℕ) (bytes : List ℕ) → 0 < slots → home_of start slots bytes < slots
home_below start slots bytes l = mod-lt (key_digest start bytes) l

-- The home slot of a u64 key.
pub home_word_below : (start slots x : ℕ) → 0 < slots → home_of_word start slots x < slots
home_word_below start slots x l = home_below start slots (le 8 x) l
