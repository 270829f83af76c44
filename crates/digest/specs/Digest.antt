-- FNV-1a, 64 bits, as its authors publish it.
-- Assumes nothing.
use Rattle.std.specs.Prelude.{ℕ, ◌*◌, ◌%◌, ◌^◌, List, [], ◌∷◌, bit_xor}
use Rattle.lists.specs.Bytes.{le}

-- The published multiplier.
abbrev pub prime : ℕ
prime = 1099511628211

-- The published start.
abbrev pub published : ℕ
published = 14695981039346656037

-- One byte more: exclusive-or it into the low byte, then multiply modulo 2^64.
unfoldable pub mix_of : ℕ → ℕ → ℕ
mix_of h b = bit_xor h b * prime % 2 ^ 64

-- The bytes after the running state h, one by one.
unfoldable pub more_of : ℕ → List ℕ → ℕ
more_of h [] = h
more_of h (b ∷ bs) = more_of (mix_of h b) bs

-- The digest of bytes, from the published start.
abbrev pub digest_of : List ℕ → ℕ
digest_of bytes = more_of published bytes

-- Where the digests of a table begin: the published start exclusive-or the table's start number.
abbrev pub start_of : ℕ → ℕ
start_of start = bit_xor start published

-- The digest of a key's bytes in a table with this start number.
abbrev pub key_digest : ℕ → List ℕ → ℕ
key_digest start bytes = more_of (start_of start) bytes

-- The digest of a u64 key in such a table: of its 8 bytes, low byte first.
abbrev pub word_of : ℕ → ℕ → ℕ
word_of start x = key_digest start (le 8 x)
