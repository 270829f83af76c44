-- The base tables have start number 0: their digests begin at the published start, so a home is the plain digest modulo the slot count.
-- Assumes nothing.
use Rattle.std.proofs.Common.{◌≡◌, ℕ, ◌%◌, List, refl}
use lib.Bits.{bit_xor, xor_comm}
use Rattle.lists.specs.Bytes.{le}
use Rattle.digest.specs.Digest.{published, start_of, digest_of}
use Rattle.digest.specs.Home.{home_of, home_of_word}

-- The published start exclusive-or a table's start number, in the paper's order.
pub start_of_law : (start : ℕ) → start_of start ≡ bit_xor published start
start_of_law start = xor_comm start published

-- Start number 0 is the published start.
pub start_zero : start_of 0 ≡ published
start_zero = refl

-- The home slot of a byte key in a base table.
pub home_plain : (slots : ℕ) (bytes : List ℕ) → home_of 0 slots bytes ≡ digest_of bytes % slots
home_plain slots bytes = refl

-- The home slot of a u64 key in a base table.
pub home_word_plain : (slots x : ℕ) → home_of_word 0 slots x ≡ digest_of (le 8 x) % slots
home_word_plain slots x = refl
