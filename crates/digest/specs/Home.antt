-- The home slot of a key, and what the two calls that ask for it answer.
-- Assumes nothing.
use Rattle.std.specs.Prelude.{ℕ, ◌%◌, Bool, cond, ◌&&◌, List, length, nat_le, nat_lt}
use Rattle.answers.specs.declared.Refusal.TheVariants.{Sizes, LongKey}
use Rattle.digest.specs.Digest.{key_digest, word_of}
use Rattle.std.specs.Prelude.{Result, Ok, Err}
use Rattle.answers.specs.declared.Refusal.{Refusal}

-- The most slots that a table has.
abbrev pub slot_limit : ℕ
slot_limit = 4096

-- The most bytes that a key has.
abbrev pub key_limit : ℕ
key_limit = 255

-- The slot of a digest among this many slots.
abbrev pub slot_of : ℕ → ℕ → ℕ
slot_of digest slots = digest % slots

-- The home slot of a byte key.
abbrev pub home_of : ℕ → ℕ → List ℕ → ℕ
home_of start slots bytes = slot_of (key_digest start bytes) slots

-- The home slot of a u64 key.
abbrev pub home_of_word : ℕ → ℕ → ℕ → ℕ
home_of_word start slots x = slot_of (word_of start x) slots

-- Whether a table may have this many slots.
abbrev pub slots_fit : ℕ → Bool
slots_fit slots = nat_lt 0 slots && nat_le slots slot_limit

-- Whether a key may have this many bytes.
abbrev pub key_fits : ℕ → Bool
key_fits size = nat_le size key_limit

-- What is answered for a byte key: first refusal 1, then refusal 2, else the slot.
unfoldable pub homed_of : ℕ → ℕ → List ℕ → Result ℕ Refusal
homed_of start slots bytes =
    cond (slots_fit slots)
    (cond (key_fits (length bytes)) (Ok (home_of start slots bytes)) (Err LongKey))
    (Err Sizes)

-- What is answered for a u64 key: refusal 1, else the slot.
unfoldable pub homed_of_word : ℕ → ℕ → ℕ → Result ℕ Refusal
homed_of_word start slots x = cond (slots_fit slots) (Ok (home_of_word start slots x)) (Err Sizes)
