-- Each contract settles its answer: two results that it allows are equal.
-- Assumes nothing.
use Rattle.std.proofs.Common.{◌≡◌, ℕ, Bool, List, sym, ◌∙◌}
use Rattle.digest.specs.Digest.{more_of, digest_of, key_digest, word_of}
use Rattle.digest.specs.Home.{slot_of, home_of, home_of_word, slots_fit, homed_of, homed_of_word}
use Rattle.std.specs.Prelude.{Result}
use Rattle.answers.specs.declared.Refusal.{Refusal}

settled : {A : Type 0} {r s d : A} → r ≡ d → s ≡ d → r ≡ s
settled p q = p ∙ sym q

-- `digest_more`.
pub digest_more_settled : (state : ℕ) (bytes : List ℕ) (r s : ℕ) → r ≡ more_of state bytes → s ≡ more_of state bytes → r ≡ s
digest_more_settled state bytes r s = settled

-- `digest`.
pub digest_settled : (bytes : List ℕ) (r s : ℕ) → r ≡ digest_of bytes → s ≡ digest_of bytes → r ≡ s
digest_settled bytes r s = settled

-- `digest_key`.
pub digest_key_settled : (start : ℕ) (bytes : List ℕ) (r s : ℕ) → r ≡ key_digest start bytes → s ≡ key_digest start bytes → r ≡ s
digest_key_settled start bytes r s = settled

-- `digest_word`.
pub digest_word_settled : (start x r s : ℕ) → r ≡ word_of start x → s ≡ word_of start x → r ≡ s
digest_word_settled start x r s = settled

-- `slot_of`.
pub slot_of_settled : (digest slots r s : ℕ) → r ≡ slot_of digest slots → s ≡ slot_of digest slots → r ≡ s
slot_of_settled digest slots r s = settled

-- `slot_of_key`.
pub slot_of_key_settled : (start slots : ℕ) (bytes : List ℕ) (r s : ℕ)
    → r ≡ home_of start slots bytes → s ≡ home_of start slots bytes → r ≡ s
slot_of_key_settled start slots bytes r s = settled

-- `slot_of_word`.
pub slot_of_word_settled : (start slots x r s : ℕ) → r ≡ home_of_word start slots x → s ≡ home_of_word start slots x → r ≡ s
slot_of_word_settled start slots x r s = settled

-- `slots_fit`.
pub slots_fit_settled : (slots : ℕ) (r s : Bool) → r ≡ slots_fit slots → s ≡ slots_fit slots → r ≡ s
slots_fit_settled slots r s = settled

-- `home`.
pub home_settled : (start slots : ℕ) (bytes : List ℕ) (r s : Result ℕ Refusal)
    → r ≡ homed_of start slots bytes → s ≡ homed_of start slots bytes → r ≡ s
home_settled start slots bytes r s = settled

-- `home_word`.
pub home_word_settled : (start slots x : ℕ) (r s : Result ℕ Refusal)
    → r ≡ homed_of_word start slots x → s ≡ homed_of_word start slots x → r ≡ s
home_word_settled start slots x r s = settled
