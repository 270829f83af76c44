-- When the home slot is refused: 1 exactly when the slot count is 0 or above 4,096, then 2 exactly when the key is above the key limit,
-- and else it is answered. Assumes nothing.
use Rattle.std.proofs.Common.{◌≡◌, ℕ, ◌<◌, ◌≤◌, true, false, ◌⊎◌, ◌↔◌, List, length, inl, inr, ⊎_elim, eq-zero-or-pos, arith, lt-ltb, le-leb}
use borrow.Author.Tests.{lt-leb}
use Rattle.lists.proofs.Tests.{at_most}
use Rattle.answers.specs.declared.Refusal.TheVariants.{Sizes, LongKey}
use Rattle.digest.specs.Home.{slots_fit, key_limit, home_of, home_of_word, homed_of, homed_of_word}
use Rattle.std.specs.Prelude.{Ok, Err}

-- A slot count that the paper allows.
abbrev pub Fit : ℕ → Type 0
Fit slots = (0 < slots) × (slots ≤ 4096)

-- A slot count that it refuses.
abbrev pub Unfit : ℕ → Type 0
Unfit slots = (slots ≡ 0) ⊎ (4096 < slots)

-- A slot count that the paper allows fits.
pub slots_fit_law : (slots : ℕ) → Fit slots → slots_fit slots ≡ true
slots_fit_law slots (p, q) = rw (lt-ltb 0 slots p, le-leb slots 4096 q)

-- One that it refuses does not.
pub slots_unfit : (slots : ℕ) → Unfit slots → slots_fit slots ≡ false
slots_unfit slots (inl z) = rw z
slots_unfit slots (inr l) = rw (lt-ltb 0 slots (omega arith), lt-leb slots 4096 l)

-- Every slot count is one or the other.
pub slots_cases : (slots : ℕ) → Fit slots ⊎ Unfit slots
slots_cases slots =
    ⊎_elim (λ z. inr (inl z)) (λ p. ⊎_elim (λ q. inl (p, q)) (λ l. inr (inr l)) (at_most slots 4096)) (eq-zero-or-pos slots)

never : {A : Type 0} → ◌≡◌ {A = ℕ} 0 1 → A
never e = let z : ⊥ = omega arith in absurd z

module _ (start slots : ℕ) (bytes : List ℕ) where
  -- A slot count that does not fit: refusal 1.
  pub home_unfit : slots_fit slots ≡ false → homed_of start slots bytes ≡ Err Sizes
  unfolding homed_of
  home_unfit u = rw u

  -- One that fits, and a key above the key limit: refusal 2.
  pub home_long : slots_fit slots ≡ true → key_limit < length bytes → homed_of start slots bytes ≡ Err LongKey
  unfolding homed_of
  home_long f l = rw (f, lt-leb (length bytes) key_limit l)

  -- One that fits, and a key within it: the home slot.
  pub home_fit : slots_fit slots ≡ true → length bytes ≤ key_limit → homed_of start slots bytes ≡ Ok (home_of start slots bytes)
  unfolding homed_of
  home_fit f l = rw (f, le-leb (length bytes) key_limit l)

  cases : (P : Type 0) → (Unfit slots → P) → (Fit slots → key_limit < length bytes → P) → (Fit slots → length bytes ≤ key_limit → P) → P
  cases P f g h = ⊎_elim (λ k. ⊎_elim (h k) (g k) (at_most (length bytes) key_limit)) f (slots_cases slots)

  -- A byte key is refused 1 exactly when the slot count is 0 or above 4,096.
  pub home_refused_1 : (homed_of start slots bytes ≡ Err Sizes) ↔ Unfit slots
  home_refused_1 = (
    λ e. cases (Unfit slots) (λ u. u) (λ f l. never (cc (home_long (slots_fit_law slots f) l))) (λ f l. never (cc (home_fit (slots_fit_law slots f) l))),
    λ u. home_unfit (slots_unfit slots u),
  )

  -- It is refused 2 exactly when the slot count is right and the key is above the key limit.
  pub home_refused_2 : (homed_of start slots bytes ≡ Err LongKey) ↔ (Fit slots × key_limit < length bytes)
  home_refused_2 = (
    λ e. cases (Fit slots × key_limit < length bytes) (λ u. never (cc (home_unfit (slots_unfit slots u)))) (λ f l. (f, l)) (λ f l. never (cc (home_fit (slots_fit_law slots f) l))),
    λ (f, l). home_long (slots_fit_law slots f) l,
  )

  -- Else, and only then, it has its home slot for answer.
  pub home_answered : (homed_of start slots bytes ≡ Ok (home_of start slots bytes)) ↔ (Fit slots × length bytes ≤ key_limit)
  home_answered = (
    λ e. cases (Fit slots × length bytes ≤ key_limit) (λ u. never (cc (home_unfit (slots_unfit slots u)))) (λ f l. never (cc (home_long (slots_fit_law slots f) l))) (λ f l. (f, l)),
    λ (f, l). home_fit (slots_fit_law slots f) l,
  )

module _ (start slots x : ℕ) where
  -- A slot count that does not fit: refusal 1.
  pub word_unfit : slots_fit slots ≡ false → homed_of_word start slots x ≡ Err Sizes
  unfolding homed_of_word
  word_unfit u = rw u

  -- One that fits: the home slot.
  pub word_fit : slots_fit slots ≡ true → homed_of_word start slots x ≡ Ok (home_of_word start slots x)
  unfolding homed_of_word
  word_fit f = rw f

  -- A u64 key is refused 1 exactly when the slot count is 0 or above 4,096.
  pub home_word_refused_1 : (homed_of_word start slots x ≡ Err Sizes) ↔ Unfit slots
  home_word_refused_1 = (λ e. ⊎_elim (λ f. never (cc (word_fit (slots_fit_law slots f)))) (λ u. u) (slots_cases slots), λ u. word_unfit (slots_unfit slots u))

  -- Else, and only then, it has its home slot for answer.
  pub home_word_answered : (homed_of_word start slots x ≡ Ok (home_of_word start slots x)) ↔ Fit slots
  home_word_answered = (λ e. ⊎_elim (λ f. f) (λ u. never (cc (word_unfit (slots_unfit slots u)))) (slots_cases slots), λ f. word_fit (slots_fit_law slots f))
