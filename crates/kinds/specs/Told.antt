-- What a call tells and leaves, and what it means that a contract settles both.
use Rattle.std.specs.Prelude.{◌≡◌}
use Rattle.answers.specs.declared.Numbers.{Numbers}

-- What a call tells, and the memory after it.
pub record ToldAndLeft (M : Type 0) : Type 0 where
  pub numbers : Numbers
  pub memory : M

abbrev pub told : {M : Type 0} → Numbers → M → ToldAndLeft M
told n m = record { numbers = n; memory = m }

-- Two answers of a call that reads coincide where both tell n.
abbrev pub Settled : {A : Type 0} → (A → Numbers) → Numbers → Type 0
Settled {A} f n = (r s : A) → f r ≡ n → f s ≡ n → r ≡ s

-- Two results of a call that writes, answer and memory, coincide where both are t.
abbrev pub SettledWith : {A M : Type 0} → (A → Numbers) → ToldAndLeft M → Type 0
SettledWith {A} {M} f t = (r s : A) (m n : M) → told (f r) m ≡ t → told (f s) n ≡ t → (r ≡ s) × (m ≡ n)
