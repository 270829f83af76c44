-- What C hands over in place of an entry answer.
-- Assumes nothing.
use Rattle.std.specs.Prelude.{◌≡◌, cond, ℕ, eqb}
use Rattle.model.specs.Calls.{Handle, on_occupied, on_vacant}
use Rattle.answers.specs.Cases.{OCCUPIED, VACANT}

-- The handle of a case number and a slot in a table of S slots: 12 is occupied, 13 vacant, any other number a vacant one of slot S.
unfoldable pub handle_as : ℕ → ℕ → ℕ → Handle
handle_as S case slot = cond (eqb case OCCUPIED) (on_occupied slot) (cond (eqb case VACANT) (on_vacant slot) (on_vacant S))

-- An entry answer is that handle, in a table of any size; `handle_of` says which handle an answer is.
abbrev pub Hands : {E : Type 0} → (ℕ → E → Handle) → E → ℕ → ℕ → Type 0
Hands handle_of a case slot = (S : ℕ) → handle_of S a ≡ handle_as S case slot
