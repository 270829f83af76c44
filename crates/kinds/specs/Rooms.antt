-- What reserve and union answer by what is left and what is asked for.
use Rattle.std.specs.Prelude.{ℕ, cond, leb}
use Rattle.answers.specs.declared.Refusal.TheVariants.{NoSlot, NoBytes}
use Rattle.std.specs.Prelude.{Result, Ok, Err}
use Rattle.answers.specs.declared.Refusal.{Refusal}

-- Room where so many slots and bytes suffice for n and b; else 7 for the slots, then 8 for the bytes.
unfoldable pub reserved_by : ℕ → ℕ → ℕ → ℕ → Result (Unit {0}) Refusal
reserved_by slots left n b = cond (leb n slots) (cond (leb b left) (Ok tt) (Err NoBytes)) (Err NoSlot)
