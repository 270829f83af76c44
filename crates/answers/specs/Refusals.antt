-- The paper's numbers of the refusals: the one place where they are named.
-- Assumes nothing.
use Rattle.std.specs.Prelude.{ℕ}
use Rattle.answers.specs.declared.Refusal.{Refusal}
use Rattle.answers.specs.declared.Refusal.TheVariants.{Sizes, LongKey, NoBudget, WalkBeyond, Damaged, BadHandle, NoSlot, NoBytes}

-- The number that the paper gives a refusal.
abbrev pub number_of : Refusal → ℕ
number_of Sizes = 1
number_of LongKey = 2
number_of NoBudget = 3
number_of WalkBeyond = 4
number_of Damaged = 5
number_of BadHandle = 6
number_of NoSlot = 7
number_of NoBytes = 8
