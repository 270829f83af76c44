-- The one word that C is handed for an answer that is a slot or a refusal.
-- Assumes nothing.
use Rattle.std.specs.Prelude.{cond, ℕ, ◌+◌, eqb}
use Rattle.answers.specs.declared.Numbers.{Numbers}

-- The slot, or 65,536 plus the number of the refusal.
abbrev pub returned : Numbers → ℕ
returned n = cond (eqb n.refusal 0) n.slot (65536 + n.refusal)
