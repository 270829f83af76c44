-- What a byte map answers where there are as many values as marks, and the probing of a key in it: refusal 1 where there are not.
use Rattle.std.specs.Prelude.{ℕ, cond, List, length}
use Rattle.answers.specs.declared.Refusal.TheVariants.{Sizes}
use Rattle.kinds.specs.Columns.{values}
use Rattle.byte_slots.specs.Memory.{ByteMemory}
use Rattle.byte_slots.specs.Probing.{probing}
use Rattle.std.specs.Prelude.{Result, Err}
use Rattle.answers.specs.declared.Refusal.{Refusal}
use Rattle.kinds.specs.declared.Probed.{Probed}

-- The first answer where there are as many values as marks, else the second.
unfoldable pub where_long : {A : Type 0} → ByteMemory values → A → A → A
where_long m a n = cond (values.long m.words (length m.spans.marks)) a n

-- The probing of a key.
unfoldable pub probing_map : ByteMemory values → List ℕ → Result Probed Refusal
probing_map m k = where_long m (probing m.spans k) (Err Sizes)
