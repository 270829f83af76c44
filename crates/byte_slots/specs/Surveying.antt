-- What the survey of all slots finds: full damage, else `used`.
use Rattle.std.specs.Prelude.{ℕ, cond, ltb}
use Rattle.byte_slots.specs.Memory.{Spans, used_of, full_damage}
use Rattle.std.specs.Prelude.{Result, Ok, Err}
use Rattle.answers.specs.declared.Refusal.{Refusal}
use Rattle.answers.specs.declared.Refusal.TheVariants as refusal

-- The largest end of a live span so far, after one more.
unfoldable pub higher_end : ℕ → ℕ → ℕ
higher_end end top = cond (ltb top end) end top

-- The survey of all slots.
unfoldable pub surveying : Spans → Result ℕ Refusal
surveying s = cond (full_damage s) (Err refusal.Damaged) (Ok (used_of s))
