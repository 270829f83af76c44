-- What the scan of all slots finds, and what stands first in a stretch of slots, by the marks.
use Rattle.std.specs.Prelude.{ℕ, ◌-◌, cond, ltb}
use Rattle.model.specs.Slots.{Slot, never, freed, damaged, live, any_damaged, count}
use Rattle.model.specs.Path.{from}
use Rattle.model.specs.Walk.{halts}
use Rattle.kinds.specs.Marks.{marks_only}
use Rattle.std.specs.Prelude.{Result, Ok, Err, Option, Some, None}
use Rattle.answers.specs.declared.Refusal.{Refusal}
use Rattle.answers.specs.declared.Refusal.TheVariants as refusal

-- The scan of S slots: damage, else the number of live slots.
unfoldable pub scanning_of : (ℕ → ℕ) → ℕ → Result ℕ Refusal
scanning_of mark S = cond (any_damaged (marks_only mark) S) (Err refusal.Damaged) (Ok (count (marks_only mark) S))

-- What the slot j at which a stretch stopped holds.
unfoldable pub next_at : {K W : Type 0} → ℕ → Slot K W → Result (Option ℕ) Refusal
next_at j never = Ok None
next_at j freed = Ok None
next_at j damaged = Err refusal.Damaged
next_at j (live a v) = Ok (Some j)

-- The first live or damaged slot from w on, before e.
unfoldable pub nexting_of : (ℕ → ℕ) → ℕ → ℕ → Result (Option ℕ) Refusal
nexting_of mark w e =
    cond (ltb (from (λ i. halts (marks_only mark i)) (e - w) w) e)
    (next_at (from (λ i. halts (marks_only mark i)) (e - w) w) (marks_only mark (from (λ i. halts (marks_only mark i)) (e - w) w)))
    (Ok None)
