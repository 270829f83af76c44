-- What calls that read find in a table: a path's answer in slots, the scan, the first live slot of a stretch, and what a step comes upon.
use Rattle.std.specs.Prelude.{ℕ, ◌-◌, cond, ltb, Result, Ok, Err, Option, Some, None}
use Rattle.model.specs.Slots.{Slot, never, freed, damaged, live, Table}
use Rattle.model.specs.Path.{from}
use Rattle.model.specs.Store.{Store, path, live_count, damaged_slots}
use Rattle.model.specs.Walk.{halts}
use Rattle.answers.specs.declared.Refusal.{Refusal}
use Rattle.answers.specs.declared.Refusal.TheVariants as refusal
use Rattle.kinds.specs.declared.Mark.{Mark}
use Rattle.kinds.specs.declared.Mark.TheVariants as mark
use Rattle.kinds.specs.declared.Probed.{Probed}
use Rattle.kinds.specs.declared.Probed.TheVariants.{Free, Full}
use Rattle.kinds.specs.declared.Ahead.{Ahead}
use Rattle.kinds.specs.declared.Ahead.TheVariants.{Done}
use Rattle.kinds.specs.Probing.{along}
use Rattle.kinds.specs.Scanning.{next_at}
use Rattle.kinds.specs.Stepping.{way_of, ahead_by}

-- What the mark of a slot says.
unfoldable pub mark_in : {K W : Type 0} → Slot K W → Result Mark Refusal
mark_in never = Ok mark.Never
mark_in freed = Ok mark.Freed
mark_in damaged = Err refusal.Damaged
mark_in (live k v) = Ok mark.Live

-- A path without the key: its first free slot, where there is one.
unfoldable pub ended : Option ℕ → ℕ → Probed
ended (Some f) e = Free f e
ended None e = Full e

-- The first live or damaged slot from w on, before e.
unfoldable pub next_in : {K W : Type 0} → Table K W → ℕ → ℕ → Result (Option ℕ) Refusal
next_in t w e =
    cond (ltb (from (λ i. halts (t i)) (e - w) w) e)
    (next_at (from (λ i. halts (t i)) (e - w) w) (t (from (λ i. halts (t i)) (e - w) w)))
    (Ok None)

module _ {K W : Type 0} (M : Store K W) where
  -- What the path of a key found, in slots.
  unfoldable pub probing : M.State → K → Result Probed Refusal
  probing m k = along (M.size m) (M.home m k) (path M m k)

  -- The scan of all slots: damage, else the number of live slots.
  unfoldable pub scanning : M.State → Result ℕ Refusal
  scanning m = cond (damaged_slots M m) (Err refusal.Damaged) (Ok (live_count M m))

  -- The first live or damaged slot from w on, before e.
  unfoldable pub nexting : M.State → ℕ → ℕ → Result (Option ℕ) Refusal
  nexting m w e = next_in (M.slots m) w e

  -- What a step comes upon in its stretch.
  unfoldable pub come_upon : M.State → ℕ → Result (Option ℕ) Refusal → Result Ahead Refusal
  come_upon m w (Ok (Some e)) = ahead_by e (nexting m w e)
  come_upon m w (Ok None) = Ok Done
  come_upon m w (Err r) = Err r

  -- What a step from w with the budget b comes upon: its tests in order, then the first live slot within its reach.
  unfoldable pub coming : M.State → ℕ → ℕ → Result Ahead Refusal
  coming m w b = come_upon m w (way_of (M.size m) w b)

  -- The lent arrays as a table of right sizes, or refusal 1.
  unfoldable pub lent_of : M.State → Result M.State Refusal
  lent_of m = cond (M.sized m) (Ok m) (Err refusal.Sizes)
