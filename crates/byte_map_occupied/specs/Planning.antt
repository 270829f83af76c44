-- The plans of the calls of occupied handles: their tests in order, then what a slot says.
use Rattle.std.specs.Prelude.{ℕ, cond, List, eqb, ltb, length, get_or}
use Rattle.answers.specs.declared.Refusal.TheVariants as refusal
use Rattle.kinds.specs.Columns.{values}
use Rattle.byte_slots.specs.Kinds.{maps}
use Rattle.byte_slots.specs.Memory.{ByteMemory, used_of, full_damage, asked_of}
use Rattle.byte_slots.specs.Probing.{sight_at}
use Rattle.kinds.specs.Calls.{sized_of}
use Rattle.std.specs.Prelude.{Result, Ok, Err}
use Rattle.answers.specs.declared.Refusal.{Refusal}
use Rattle.byte_map_occupied.specs.declared.Occupied.{Occupied}
use Rattle.kinds.specs.declared.Sight.{Sight}
use Rattle.kinds.specs.declared.Sight.TheVariants.{Never, Freed, Same, Other}

-- What an occupied handle of the slot i, with the value v in it, holds by the look at the slot.
unfoldable pub held_by : ℕ → ℕ → Result Sight Refusal → Result (ℕ × Occupied) Refusal
held_by i v (Ok Never) = Err refusal.BadHandle
held_by i v (Ok Freed) = Err refusal.BadHandle
held_by i v (Err r) = Err r
held_by i v (Ok Same) = Ok (v, (record { slot = i }))
held_by i v (Ok Other) = Err refusal.BadHandle

-- The same of any slot number: a handle of S or above is not good.
unfoldable pub value_in : ByteMemory values → ℕ → List ℕ → Result (ℕ × Occupied) Refusal
value_in m i k = cond (ltb i (length m.spans.marks)) (held_by i (get_or m.words i 0) (sight_at m.spans k i)) (Err refusal.BadHandle)

-- The plan of an occupied handle's get and set, where the sizes are right: refusal 2, then what the slot says.
unfoldable pub asking : ByteMemory values → ℕ → List ℕ → Result (ℕ × Occupied) Refusal
asking m i k = cond (eqb (asked_of k) 0) (value_in m i k) (Err refusal.LongKey)

-- The whole plan: refusal 1 first.
unfoldable pub value_for : ByteMemory values → ℕ → List ℕ → Result (ℕ × Occupied) Refusal
value_for m i k = cond (sized_of maps m) (asking m i k) (Err refusal.Sizes)

-- What a removal makes of a handle's test, where u bytes are used.
unfoldable pub removal_plan_by : ℕ → Result (ℕ × Occupied) Refusal → Result (ℕ × ℕ) Refusal
removal_plan_by u (Ok (v, h)) = Ok (v, u)
removal_plan_by u (Err r) = Err r

-- The plan of an occupied handle's removal, where the sizes are right: refusals 2 and 5, then what the slot says.
unfoldable pub taking : ByteMemory values → ℕ → List ℕ → Result (ℕ × ℕ) Refusal
taking m i k =
    cond (eqb (asked_of k) 0)
    (cond (full_damage m.spans) (Err refusal.Damaged) (removal_plan_by (used_of m.spans) (value_in m i k)))
    (Err refusal.LongKey)

-- The whole plan: refusal 1 first.
unfoldable pub planning_removal : ByteMemory values → ℕ → List ℕ → Result (ℕ × ℕ) Refusal
planning_removal m i k = cond (sized_of maps m) (taking m i k) (Err refusal.Sizes)
