-- What a probing loop yields: the path's own answer, in slots, and the same path step by step as the loop takes it.
use Rattle.std.specs.Prelude.{ℕ, zero, suc, ◌+◌, Bool, true, false, cond, ltb}
use Rattle.model.specs.Slots.{Slot, never, freed, damaged, live, Keys}
use Rattle.model.specs.Path.{Find, hit, miss, damage, at}
use Rattle.answers.specs.declared.Refusal.TheVariants as refusal
use Rattle.kinds.specs.Marks.{cell}
use Rattle.std.specs.Prelude.{Result, Ok, Err}
use Rattle.answers.specs.declared.Refusal.{Refusal}
use Rattle.kinds.specs.declared.Probed.{Probed}
use Rattle.kinds.specs.declared.Probed.TheVariants.{Hit, Free, Full}
use Rattle.kinds.specs.declared.Sight.{Sight}
use Rattle.kinds.specs.declared.Sight.TheVariants.{Never, Freed, Same, Other}

-- What a slot says to the path of a key.
unfoldable pub look_at : {K W : Type 0} → Keys K → K → Slot K W → Result Sight Refusal
look_at E k never = Ok Never
look_at E k freed = Ok Freed
look_at E k damaged = Err refusal.Damaged
look_at E k (live a v) = cond (E.same k a) (Ok Same) (Ok Other)

-- The same of a slot with this mark and key.
unfoldable pub look_of : {K : Type 0} → Keys K → K → ℕ → K → Result Sight Refusal
look_of E k mark held = look_at E k (cell mark held (tt {0}))

-- The first free slot so far: f where one is known, else the slot.
unfoldable pub first_free : ℕ → ℕ → ℕ → ℕ
first_free S f slot = cond (ltb f S) f slot

-- The slot after this one, wrapping at S.
unfoldable pub next_slot : ℕ → ℕ → ℕ
next_slot S slot = cond (ltb (slot + 1) S) (slot + 1) 0

-- A path that ended without the key: the first free slot where there is one.
unfoldable pub ended : ℕ → ℕ → ℕ → Probed
ended S free e = cond (ltb free S) (Free free e) (Full e)

-- What the path found, in slots.
unfoldable pub along : {W : Type 0} → ℕ → ℕ → Find W → Result Probed Refusal
along S h (hit n v) = Ok (Hit (at S h n) (suc n))
along S h (miss e f) = cond (ltb f S) (Ok (Free (at S h f) e)) (Ok (Full e))
along S h damage = Err refusal.Damaged

-- Whether a probing that ended so missed the key.
abbrev pub missed_of : Result Probed Refusal → Bool
missed_of (Ok (Hit s e)) = false
missed_of (Ok (Free s e)) = true
missed_of (Ok (Full e)) = true
missed_of (Err r) = true

-- The slot that has the key after the insert rule, by how its probing ended: its own, or the free one that took it; S where there was none.
unfoldable pub slot_by : ℕ → Result Probed Refusal → ℕ
slot_by S (Ok (Hit s e)) = s
slot_by S (Ok (Free s e)) = s
slot_by S (Ok (Full e)) = S
slot_by S (Err r) = S

-- One slot of the loop, by the look at it: an answer, or the rest with the first free slot so far.
unfoldable pub on_sight : ℕ → ℕ → ℕ → ℕ → Result Sight Refusal → (ℕ → Result Probed Refusal) → Result Probed Refusal
on_sight S slot n free (Ok Never) rest = Ok (ended S (first_free S free slot) (suc n))
on_sight S slot n free (Ok Freed) rest = rest (first_free S free slot)
on_sight S slot n free (Ok Same) rest = Ok (Hit slot (suc n))
on_sight S slot n free (Ok Other) rest = rest free
on_sight S slot n free (Err r) rest = Err r

-- The loop from a slot on, over any marks and keys: g slots are left, n were examined.
unfoldable pub trail : {K : Type 0} → Keys K → (ℕ → ℕ) → (ℕ → K) → ℕ → K → ℕ → ℕ → ℕ → ℕ → Result Probed Refusal
trail E mark key S k zero slot n free = Ok (ended S free n)
trail E mark key S k (suc g) slot n free =
    on_sight S slot n free (look_of E k (mark slot) (key slot))
    (λ f. trail E mark key S k g (next_slot S slot) (suc n) f)
