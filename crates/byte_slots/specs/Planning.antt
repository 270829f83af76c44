-- The plans of insert and remove: their tests in order, then what the path says.
use Rattle.std.specs.Prelude.{ℕ, ◌-◌, Bool, cond, List, eqb, leb, length}
use Rattle.answers.specs.declared.Refusal.TheVariants as refusal
use Rattle.kinds.specs.Columns.{values}
use Rattle.byte_slots.specs.Memory.{Spans, ByteMemory, used_of, full_damage, fitting, asked_of, keeping}
use Rattle.byte_slots.specs.Probing.{path_of}
use Rattle.byte_slots.specs.Seeking.{where_long}
use Rattle.std.specs.Prelude.{Result, Ok, Err}
use Rattle.answers.specs.declared.Refusal.{Refusal}
use Rattle.kinds.specs.declared.Probed.{Probed}
use Rattle.kinds.specs.declared.Probed.TheVariants.{Hit, Free, Full}
use Rattle.byte_slots.specs.declared.InsertPlan.{InsertPlan}
use Rattle.byte_slots.specs.declared.InsertPlan.TheVariants.{Hit, Free}
use Rattle.byte_slots.specs.declared.RemovePlan.{RemovePlan}
use Rattle.byte_slots.specs.declared.RemovePlan.TheVariants.{Hit, Absent}

-- What a storing call makes of its path, where u bytes are used, and there is room for the key or not.
unfoldable pub insert_plan_by : ℕ → Bool → Result Probed Refusal → Result InsertPlan Refusal
insert_plan_by u room (Ok (Hit i e)) = Ok (Hit i e)
insert_plan_by u room (Ok (Free i e)) = cond room (Ok (Free i e u)) (Err refusal.NoBytes)
insert_plan_by u room (Ok (Full e)) = Err refusal.NoSlot
insert_plan_by u room (Err x) = Err x

-- Whether the key's bytes fit beside the used ones.
unfoldable pub room_for : Spans → List ℕ → Bool
room_for s k = leb (length k) (length s.arena - used_of s)

-- The plan of a call that stores a key that may be stored: refusal 5, then what its path says.
unfoldable pub planning_kept : Spans → List ℕ → Result InsertPlan Refusal
planning_kept s k = cond (full_damage s) (Err refusal.Damaged) (insert_plan_by (used_of s) (room_for s k) (path_of s k))

-- That plan by the test of the key: a key that may not be stored is refused by what that says.
unfoldable pub kept_plan : Result (Unit {0}) Refusal → Result InsertPlan Refusal → Result InsertPlan Refusal
kept_plan (Ok tt) p = p
kept_plan (Err x) p = Err x

-- The plan of a call that stores a key, where the sizes are right: the key's own refusal, then the rest.
unfoldable pub inserting : Spans → List ℕ → Result InsertPlan Refusal
inserting s k = kept_plan (keeping k) (planning_kept s k)

-- The whole plan: refusal 1 first.
unfoldable pub planning_insert : Spans → List ℕ → Result InsertPlan Refusal
planning_insert s k = cond (fitting s) (inserting s k) (Err refusal.Sizes)

-- What remove makes of its path, where u bytes are used.
unfoldable pub remove_plan_by : ℕ → Result Probed Refusal → Result RemovePlan Refusal
remove_plan_by u (Ok (Hit i e)) = Ok (Hit i e u)
remove_plan_by u (Ok (Free i e)) = Ok (Absent e)
remove_plan_by u (Ok (Full e)) = Ok (Absent e)
remove_plan_by u (Err x) = Err x

-- The plan of remove, where the sizes are right: refusals 2 and 5, then what its path says.
unfoldable pub removing : Spans → List ℕ → Result RemovePlan Refusal
removing s k =
    cond (eqb (asked_of k) 0)
    (cond (full_damage s) (Err refusal.Damaged) (remove_plan_by (used_of s) (path_of s k)))
    (Err refusal.LongKey)

-- The whole plan: refusal 1 first.
unfoldable pub planning_remove : Spans → List ℕ → Result RemovePlan Refusal
planning_remove s k = cond (fitting s) (removing s k) (Err refusal.Sizes)

-- The plans in a map: refusal 1 where there are not as many values as marks.
unfoldable pub planning_map_insert : ByteMemory values → List ℕ → Result InsertPlan Refusal
planning_map_insert m k = where_long m (planning_insert m.spans k) (Err refusal.Sizes)

unfoldable pub planning_map_remove : ByteMemory values → List ℕ → Result RemovePlan Refusal
planning_map_remove m k = where_long m (planning_remove m.spans k) (Err refusal.Sizes)
