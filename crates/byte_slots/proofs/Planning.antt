-- What the plans of a byte map say, by the test of its values.
use Rattle.std.proofs.Common.{ℕ, ◌<◌, Bool, true, false, not, List, ◌≡◌, sym, ◌∙◌, arith, eqb, length, Result, Ok, Err}
use Rattle.model.specs.Calls.{no, pass, need, seen_by, spot_by, entry, remove}
use Rattle.model.specs.Store.{path}
use Rattle.model.proofs.Cases.{by_bool, clash}
use Rattle.answers.specs.declared.Refusal.TheVariants.{Sizes}
use Rattle.kinds.specs.Columns.{values}
use Rattle.byte_slots.specs.Memory.{ByteMemory, fitting, full_damage, used_of, keeping}
use Rattle.byte_slots.specs.Kinds.{maps}
use Rattle.byte_slots.specs.Probing.{path_of}
use Rattle.byte_slots.specs.Planning.{insert_plan_by, room_for, planning_kept, planning_insert, planning_map_insert, planning_remove, planning_map_remove, inserting}
use Rattle.byte_slots.proofs.Bridge.{spot_of, lost_of, short_refused, path_inside, remove_planning, entry_planning}
use Rattle.byte_slots.proofs.Plans.{kept_plan_law}
use Rattle.byte_slots.proofs.Seeking.{by_long, long_only}
use Rattle.answers.specs.declared.Refusal.{Refusal}
use Rattle.kinds.specs.declared.Probed.{Probed}
use Rattle.kinds.specs.declared.Probed.TheVariants.{Hit, Free, Full}
use Rattle.byte_slots.specs.declared.InsertPlan.{InsertPlan}
use Rattle.byte_slots.specs.declared.InsertPlan.TheVariants.{Hit, Free}
use Rattle.byte_slots.specs.declared.RemovePlan.TheVariants.{Hit}

-- a plan that found the key has its slot from the path
insert_plan_hit : {i e : ℕ} (u : ℕ) (room : Bool) (x : Result Probed Refusal) → insert_plan_by u room x ≡ Ok (Hit i e) → x ≡ Ok (Hit i e)
unfolding insert_plan_by
insert_plan_hit u room (Ok (Hit a b)) q = cc
insert_plan_hit u true (Ok (Free a b)) q = clash cc
insert_plan_hit u false (Ok (Free a b)) q = clash cc
insert_plan_hit u room (Ok (Full a)) q = clash cc
insert_plan_hit u room (Err a) q = clash cc

module _ (m : ByteMemory values) (k : List ℕ) where
  -- insert and remove by what their plans say
  entry_short : eqb (length m.spans.marks) (length m.words) ≡ false → entry maps m k ≡ no 1
  unfolding entry
  entry_short e = short_refused values m (pass (maps.kept k) (need (not (maps.damaged_fully m)) 5 (spot_by maps m k (path maps m k)))) e

  pub entry_planned : entry maps m k ≡ spot_of (values.read m.words) (planning_map_insert m k)
  unfolding planning_map_insert
  entry_planned = by_long m (planning_insert m.spans k) (Err Sizes) (spot_of (values.read m.words)) (entry maps m k) (entry_planning values m k) entry_short

  remove_short : eqb (length m.spans.marks) (length m.words) ≡ false → remove maps m k ≡ no 1
  unfolding remove
  remove_short e = short_refused values m (pass (maps.asked k) (need (not (maps.damaged_fully m)) 5 (seen_by maps m k (path maps m k)))) e

  pub remove_planned : remove maps m k ≡ lost_of (values.read m.words) (planning_map_remove m k)
  unfolding planning_map_remove
  remove_planned = by_long m (planning_remove m.spans k) (Err Sizes) (lost_of (values.read m.words)) (remove maps m k) (remove_planning values m k) remove_short

  -- a found slot is one of the table's
  plan_insert_inside : {i e : ℕ} → planning_insert m.spans k ≡ Ok (Hit i e) → i < length m.spans.marks
  unfolding planning_insert inserting planning_kept
  plan_insert_inside q = by_bool (fitting m.spans)
      (λ f.
      let (a, x) = kept_plan_law (keeping k) (rw f at q) (λ r z. clash cc) in
      by_bool (full_damage m.spans)
      (λ h. clash (cc (rw h at x)))
      (λ h. path_inside values m k f (insert_plan_hit (used_of m.spans) (room_for m.spans k) (path_of m.spans k) (rw h at x))))
      (λ f. clash (cc (rw f at q)))

  pub map_plan_insert_inside : {r : Result InsertPlan Refusal} {i e : ℕ} → r ≡ planning_map_insert m k → r ≡ Ok (Hit i e) → i < length m.words
  unfolding planning_map_insert
  map_plan_insert_inside p q =
      let (x, l) = long_only m (planning_insert m.spans k) (Err Sizes) p (λ z. clash (cc)) in
      omega (arith, plan_insert_inside (sym x ∙ q))
