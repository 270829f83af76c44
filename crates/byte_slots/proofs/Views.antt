-- What a lent view plans is what the plan over the arrays says.
use Rattle.std.proofs.Common.{List, ℕ, ◌<◌, true, false, ◌≡◌, sym, eqb, eqb-true, length, get_or, Result, Ok, Err}
use Rattle.model.proofs.Cases.{both, by_bool, clash}
use Rattle.answers.specs.declared.Refusal.{Refusal}
use Rattle.kinds.specs.Columns.{values}
use Rattle.kinds.specs.Probing.{look_at, look_of}
use Rattle.tables.specs.Reading.{lent_of}
use Rattle.tables.proofs.Calls.{lent_err, lent_ok}
use Rattle.tables.proofs.Cells.{look_beside}
use Rattle.byte_slots.specs.Keys.{byte_keys}
use Rattle.byte_slots.specs.Marks.{mark_of}
use Rattle.byte_slots.specs.Probing.{sight_at}
use Rattle.byte_slots.proofs.Marks.{slot_cell}
use Rattle.byte_slots.specs.Memory.{fitting, key_at, slots_of}
use Rattle.byte_slots.specs.Kinds.{MapMemory, SetMemory, maps, sets}
use Rattle.byte_slots.specs.Planning.{inserting, removing, planning_insert, planning_remove, planning_map_insert, planning_map_remove}
use Rattle.byte_slots.specs.Seeking.{where_long}
use Rattle.byte_slots.proofs.Planning.{map_plan_insert_inside}
use Rattle.byte_slots.specs.declared.InsertPlan.{InsertPlan}
use Rattle.byte_slots.specs.declared.InsertPlan.TheVariants.{Hit}
use Rattle.byte_slots.specs.declared.RemovePlan.{RemovePlan}

-- a set of right sizes, and what it lends
module _ (m : SetMemory) where
  fits : sets.sized m ≡ true → fitting m.spans ≡ true
  fits f = (both (fitting m.spans) true f).0

  unfit : sets.sized m ≡ false → fitting m.spans ≡ false
  unfit f = by_bool (fitting m.spans) (λ h. clash (cc (rw h at f))) (λ h. h)

  pub lent_fits : {l : Result SetMemory Refusal} {n : SetMemory} → l ≡ lent_of sets m → l ≡ Ok n → fitting m.spans ≡ true
  lent_fits l q = fits (lent_ok sets m l q).0

  module _ (k : List ℕ) where
    pub lent_insert : {l : Result SetMemory Refusal} {n : SetMemory} {r : Result InsertPlan Refusal} → l ≡ lent_of sets m → l ≡ Ok n → r ≡ inserting n.spans k → r ≡ planning_insert m.spans k
    unfolding planning_insert
    lent_insert l q p = let (f, e) = lent_ok sets m l q in rw (p, e, fits f)

    pub lent_remove : {l : Result SetMemory Refusal} {n : SetMemory} {r : Result RemovePlan Refusal} → l ≡ lent_of sets m → l ≡ Ok n → r ≡ removing n.spans k → r ≡ planning_remove m.spans k
    unfolding planning_remove
    lent_remove l q p = let (f, e) = lent_ok sets m l q in rw (p, e, fits f)

    pub unlent_insert : {l : Result SetMemory Refusal} {y : Refusal} → l ≡ lent_of sets m → l ≡ Err y → Err y ≡ planning_insert m.spans k
    unfolding planning_insert
    unlent_insert l q = let (f, e) = lent_err sets m l q in rw (unfit f, e)

    pub unlent_remove : {l : Result SetMemory Refusal} {y : Refusal} → l ≡ lent_of sets m → l ≡ Err y → Err y ≡ planning_remove m.spans k
    unfolding planning_remove
    unlent_remove l q = let (f, e) = lent_err sets m l q in rw (unfit f, e)

-- the same of a map
module _ (m : MapMemory) where
  -- its keys' part fits, and there are as many values as marks
  map_right : maps.sized m ≡ true → (fitting m.spans ≡ true) × (eqb (length m.spans.marks) (length m.words) ≡ true)
  map_right f = both (fitting m.spans) (eqb (length m.spans.marks) (length m.words)) f

  pub lent_long : {l : Result MapMemory Refusal} {n : MapMemory} → l ≡ lent_of maps m → l ≡ Ok n → (fitting m.spans ≡ true) × (length m.words ≡ length m.spans.marks)
  lent_long l q = let (a, b) = map_right (lent_ok maps m l q).0 in (a, sym (eqb-true (length m.spans.marks) (length m.words) b))

  module _ (k : List ℕ) where
    pub lent_map_insert : {l : Result MapMemory Refusal} {n : MapMemory} {r : Result InsertPlan Refusal} → l ≡ lent_of maps m → l ≡ Ok n → r ≡ inserting n.spans k → r ≡ planning_map_insert m k
    unfolding planning_map_insert planning_insert where_long
    lent_map_insert l q p = let (f, e) = lent_ok maps m l q in let (a, b) = map_right f in rw (p, e, b, a)

    -- a slot that the plan found is one of the view's
    pub lent_map_inside : {l : Result MapMemory Refusal} {n : MapMemory} {r : Result InsertPlan Refusal} {i e : ℕ} → l ≡ lent_of maps m → l ≡ Ok n → r ≡ inserting n.spans k → r ≡ Ok (Hit i e) → i < length n.spans.marks
    lent_map_inside o j p q = let (f, e) = lent_ok maps m o j in let (a, b) = lent_long o j in rw (e, ← b) (map_plan_insert_inside m k (lent_map_insert o j p) q)

    pub lent_map_remove : {l : Result MapMemory Refusal} {n : MapMemory} {r : Result RemovePlan Refusal} → l ≡ lent_of maps m → l ≡ Ok n → r ≡ removing n.spans k → r ≡ planning_map_remove m k
    unfolding planning_map_remove planning_remove where_long
    lent_map_remove l q p = let (f, e) = lent_ok maps m l q in let (a, b) = map_right f in rw (p, e, b, a)

    pub unlent_map_insert : {l : Result MapMemory Refusal} {y : Refusal} → l ≡ lent_of maps m → l ≡ Err y → Err y ≡ planning_map_insert m k
    unfolding planning_map_insert planning_insert where_long
    unlent_map_insert l q = let (f, e) = lent_err maps m l q in rw e (by_bool (eqb (length m.spans.marks) (length m.words))
        (λ b. rw b (by_bool (fitting m.spans) (λ a. clash (cc (rw (a, b) at f))) (λ a. rw a)))
        (λ b. rw b))

    pub unlent_map_remove : {l : Result MapMemory Refusal} {y : Refusal} → l ≡ lent_of maps m → l ≡ Err y → Err y ≡ planning_map_remove m k
    unfolding planning_map_remove planning_remove where_long
    unlent_map_remove l q = let (f, e) = lent_err maps m l q in rw e (by_bool (eqb (length m.spans.marks) (length m.words))
        (λ b. rw b (by_bool (fitting m.spans) (λ a. clash (cc (rw (a, b) at f))) (λ a. rw a)))
        (λ b. rw b))

  -- the look at a slot of a map is that at the keys' own arrays
  pub look_sight : (k : List ℕ) (i : ℕ) → look_at byte_keys k (slots_of m.spans (values.read m.words) i) ≡ sight_at m.spans k i
  unfolding sight_at look_of
  look_sight k i = rw (slot_cell m.spans (values.read m.words) i) (look_beside (key_at m.spans i) (get_or m.words i 0) (tt {0}) byte_keys k (mark_of m.spans i))
