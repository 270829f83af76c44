-- The union's tests one after the other, and what it tells and leaves by them.
use Prim.Native.Nat.{ℕ, zero, suc, ◌-◌, ◌≤◌, ◌<◌}
use mathlib.Core.Bool.{Bool, true, false, cond}
use mathlib.Core.List.{List}
use mathlib.Core.Path.{◌≡◌, refl, sym, ◌∙◌, ap}
use native.Mathlib.Omega.{arith}
use borrow.Author.Tests.{le-leb, lt-leb}
use lib.ListN.{length}
use Rattle.model.specs.Slots.{Slot, never, freed, damaged, live, Table, weigh, total}
use Rattle.model.specs.Store.{used}
use Rattle.model.specs.Calls.{Or, no, ok, need, pass, lacking, needs, any_damage, union, acted, after_union}
use Rattle.model.proofs.Cases.{by_bool, clash}
use Rattle.answers.proofs.Told.{other_case}
use Rattle.answers.specs.declared.Refusal.{Refusal}
use Rattle.answers.specs.declared.Refusal.TheVariants.{Sizes, NoSlot}
use Rattle.answers.specs.Refusals.{number_of}
use Rattle.answers.specs.Numbers.{outcome_numbers}
use Rattle.answers.specs.Said.{done_said}
use Rattle.kinds.specs.Columns.{values}
use Rattle.int_slots.specs.Memory.{IntMemory, memory}
use Rattle.int_slots.specs.Scanning.{scanning}
use Rattle.int_slots.proofs.Bridge.{scan_refused, scan_live}
use Rattle.int_slots.specs.Maps.{maps}
use Rattle.kinds.specs.Stores.{all_stored}
use Rattle.kinds.specs.Told.{told}
use Rattle.int_map_union.specs.Calls.{plan_of, table_needs}
use Rattle.kinds.specs.Calls.{sized_of, union_of}
use Rattle.int_slots.proofs.MapSizes.{same_long}
use Rattle.std.specs.Prelude.{Result, Ok, Err}

-- keys take no arena bytes
weightless : (g : ℕ → ℕ) → ((k : ℕ) → g k ≡ 0) → (t : Table ℕ ℕ) (n : ℕ) → total g t n ≡ 0
unfolding total weigh
weightless g z t zero = refl
weightless g z t (suc n) = omega (arith, weightless g z t n, none (t n))
  where
    none : (s : Slot ℕ ℕ) → weigh g s ≡ 0
    none never = refl
    none freed = refl
    none damaged = refl
    none (live a v) = z a

module _ (l r : IntMemory values) where
  no_bytes : needs maps maps.weight l r ≡ 0
  unfolding needs
  no_bytes = weightless (λ k. cond (lacking maps l k) 0 0) (λ k. by_bool (lacking maps l k) (λ t. rw t) (λ t. rw t)) (maps.slots r) (length r.marks)

  -- sizes
  pub left_unfit : {b : Bool} → b ≡ sized_of maps l → b ≡ false → outcome_numbers (Err Sizes) ≡ plan_of l r
  unfolding plan_of union need pass sized_of done_said outcome_numbers
  left_unfit p q = rw (sym p ∙ q)

  pub right_unfit : {b c : Bool} → b ≡ sized_of maps l → b ≡ true → c ≡ sized_of maps r → c ≡ false → outcome_numbers (Err Sizes) ≡ plan_of l r
  unfolding plan_of union need pass sized_of done_said outcome_numbers
  right_unfit p q s t = rw (sym p ∙ q, sym s ∙ t)

  module _ (f : sized_of maps l ≡ true) (g : sized_of maps r ≡ true) where
    -- damage in the left
    pub left_bad : {x : Result ℕ Refusal} {e : Refusal} → x ≡ scanning l.marks → x ≡ Err e → outcome_numbers (Err e) ≡ plan_of l r
    unfolding plan_of union need pass any_damage sized_of done_said outcome_numbers
    left_bad p t = let (d, z) = scan_refused values l p t in rw (f, g, z, d)

    module _ {x y : Result ℕ Refusal} {n : ℕ} (p : x ≡ scanning l.marks) (q : x ≡ Ok n) (s : y ≡ scanning r.marks) where
      -- or in the right
      pub right_bad : {e : Refusal} → y ≡ Err e → outcome_numbers (Err e) ≡ plan_of l r
      unfolding plan_of union need pass any_damage sized_of done_said outcome_numbers
      right_bad t = let (d, z) = scan_refused values r s t in rw (f, g, (scan_live values l p q).0, z, d)

      module _ {z a : ℕ} (t : y ≡ Ok z) (e : a ≡ table_needs l r (length r.marks)) where
        -- room for the right's keys
        pub room_done : a ≤ length l.marks - n → outcome_numbers (Ok tt) ≡ plan_of l r
        unfolding plan_of union need pass any_damage needs table_needs sized_of done_said outcome_numbers
        room_done h = rw (f, g, (scan_live values l p q).0, (scan_live values r s t).0, ← e, (scan_live values l p q).1, le-leb a (length l.marks - n) h) (rw (no_bytes, le-leb 0 (0 - used maps l) (omega arith)))

        -- or too few slots
        pub room_none : length l.marks - n < a → outcome_numbers (Err NoSlot) ≡ plan_of l r
        unfolding plan_of union need pass any_damage needs table_needs sized_of done_said outcome_numbers
        room_none h = rw (f, g, (scan_live values l p q).0, (scan_live values r s t).0, ← e, (scan_live values l p q).1, lt-leb a (length l.marks - n) h)

-- there are no more live slots than slots
pub live_low : (marks : List ℕ) {x : Result ℕ Refusal} {n : ℕ} → x ≡ scanning marks → x ≡ Ok n → n ≤ length marks
live_low marks p q = (scan_live values (memory marks marks marks) p q).2

-- what the plan's answer says of the theory's
plan_ok : {A : Type 0} {a : Result (Unit {0}) Refusal} (x : Or A) → outcome_numbers a ≡ done_said x → a ≡ Ok tt → (u : A) × (x ≡ ok u)
unfolding outcome_numbers done_said
plan_ok (no n) p q = other_case (rw q at p) refl
plan_ok (ok u) p q = (u, refl)

plan_no : {A : Type 0} {a : Result (Unit {0}) Refusal} {e : Refusal} (x : Or A) → outcome_numbers a ≡ done_said x → a ≡ Err e → x ≡ no (number_of e)
unfolding outcome_numbers done_said
plan_no (no n) p q = ap no (sym (ap (λ n. n.refusal) (rw q at p)))
plan_no (ok u) p q = other_case (rw q at p) refl

module _ (l r : IntMemory values) {a : Result (Unit {0}) Refusal} (p : outcome_numbers a ≡ plan_of l r) where
  -- a plan that is done has right sizes
  pub plan_sized : a ≡ Ok tt → (sized_of maps l ≡ true) × (length r.keys ≡ length r.marks) × (length r.words ≡ length r.marks)
  unfolding plan_of union need pass sized_of
  plan_sized q = go (plan_ok (union maps l r) p q).1
    where
      go : {u : Unit {0}} → union maps l r ≡ ok u → (sized_of maps l ≡ true) × (length r.keys ≡ length r.marks) × (length r.words ≡ length r.marks)
      go e = by_bool (maps.sized l)
          (λ f. by_bool (maps.sized r)
          (λ g. let (x, y) = same_long r (sym g) refl in (f, x, y))
          (λ g. clash (cc (rw (f, g) at e))))
          (λ f. clash (cc (rw f at e)))

  -- and then all pairs go in
  pub union_done : {m : IntMemory values} → a ≡ Ok tt → m ≡ all_stored maps l r (length r.marks) → told (outcome_numbers (Ok tt)) m ≡ union_of maps l r
  unfolding plan_of union_of after_union all_stored acted done_said outcome_numbers
  union_done q e = rw (plan_ok (union maps l r) p q).1 (ap (λ m. told (outcome_numbers (Ok tt)) m) e)

  -- a refusal leaves all
  pub union_refused : {e : Refusal} → a ≡ Err e → told (outcome_numbers (Err e)) l ≡ union_of maps l r
  unfolding plan_of union_of after_union acted done_said outcome_numbers
  union_refused q = rw (plan_no (union maps l r) p q)
