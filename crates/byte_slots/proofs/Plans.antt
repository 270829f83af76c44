-- What the survey says, and the test of a key that is to be stored.
use Rattle.std.proofs.Common.{ℕ, ◌≤◌, true, false, ◌≡◌, refl, sym, ◌∙◌, arith, ltb-false, ltb, length, Result, Ok, Err}
use Rattle.model.specs.Slots.{any_damaged}
use Rattle.model.proofs.Cases.{by_bool, clash}
use Rattle.answers.specs.declared.Refusal.{Refusal}
use Rattle.answers.specs.declared.Refusal.TheVariants as refusal
use Rattle.byte_slots.specs.Memory.{Spans, bare, used_of, full_damage}
use Rattle.byte_slots.specs.Planning.{kept_plan}
use Rattle.byte_slots.specs.Surveying.{surveying}
use Rattle.byte_slots.specs.declared.InsertPlan.{InsertPlan}

-- where nothing is damaged, the used bytes are in the arena
pub used_within : (s : Spans) → full_damage s ≡ false → used_of s ≤ length s.arena
unfolding full_damage
used_within s h = by_bool (any_damaged (bare s) (length s.marks))
    (λ e. let z : true ≡ false = rw e at h in clash cc)
    (λ e. by_bool (ltb (length s.arena) (used_of s))
    (λ f. let z : true ≡ false = rw (e, f) at h in clash cc)
    (λ f. ltb-false (length s.arena) (used_of s) f))

-- what a survey says
module _ (s : Spans) {r : Result ℕ Refusal} (p : r ≡ surveying s) where
  pub surveyed_bad : {y : Refusal} → r ≡ Err y → (full_damage s ≡ true) × (y ≡ refusal.Damaged)
  unfolding surveying
  surveyed_bad {y} q = by_bool (full_damage s)
      (λ h. let z : Err y ≡ Err refusal.Damaged = rw h at (sym q ∙ p) in (h, cc))
      (λ h. clash (cc (rw h at (sym q ∙ p))))

  pub surveyed_used : {u : ℕ} → r ≡ Ok u → (full_damage s ≡ false) × (u ≡ used_of s)
  unfolding surveying
  surveyed_used {u} q = by_bool (full_damage s)
      (λ h. clash (cc (rw h at (sym q ∙ p))))
      (λ h. let z : Ok u ≡ Ok (used_of s) = rw h at (sym q ∙ p) in (h, cc))

  pub surveyed_within : {u : ℕ} → r ≡ Ok u → u ≤ length s.arena
  surveyed_within q = let (h, e) = surveyed_used q in omega (arith, used_within s h)

-- a plan that is no refusal: the key may be stored
pub kept_plan_law : (x : Result (Unit {0}) Refusal) {p a : Result InsertPlan Refusal} → kept_plan x p ≡ a → ((r : Refusal) → a ≡ Err r → ⊥) → (x ≡ Ok tt) × (p ≡ a)
unfolding kept_plan
kept_plan_law (Ok tt) e h = (refl, e)
kept_plan_law (Err r) e h = absurd (h r (sym e))
