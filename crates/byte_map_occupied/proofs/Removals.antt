-- Removal by handle: what its plan says, and what remove and remove_entry tell and leave by it.
use Rattle.std.proofs.Common.{ℕ, zero, suc, ◌<◌, ◌&&◌, List, ◌≡◌, refl, sym, ap, ◌∙◌, arith, eqb-true, eqb, length, get_or, set, Result, Ok, Err}
use Rattle.model.specs.Calls.{Or, no, ok, need, pass, occupied_remove, after_drop, acted}
use Rattle.model.proofs.Cases.{by_bool, by_lt, clash}
use Rattle.answers.specs.declared.Refusal.{Refusal}
use Rattle.answers.specs.Refusals.{number_of}
use Rattle.answers.specs.Said.{taken_said}
use Rattle.kinds.specs.Calls.{sized_of, taken_of}
use Rattle.kinds.specs.Columns.{values}
use Rattle.kinds.specs.Marks.{cell}
use Rattle.kinds.specs.Probing.{look_at, look_of}
use Rattle.kinds.specs.Told.{told}
use Rattle.byte_slots.specs.Keys.{byte_keys}
use Rattle.byte_slots.specs.Kinds.{MapMemory, maps}
use Rattle.byte_slots.specs.Marks.{mark_of}
use Rattle.byte_slots.specs.Memory.{Spans, ByteMemory, key_at, used_of, full_damage, fitting, asked_of, emptied, live_at}
use Rattle.byte_slots.specs.Probing.{sight_at}
use Rattle.byte_slots.proofs.Bridge.{asked_no}
use Rattle.byte_slots.proofs.Held.{unharmed_says}
use Rattle.byte_slots.proofs.Marks.{mark_raw}
use Rattle.byte_slots.proofs.Sizes.{fitting_says}
use Rattle.byte_arena.specs.Needs.{Freeable}
use Rattle.byte_slots.proofs.MapSizes.{sized_fits, same_long}
use Rattle.byte_map_occupied.specs.Numbers.{taken_numbers}
use Rattle.tables.specs.Reading.{lent_of}
use Rattle.tables.proofs.Calls.{lent_err, lent_ok}
use Rattle.byte_map_occupied.specs.Planning.{taking, held_by, value_in, removal_plan_by, planning_removal}
use Rattle.byte_map_occupied.proofs.Values.{value_of, grip_value}
use Rattle.byte_map_occupied.specs.declared.Occupied.{Occupied}
use Rattle.kinds.specs.declared.Sight.{Sight}
use Rattle.kinds.specs.declared.Sight.TheVariants.{Never, Freed, Same, Other}

-- What a removal's plan says in the theory's words.
abbrev removed_of : Result (ℕ × ℕ) Refusal → Or ℕ
removed_of (Ok (v, u)) = ok v
removed_of (Err r) = no (number_of r)

removal_value : (u : ℕ) (h : Result (ℕ × Occupied) Refusal) → value_of h ≡ removed_of (removal_plan_by u h)
unfolding removal_plan_by
removal_value u (Ok (v, h)) = refl
removal_value u (Err r) = refl

-- a plan that takes a value out has a look that found the key
look_live : (k a : List ℕ) (m : ℕ) → look_of byte_keys k m a ≡ Ok Same → m ≡ 1
unfolding look_of look_at cell
look_live k a zero e = clash cc
look_live k a (suc zero) e = refl
look_live k a (suc (suc zero)) e = clash cc
look_live k a (suc (suc (suc m))) e = clash cc

held_same : (i w u v x : ℕ) (s : Result Sight Refusal) → removal_plan_by u (held_by i w s) ≡ Ok (v, x) → (s ≡ Ok Same) × (u ≡ x)
unfolding held_by removal_plan_by
held_same i w u v x (Ok Never) e = clash cc
held_same i w u v x (Ok Freed) e = clash cc
held_same i w u v x (Err r) e = clash cc
held_same i w u v x (Ok Same) e = let z : ◌≡◌ {A = ℕ × ℕ} (w, u) (v, x) = cc in (refl, ap (λ p. p.1) z)
held_same i w u v x (Ok Other) e = clash cc

module _ (m : ByteMemory values) (i : ℕ) (k : List ℕ) where
  -- an occupied handle's removal, by its plan
  remove_planned : occupied_remove maps m i k ≡ removed_of (planning_removal m i k)
  unfolding occupied_remove planning_removal taking sized_of need pass
  remove_planned = by_bool (fitting m.spans && eqb (length m.spans.marks) (length m.words))
      (λ f. rw f (by_bool (eqb (asked_of k) 0)
      (λ a. rw (a, eqb-true (asked_of k) 0 a) (by_bool (full_damage m.spans)
      (λ h. rw h)
      (λ h. rw h (grip_value m i k ∙ removal_value (used_of m.spans) (value_in m i k)))))
      (λ a. rw (a, asked_no k a))))
      (λ f. rw f)

  -- what a plan that takes a value out says of its slot
  out_live : {v u x : ℕ} → removal_plan_by u (value_in m i k) ≡ Ok (v, x) → (i < length m.spans.marks) × live_at m.spans i × (u ≡ x)
  unfolding value_in removal_plan_by sight_at
  out_live {v} {u} {x} q = by_lt i (length m.spans.marks)
      (λ l e.
      let (a, b) = held_same i (get_or m.words i 0) u v x (sight_at m.spans k i) (rw e at q) in
      let one : mark_of m.spans i ≡ 1 = look_live k (key_at m.spans i) (mark_of m.spans i) a in
      (l, sym (mark_raw m.spans i (omega arith)) ∙ one, b))
      (λ l e. clash (cc (rw e at q)))

  freeable : {v u : ℕ} → planning_removal m i k ≡ Ok (v, u) → Freeable m.spans i u × (i < length m.words)
  unfolding planning_removal taking
  freeable q = by_bool (sized_of maps m)
      (λ f. by_bool (eqb (asked_of k) 0)
      (λ a. by_bool (full_damage m.spans)
      (λ h. clash (cc (rw (f, a, h) at q)))
      (λ h.
      let (l, n, z) = out_live (rw (f, a, h) at q) in
      let (w, t) = unharmed_says m.spans h in
      let (x, y, o) = same_long m (sym f) refl in (
        record {
          aligned = record { slot = l; offsets = x; lengths = y };
          used = sym z;
          ends = rw (← z) (t i n);
          within = rw (← z) w;
          size = (fitting_says m.spans (sized_fits m (sym f) refl)).arena;
        },
        omega arith,
      )))
      (λ a. clash (cc (rw (f, a) at q))))
      (λ f. clash (cc (rw f at q)))

  -- where the plan of what was lent answered r
  module _ {l : Result MapMemory Refusal} {n : MapMemory} (o : l ≡ lent_of maps m) (j : l ≡ Ok n) {r : Result (ℕ × ℕ) Refusal} (w : r ≡ taking n i k) where
    p : r ≡ planning_removal m i k
    unfolding planning_removal sized_of
    p = let (f, e) = lent_ok maps m o j in rw (w, e, f)

    pub removal_freeable : {v u : ℕ} → r ≡ Ok (v, u) → Freeable m.spans i u
    removal_freeable q = (freeable (sym p ∙ q)).0

    pub removal_inside : {v u : ℕ} → r ≡ Ok (v, u) → i < length m.words
    removal_inside q = (freeable (sym p ∙ q)).1

    planned : {x : Result (ℕ × ℕ) Refusal} → r ≡ x → occupied_remove maps m i k ≡ removed_of x
    planned q = rw (← q, p) remove_planned

    pub remove_done : {old u : ℕ} {t : Spans} → r ≡ Ok (old, u) → t ≡ emptied m.spans i → told (taken_numbers (Ok old)) (record { spans = t; words = set m.words i 0 }) ≡ taken_of maps m i k
    unfolding taken_of after_drop acted taken_numbers taken_said
    remove_done q e = rw (planned q, ← e)

    pub remove_refused : {x : Refusal} → r ≡ Err x → told (taken_numbers (Err x)) m ≡ taken_of maps m i k
    unfolding taken_of after_drop acted taken_numbers taken_said
    remove_refused q = rw (planned q)

  -- the same, where the sizes are wrong
  pub remove_unlent : {l : Result MapMemory Refusal} {x : Refusal} → l ≡ lent_of maps m → l ≡ Err x → told (taken_numbers (Err x)) m ≡ taken_of maps m i k
  unfolding taken_of after_drop acted taken_numbers taken_said planning_removal sized_of
  remove_unlent l q = let (f, e) = lent_err maps m l q in rw (remove_planned, f, e)
