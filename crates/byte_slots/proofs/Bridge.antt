-- What the answers over the spans say of the calls' definitions, for any column: the laws that byte maps and byte sets cite.
use Rattle.std.proofs.Common.{ℕ, zero, suc, ◌≤◌, ◌<◌, Bool, true, false, List, ◌≡◌, refl, sym, ◌∙◌, ap, arith, eqb-true, eqb, length, Result, Ok, Err}
use Rattle.model.specs.Slots.{any_damaged}
use Rattle.model.specs.Store.{path, live_count, used, damaged_slots}
use Rattle.model.specs.Calls.{Or, no, ok, need, pass, Seen, found, absent, Spot, occupied, vacant, seen_by, spot_by, get, entry, remove, rule, lacking, any_damage}
use Rattle.model.proofs.Cases.{by_bool, clash}
use Rattle.digest.specs.Home.{home_of, key_fits}
use Rattle.digest.proofs.Bounds.{home_below}
use Rattle.answers.specs.declared.Refusal.{Refusal}
use Rattle.answers.specs.Refusals.{number_of}
use Rattle.answers.proofs.Told.{number_of_range}
use Rattle.kinds.specs.Columns.{Column}
use Rattle.kinds.specs.Marks.{cells_of, marks_only}
use Rattle.kinds.specs.Probing.{along, missed_of}
use Rattle.kinds.specs.Scanning.{scanning_of}
use Rattle.kinds.proofs.Alike.{total_alike}
use Rattle.kinds.proofs.Bridge as kinds
use Rattle.kinds.proofs.Bridge.{seen_of, spot_in, path_cells, seen_path, spot_path}
use Rattle.kinds.proofs.Uniting.{rule_of, lacking_probed, rule_probed}
use Rattle.byte_slots.specs.Memory.{ByteMemory, byte_store, key_at, used_of, full_damage, fitting, asked_of, keeping, kept_number, kept_of}
use Rattle.byte_slots.specs.Marks.{mark_of}
use Rattle.byte_slots.specs.Planning.{insert_plan_by, room_for, planning_kept, kept_plan, planning_insert, remove_plan_by, planning_remove, inserting, removing}
use Rattle.byte_slots.specs.Probing.{path_from, path_of, probing}
use Rattle.byte_slots.specs.Scanning.{scanning}
use Rattle.byte_slots.proofs.Held.{bare_damaged, unharmed_whole}
use Rattle.byte_slots.proofs.Marks.{slots_cells}
use Rattle.byte_slots.proofs.Sizes.{Sized, fitting_says}
use Rattle.kinds.specs.declared.Probed.{Probed}
use Rattle.kinds.specs.declared.Probed.TheVariants.{Hit, Free, Full}
use Rattle.answers.specs.declared.Refusal.TheVariants as refusal
use Rattle.byte_slots.specs.declared.InsertPlan.{InsertPlan}
use Rattle.byte_slots.specs.declared.InsertPlan.TheVariants.{Hit, Free}
use Rattle.byte_slots.specs.declared.RemovePlan.{RemovePlan}
use Rattle.byte_slots.specs.declared.RemovePlan.TheVariants.{Hit, Absent}

-- What entry and insert answer by their plan; `read` gives the value at a slot.
abbrev pub spot_of : {W : Type 0} → (ℕ → W) → Result InsertPlan Refusal → Or (Spot W)
spot_of read (Ok (Hit i e)) = ok (occupied i (read i) e)
spot_of read (Ok (Free i e u)) = ok (vacant i e)
spot_of read (Err x) = no (number_of x)

-- What remove answers by its plan.
abbrev pub lost_of : {W : Type 0} → (ℕ → W) → Result RemovePlan Refusal → Or (Seen W)
lost_of read (Ok (Hit i e u)) = ok (found (read i) i e)
lost_of read (Ok (Absent e)) = ok (absent e)
lost_of read (Err x) = no (number_of x)

-- a key that may not be asked for is refused 2
pub asked_no : (k : List ℕ) → eqb (asked_of k) 0 ≡ false → asked_of k ≡ 2
unfolding asked_of
asked_no k e = by_bool (key_fits (length k))
    (λ f. clash (cc (rw f at e)))
    (λ f. rw f)

-- one that may not be stored, by the number of what refuses it
pass_no : {A : Type 0} (n : ℕ) (a : Or A) → 1 ≤ n → pass n a ≡ no n
unfolding pass
pass_no zero a l = let z : ⊥ = omega arith in absurd z
pass_no (suc n) a l = refl

pub pass_kept : {A : Type 0} (f : Result InsertPlan Refusal → Or A) (x : Result (Unit {0}) Refusal) (a : Or A) (p : Result InsertPlan Refusal) → ((r : Refusal) → x ≡ Err r → f (Err r) ≡ no (number_of r)) → a ≡ f p → pass (kept_number x) a ≡ f (kept_plan x p)
unfolding pass kept_plan
pass_kept f (Ok tt) a p h e = e
pass_kept f (Err r) a p h e = pass_no (number_of r) a (number_of_range r).0 ∙ sym (h r refl)

-- both plans, by the path
spot_planned : {W : Type 0} (read : ℕ → W) (u : ℕ) (room : Bool) (p : Result Probed Refusal) → spot_in room read p ≡ spot_of read (insert_plan_by u room p)
unfolding insert_plan_by
spot_planned read u room (Ok (Hit i e)) = refl
spot_planned read u true (Ok (Free i e)) = refl
spot_planned read u false (Ok (Free i e)) = refl
spot_planned read u room (Ok (Full e)) = refl
spot_planned read u room (Err x) = refl

seen_planned : {W : Type 0} (read : ℕ → W) (u : ℕ) (p : Result Probed Refusal) → seen_of read p ≡ lost_of read (remove_plan_by u p)
unfolding remove_plan_by
seen_planned read u (Ok (Hit i e)) = refl
seen_planned read u (Ok (Free i e)) = refl
seen_planned read u (Ok (Full e)) = refl
seen_planned read u (Err x) = refl

module _ {W : Type 0} (C : Column W) (m : ByteMemory C) where
  stand : (byte_store C).slots m ≡ cells_of (mark_of m.spans) (key_at m.spans) (C.read m.words)
  stand = slots_cells m.spans (C.read m.words)

  -- a column of another length: wrong sizes
  pub sized_short : C.long m.words (length m.spans.marks) ≡ false → (byte_store C).sized m ≡ false
  sized_short e = rw e (by_bool (fitting m.spans) (λ f. rw f) (λ f. rw f))

  -- and so any call that tests its sizes is refused 1
  pub short_refused : {A : Type 0} (a : Or A) → C.long m.words (length m.spans.marks) ≡ false → need ((byte_store C).sized m) 1 a ≡ no 1
  unfolding need
  short_refused a e = rw (sized_short e)

  -- what examining every slot shows is the damage that storing calls find
  pub any_damage_is : any_damage (byte_store C) m ≡ full_damage m.spans
  unfolding any_damage damaged_slots
  any_damage_is = by_bool (full_damage m.spans)
      (λ h. rw h (by_bool (damaged_slots (byte_store C) m) (λ t. rw t) (λ t. rw t)))
      (λ h. rw (h, bare_damaged m.spans (C.read m.words) (length m.spans.marks), unharmed_whole m.spans h))

  -- `used`, whatever the values
  pub used_is : used (byte_store C) m ≡ used_of m.spans
  unfolding used used_of
  used_is = rw (stand, slots_cells m.spans (λ i. tt {0})) (total_alike (mark_of m.spans) (key_at m.spans) (C.read m.words) (λ i. tt) length (length m.spans.marks))

  module _ (k : List ℕ) where
    -- the path over the spans is the path, in slots
    pub path_is : along (length m.spans.marks) (home_of 0 (length m.spans.marks) k) (path (byte_store C) m k) ≡ path_of m.spans k
    unfolding path_of path_from
    path_is = path_cells (byte_store C) m (mark_of m.spans) (key_at m.spans) (C.read m.words) stand k

    pub seen_is : seen_by (byte_store C) m k (path (byte_store C) m k) ≡ seen_of (C.read m.words) (path_of m.spans k)
    seen_is = rw (← path_is) (seen_path (byte_store C) m (mark_of m.spans) (key_at m.spans) (C.read m.words) stand k)

    pub spot_is : spot_by (byte_store C) m k (path (byte_store C) m k) ≡ spot_in (room_for m.spans k) (C.read m.words) (path_of m.spans k)
    unfolding room_for
    spot_is = rw (← path_is, ← used_is) (spot_path (byte_store C) m (mark_of m.spans) (key_at m.spans) (C.read m.words) stand k)

    -- whether the key is absent, and what the insert rule with no test leaves
    pub lacking_is : lacking (byte_store C) m k ≡ missed_of (path_of m.spans k)
    lacking_is = lacking_probed (byte_store C) m k (sym path_is)

    pub rule_is : (v : W) → rule (byte_store C) m k v ≡ rule_of (byte_store C) m k v (path_of m.spans k)
    rule_is v = rule_probed (byte_store C) m k (sym path_is) v

    -- a slot that the path found is one of the table's
    pub path_inside : fitting m.spans ≡ true → {i e : ℕ} → path_of m.spans k ≡ Ok (Hit i e) → i < length m.spans.marks
    path_inside f q = kinds.hit_below (byte_store C) m k (home_below 0 (length m.spans.marks) k (fitting_says m.spans f).some) (path_is ∙ q)

    -- and so is one that the probing found, in lists that agree
    pub probing_inside : {r : Result Probed Refusal} {i e : ℕ} → r ≡ probing m.spans k → r ≡ Ok (Hit i e) → (i < length m.spans.marks) × Sized m.spans
    unfolding probing
    probing_inside p q = by_bool (fitting m.spans)
        (λ f. by_bool (eqb (asked_of k) 0)
        (λ a. (path_inside f (rw (f, a) at (sym p ∙ q)), fitting_says m.spans f))
        (λ a. clash (cc (rw (f, a) at (sym p ∙ q)))))
        (λ f. clash (cc (rw f at (sym p ∙ q))))

    -- the whole calls, where the column is as long as the marks
    module _ (long : C.long m.words (length m.spans.marks) ≡ true) where
      pub get_probing : get (byte_store C) m k ≡ seen_of (C.read m.words) (probing m.spans k)
      unfolding get need pass probing
      get_probing = rw long (by_bool (fitting m.spans)
          (λ f. rw f (by_bool (eqb (asked_of k) 0)
          (λ a. rw (a, eqb-true (asked_of k) 0 a) seen_is)
          (λ a. rw (a, asked_no k a))))
          (λ f. rw f))

      pub remove_planning : remove (byte_store C) m k ≡ lost_of (C.read m.words) (planning_remove m.spans k)
      unfolding remove need pass planning_remove removing
      remove_planning = rw long (by_bool (fitting m.spans)
          (λ f. rw f (by_bool (eqb (asked_of k) 0)
          (λ a. rw (a, eqb-true (asked_of k) 0 a) (by_bool (full_damage m.spans)
          (λ h. rw h)
          (λ h. rw h (seen_is ∙ seen_planned (C.read m.words) (used_of m.spans) (path_of m.spans k)))))
          (λ a. rw (a, asked_no k a))))
          (λ f. rw f))

      pub entry_planning : entry (byte_store C) m k ≡ spot_of (C.read m.words) (planning_insert m.spans k)
      unfolding entry need planning_insert inserting planning_kept kept_of
      entry_planning = rw long (by_bool (fitting m.spans)
          (λ f. rw f (pass_kept (spot_of (C.read m.words)) (keeping k) _ _ (λ r e. refl) (by_bool (full_damage m.spans)
          (λ h. rw h)
          (λ h. rw h (spot_is ∙ spot_planned (C.read m.words) (used_of m.spans) (room_for m.spans k) (path_of m.spans k))))))
          (λ f. rw f))

  -- the scan tells the table's own damage and length
  module _ {r : Result ℕ Refusal} (p : r ≡ scanning m.spans) where
    pub scan_bad : {y : Refusal} → r ≡ Err y → (damaged_slots (byte_store C) m ≡ true) × (y ≡ refusal.Damaged)
    unfolding scanning scanning_of
    scan_bad {y} q =
        let e : y ≡ refusal.Damaged = by_bool (any_damaged (marks_only (mark_of m.spans)) (length m.spans.marks))
        (λ h. let z : Err y ≡ Err refusal.Damaged = rw h at (sym q ∙ p) in cc)
        (λ h. clash (cc (rw h at (sym q ∙ p)))) in
        (kinds.scan_bad (byte_store C) m (mark_of m.spans) (key_at m.spans) (C.read m.words) stand p (q ∙ ap Err e), e)

    pub scan_live : {n : ℕ} → r ≡ Ok n → (damaged_slots (byte_store C) m ≡ false) × (live_count (byte_store C) m ≡ n) × (n ≤ length m.spans.marks)
    unfolding scanning
    scan_live q = kinds.scan_live (byte_store C) m (mark_of m.spans) (key_at m.spans) (C.read m.words) stand p q
