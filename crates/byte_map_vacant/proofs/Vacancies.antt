-- Vacant handles: what insert's plan says of them, and what their insert tells and leaves by it.
use Rattle.std.proofs.Common.{ℕ, ◌<◌, Bool, true, false, List, ◌≡◌, refl, sym, ◌∙◌, eqb, ltb, length, get_or, set, Ok, Err, Result}
use Rattle.model.specs.Path.{Find, hit, miss, damage, at, find}
use Rattle.model.specs.Calls.{Or, no, ok, need, give, acted, good_for, vacancy, vacant_insert, after_fill}
use Rattle.model.proofs.Cases.{by_bool, by_eq, clash}
use Rattle.digest.specs.Home.{home_of, key_fits}
use Rattle.answers.specs.declared.Refusal.{Refusal}
use Rattle.answers.specs.declared.Refusal.TheVariants.{Sizes, LongKey}
use Rattle.answers.specs.Refusals.{number_of}
use Rattle.answers.specs.Said.{in_slot_said}
use Rattle.kinds.specs.Calls.{vacant_insert_of}
use Rattle.kinds.specs.Columns.{values}
use Rattle.kinds.specs.Marks.{keys_only}
use Rattle.kinds.specs.Probing.{along}
use Rattle.kinds.specs.Told.{told}
use Rattle.kinds.proofs.Bridge.{spot_in}
use Rattle.byte_slots.specs.Keys.{byte_keys}
use Rattle.byte_slots.specs.Kinds.{MapMemory, maps}
use Rattle.tables.specs.Reading.{lent_of}
use Rattle.tables.proofs.Calls.{lent_err}
use Rattle.byte_slots.proofs.Views.{lent_map_insert}
use Rattle.byte_slots.specs.Marks.{mark_of}
use Rattle.byte_slots.specs.Memory.{Spans, ByteMemory, key_at, filled, used_of, full_damage, fitting, keeping, kept_of}
use Rattle.byte_slots.specs.Planning.{insert_plan_by, room_for, inserting, planning_kept, planning_insert, planning_map_insert}
use Rattle.byte_slots.specs.Probing.{path_from, path_of}
use Rattle.byte_slots.proofs.Bridge.{spot_is, short_refused, pass_kept}
use Rattle.byte_arena.specs.Needs.{Fillable}
use Rattle.byte_slots.proofs.Seeking.{by_long}
use Rattle.byte_arena.proofs.Plans.{map_plan_insert_free}
use Rattle.byte_map_vacant.specs.Numbers.{in_slot_numbers}
use Rattle.byte_map_vacant.specs.Planning.{handle_refusal, vacancy_by}
use Rattle.byte_slots.specs.declared.InsertPlan.{InsertPlan}
use Rattle.byte_slots.specs.declared.InsertPlan.TheVariants.{Hit, Free}

-- What a vacant handle's plan says in the theory's words.
abbrev worth_of : Result ℕ Refusal → Or (Unit {0})
worth_of (Ok u) = ok tt
worth_of (Err r) = no (number_of r)

-- a key's own refusal stays
kept_stays : (k : List ℕ) (r : Refusal) → keeping k ≡ Err r → handle_refusal r ≡ r
unfolding handle_refusal
kept_stays k r e = by_bool (key_fits (length k))
    (λ f. clash (cc (rw f at e)))
    (λ f. let z : LongKey ≡ r = cc (rw f at e) in rw (← z))

-- a good handle's slot is the one that the plan names
vacancy_free : (i : ℕ) {u : ℕ} (p : Result InsertPlan Refusal) → vacancy_by i p ≡ Ok u → (e : ℕ) × (p ≡ Ok (Free i e u))
unfolding vacancy_by
vacancy_free i (Ok (Hit x e)) q = clash cc
vacancy_free i {u} (Ok (Free x e v)) q = by_eq i x
    (λ l t. let z : v ≡ u = cc (rw t at q) in (e, rw (z, l)))
    (λ l t. clash (cc (rw t at q)))
vacancy_free i (Err r) q = clash cc

-- a vacant handle by the path
good_along : (i S h u : ℕ) (room : Bool) (read : ℕ → ℕ) {W : Type 0} (x : Find W) → good_for maps i (spot_in room read (along S h x)) ≡ worth_of (vacancy_by i (insert_plan_by u room (along S h x)))
unfolding good_for along insert_plan_by vacancy_by handle_refusal need
good_along i S h u room read (hit n v) = refl
good_along i S h u true read (miss e f) = by_bool (ltb f S)
    (λ t. rw t (by_bool (eqb i (at S h f)) (λ q. rw q) (λ q. rw q)))
    (λ t. rw t)
good_along i S h u false read (miss e f) = by_bool (ltb f S) (λ t. rw t) (λ t. rw t)
good_along i S h u room read damage = refl

module _ (m : ByteMemory values) (i : ℕ) (k : List ℕ) where
  good_path : good_for maps i (spot_in (room_for m.spans k) (λ j. get_or m.words j 0) (path_of m.spans k)) ≡ worth_of (vacancy_by i (insert_plan_by (used_of m.spans) (room_for m.spans k) (path_of m.spans k)))
  unfolding path_of path_from
  good_path =
      let h = home_of 0 (length m.spans.marks) k in
      good_along i (length m.spans.marks) h (used_of m.spans) (room_for m.spans k) (λ j. get_or m.words j 0) (find byte_keys (length m.spans.marks) h (keys_only (mark_of m.spans) (key_at m.spans)) k)

  vacancy_short : eqb (length m.spans.marks) (length m.words) ≡ false → vacancy maps m i k ≡ no 1
  unfolding vacancy
  vacancy_short e = short_refused values m _ e

  vacancy_planning : eqb (length m.spans.marks) (length m.words) ≡ true → vacancy maps m i k ≡ worth_of (vacancy_by i (planning_insert m.spans k))
  unfolding vacancy need planning_insert inserting planning_kept kept_of vacancy_by handle_refusal
  vacancy_planning long = rw long (by_bool (fitting m.spans)
      (λ f. rw f (pass_kept (λ p. worth_of (vacancy_by i p)) (keeping k) _ _ (λ r e. rw (kept_stays k r e)) (by_bool (full_damage m.spans)
      (λ h. rw h)
      (λ h. rw (h, spot_is values m k) good_path))))
      (λ f. rw f))

  -- a vacant handle by insert's plan
  vacancy_planned : vacancy maps m i k ≡ worth_of (vacancy_by i (planning_map_insert m k))
  unfolding planning_map_insert vacancy_by handle_refusal
  vacancy_planned = by_long m (planning_insert m.spans k) (Err Sizes) (λ p. worth_of (vacancy_by i p)) (vacancy maps m i k) vacancy_planning vacancy_short

  -- where insert's plan over what was lent is p, and the handle's r
  module _ {l : Result MapMemory Refusal} {n : MapMemory} (o : l ≡ lent_of maps m) (j : l ≡ Ok n) {t : Spans} (same : t ≡ n.spans) {p : Result InsertPlan Refusal} (a : p ≡ inserting t k) {r : Result ℕ Refusal} (y : r ≡ vacancy_by i p) where
    w : p ≡ planning_map_insert m k
    w = lent_map_insert m k o j (rw same at a)

    worth : {x : Result ℕ Refusal} → r ≡ x → vacancy maps m i k ≡ worth_of x
    worth q = rw (← q, y, w) vacancy_planned

    stands : {u : ℕ} → r ≡ Ok u → Fillable m.spans i u k × (i < length m.words)
    stands q = let (e, f) = vacancy_free i p (sym y ∙ q) in map_plan_insert_free m k w f

    pub vacancy_fillable : {u : ℕ} → r ≡ Ok u → Fillable m.spans i u k
    vacancy_fillable q = (stands q).0

    pub vacancy_inside : {u : ℕ} → r ≡ Ok u → i < length m.words
    vacancy_inside q = (stands q).1

    pub insert_done : (v : ℕ) {u : ℕ} {t : Spans} → r ≡ Ok u → t ≡ filled m.spans i k → told (in_slot_numbers (Ok ((record { slot = i }), v))) (record { spans = t; words = set m.words i v }) ≡ vacant_insert_of maps m i k v
    unfolding vacant_insert_of vacant_insert after_fill give acted in_slot_numbers in_slot_said
    insert_done v q e = rw (worth q, ← e)

    pub insert_refused : (v : ℕ) {x : Refusal} → r ≡ Err x → told (in_slot_numbers (Err x)) m ≡ vacant_insert_of maps m i k v
    unfolding vacant_insert_of vacant_insert after_fill give acted in_slot_numbers in_slot_said
    insert_refused v q = rw (worth q)

  -- the same, where the sizes are wrong
  pub insert_unlent : (v : ℕ) {l : Result MapMemory Refusal} {x : Refusal} → l ≡ lent_of maps m → l ≡ Err x → told (in_slot_numbers (Err x)) m ≡ vacant_insert_of maps m i k v
  unfolding vacant_insert_of vacant_insert after_fill give acted in_slot_numbers in_slot_said vacancy need
  insert_unlent v o q = let (f, e) = lent_err maps m o q in rw (f, e)
