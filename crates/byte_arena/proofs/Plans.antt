-- The plans of insert and remove give what the acts need: a slot to fill, or a slot to free.
use Prim.Native.Nat.{ℕ, ◌-◌, ◌≤◌, ◌<◌}
use mathlib.Core.Bool.{Bool, true, false}
use mathlib.Core.List.{List}
use mathlib.Core.Path.{◌≡◌, refl, sym, ◌∙◌}
use native.Mathlib.Omega.{arith}
use borrow.Author.Tests.{leb-true}
use lib.Dec.{ltb, eqb}
use lib.ListN.{length}
use Rattle.model.specs.Path.{Find, hit, miss, damage, at}
use Rattle.model.specs.Store.{path}
use Rattle.model.proofs.Cases.{by_bool, clash}
use Rattle.model.proofs.Path.{at_below, hit_at}
use Rattle.digest.specs.Home.{home_of, key_fits, key_limit}
use Rattle.digest.proofs.Bounds.{home_below}
use Rattle.answers.specs.declared.Refusal.TheVariants.{Sizes}
use Rattle.kinds.specs.Columns.{values, nothing}
use Rattle.kinds.specs.Probing.{along}
use Rattle.kinds.proofs.Bridge.{free_below}
use Rattle.byte_slots.specs.Keys.{byte_keys}
use Rattle.byte_slots.specs.Memory.{Spans, ByteMemory, byte_store, bare, used_of, full_damage, fitting, asked_of, keeping, live_at}
use Rattle.byte_slots.specs.Planning.{insert_plan_by, room_for, planning_kept, inserting, planning_insert, planning_map_insert, remove_plan_by, removing, planning_remove, planning_map_remove}
use Rattle.byte_slots.specs.Probing.{path_of}
use Rattle.byte_slots.proofs.Sizes.{fitting_says}
use Rattle.byte_slots.proofs.Bridge.{path_is}
use Rattle.byte_slots.proofs.Plans.{kept_plan_law}
use Rattle.byte_slots.proofs.Seeking.{long_only}
use Rattle.byte_slots.proofs.Held.{live_says, unharmed_says}
use Rattle.byte_arena.specs.Needs.{Aligned, Fillable, Freeable}
use Rattle.std.specs.Prelude.{Result, Ok, Err}
use Rattle.answers.specs.declared.Refusal.{Refusal}
use Rattle.kinds.specs.declared.Probed.{Probed}
use Rattle.kinds.specs.declared.Probed.TheVariants.{Hit, Free, Full}
use Rattle.byte_slots.specs.declared.InsertPlan.{InsertPlan}
use Rattle.byte_slots.specs.declared.InsertPlan.TheVariants.{Hit, Free}
use Rattle.byte_slots.specs.declared.RemovePlan.{RemovePlan}
use Rattle.byte_slots.specs.declared.RemovePlan.TheVariants.{Hit}

insert_plan_free : {i e u : ℕ} (v : ℕ) (room : Bool) (x : Result Probed Refusal) → insert_plan_by v room x ≡ Ok (Free i e u) → (x ≡ Ok (Free i e)) × (room ≡ true) × (u ≡ v)
unfolding insert_plan_by
insert_plan_free v room (Ok (Hit a b)) q = clash cc
insert_plan_free v true (Ok (Free a b)) q = (cc, refl, cc)
insert_plan_free v false (Ok (Free a b)) q = clash cc
insert_plan_free v room (Ok (Full a)) q = clash cc
insert_plan_free v room (Err a) q = clash cc

remove_plan_hit : {i e u : ℕ} (v : ℕ) (x : Result Probed Refusal) → remove_plan_by v x ≡ Ok (Hit i e u) → (x ≡ Ok (Hit i e)) × (u ≡ v)
unfolding remove_plan_by
remove_plan_hit v (Ok (Hit a b)) q = (cc, cc)
remove_plan_hit v (Ok (Free a b)) q = clash cc
remove_plan_hit v (Ok (Full a)) q = clash cc
remove_plan_hit v (Err a) q = clash cc

module _ (s : Spans) (k : List ℕ) where
  -- the spans as a set
  abbrev bare_set : ByteMemory nothing
  bare_set = record { spans = s; words = tt }

  aligned : fitting s ≡ true → (i : ℕ) → i < length s.marks → Aligned s i
  aligned f i l = let z = fitting_says s f in record { slot = l; offsets = z.offsets; lengths = z.lengths }

  inside : fitting s ≡ true → home_of 0 (length s.marks) k < length s.marks
  inside f = home_below 0 (length s.marks) k (fitting_says s f).some

  free_slot : fitting s ≡ true → {i e : ℕ} → path_of s k ≡ Ok (Free i e) → i < length s.marks
  free_slot f q = free_below (byte_store nothing) bare_set k (inside f) (path_is nothing bare_set k ∙ q)

  -- a slot that the path found is one of the table's, and live
  hit_live : fitting s ≡ true → {i e : ℕ} → path_of s k ≡ Ok (Hit i e) → (i < length s.marks) × live_at s i
  unfolding along path
  hit_live f {i} {e} q = go (path (byte_store nothing) bare_set k) refl (path_is nothing bare_set k ∙ q)
    where
      go : (x : Find (Unit {0})) → path (byte_store nothing) bare_set k ≡ x → along (length s.marks) (home_of 0 (length s.marks) k) x ≡ Ok (Hit i e) → (i < length s.marks) × live_at s i
      go (hit n v) p w =
          let z : at (length s.marks) (home_of 0 (length s.marks) k) n ≡ i = cc in
          let (l, h) = hit_at byte_keys (length s.marks) (home_of 0 (length s.marks) k) (bare s) k n v p in
          rw (← z) (at_below (length s.marks) (home_of 0 (length s.marks) k) n (inside f) l, (live_says s (λ j. tt) _ k v h).0)
      go (miss a b) p w = by_bool (ltb b (length s.marks)) (λ t. clash (cc (rw t at w))) (λ t. clash (cc (rw t at w)))
      go damage p w = clash cc

  kept_short : keeping k ≡ Ok tt → length k ≤ key_limit
  kept_short e = by_bool (key_fits (length k)) (λ f. leb-true (length k) key_limit f) (λ f. clash (cc (rw f at e)))

  -- The plan of insert gives a slot to fill.
  pub plan_fillable : {r : Result InsertPlan Refusal} {i e u : ℕ} → r ≡ planning_insert s k → r ≡ Ok (Free i e u) → Fillable s i u k
  unfolding planning_insert inserting planning_kept room_for
  plan_fillable {r} {i} {e} {u} p q = by_bool (fitting s)
      (λ f.
      let (a, b) = kept_plan_law (keeping k) (rw f at (sym p ∙ q)) (λ x z. clash cc) in
      by_bool (full_damage s)
      (λ h. clash (cc (rw h at b)))
      (λ h.
      let (x, y, z) = insert_plan_free (used_of s) (room_for s k) (path_of s k) (rw h at b) in
      record {
        aligned = aligned f i (free_slot f x);
        used = z;
        room = omega (arith, leb-true (length k) (length s.arena - used_of s) y, (unharmed_says s h).0);
        key = kept_short a;
        size = (fitting_says s f).arena;
      }))
      (λ f. clash (cc (rw f at (sym p ∙ q))))

  -- The plan of remove gives a slot to free.
  pub plan_freeable : {r : Result RemovePlan Refusal} {i e u : ℕ} → r ≡ planning_remove s k → r ≡ Ok (Hit i e u) → Freeable s i u
  unfolding planning_remove removing
  plan_freeable {r} {i} {e} {u} p q = by_bool (fitting s)
      (λ f. by_bool (eqb (asked_of k) 0)
      (λ a. by_bool (full_damage s)
      (λ h. clash (cc (rw (f, a, h) at (sym p ∙ q))))
      (λ h.
      let (x, z) = remove_plan_hit (used_of s) (path_of s k) (rw (f, a, h) at (sym p ∙ q)) in
      let (l, b) = hit_live f x in
      let (w, n) = unharmed_says s h in
      record { aligned = aligned f i l; used = z; ends = rw z (n i b); within = rw z w; size = (fitting_says s f).arena }))
      (λ a. clash (cc (rw (f, a) at (sym p ∙ q)))))
      (λ f. clash (cc (rw f at (sym p ∙ q))))

-- The same of a map, whose slots then have a value too.
module _ (m : ByteMemory values) (k : List ℕ) where
  pub map_plan_insert_free : {r : Result InsertPlan Refusal} {i e u : ℕ} → r ≡ planning_map_insert m k → r ≡ Ok (Free i e u) → Fillable m.spans i u k × (i < length m.words)
  unfolding planning_map_insert
  map_plan_insert_free p q =
      let (x, l) = long_only m (planning_insert m.spans k) (Err Sizes) p (λ z. clash (cc)) in
      let f = plan_fillable m.spans k x q in
      (f, omega (arith, f.aligned.slot))

  pub map_plan_remove_hit : {r : Result RemovePlan Refusal} {i e u : ℕ} → r ≡ planning_map_remove m k → r ≡ Ok (Hit i e u) → Freeable m.spans i u × (i < length m.words)
  unfolding planning_map_remove
  map_plan_remove_hit p q =
      let (x, l) = long_only m (planning_remove m.spans k) (Err Sizes) p (λ z. clash (cc)) in
      let f = plan_freeable m.spans k x q in
      (f, omega (arith, f.aligned.slot))
