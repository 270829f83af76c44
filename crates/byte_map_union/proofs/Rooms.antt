-- The union's tests of two tables of right sizes, one after the other.
use Rattle.std.proofs.Common.{ℕ, ◌-◌, true, ◌≡◌, sym, ◌∙◌, length, Result, Ok, Err}
use Rattle.model.specs.Slots.{count}
use Rattle.model.specs.Calls.{need, ok}
use Rattle.answers.specs.declared.Refusal.{Refusal}
use Rattle.answers.specs.declared.Refusal.TheVariants.{Damaged}
use Rattle.kinds.specs.Rooms.{reserved_by}
use Rattle.kinds.proofs.Rooms.{room_passes, no_room_refuses}
use Rattle.model.proofs.Cases.{by_bool, clash}
use Rattle.byte_slots.specs.Memory.{Spans, bare, full_damage}
use Rattle.byte_slots.specs.Scanning.{live_marks}
use Rattle.byte_slots.specs.Surveying.{surveying}
use Rattle.byte_slots.proofs.Held.{unharmed_whole}
use Rattle.byte_slots.proofs.Lives.{marks_count}
use Rattle.byte_slots.proofs.Plans.{surveyed_used}
use Rattle.byte_map_union.specs.declared.Needed.{Needed}
use Rattle.byte_map_union.specs.Needs.{table_needs, planned, room_of}

-- a survey refuses for damage alone
survey_refused : (s : Spans) {x : Result ℕ Refusal} {e : Refusal} → x ≡ surveying s → x ≡ Err e → (full_damage s ≡ true) × (e ≡ Damaged)
unfolding surveying
survey_refused s {x} {e} p q = by_bool (full_damage s)
    (λ h. let z : Err e ≡ Err Damaged = rw h at (sym q ∙ p) in (h, cc))
    (λ h. clash (cc (rw h at (sym q ∙ p))))

module _ (l r : Spans) {x : Result ℕ Refusal} (p : x ≡ surveying l) where
  -- damage in the left
  pub left_bad : {e : Refusal} → x ≡ Err e → planned (Err e) ≡ room_of l r
  unfolding planned room_of need
  left_bad t = let (h, d) = survey_refused l p t in rw (d, h)

  module _ {u : ℕ} (q : x ≡ Ok u) {y : Result ℕ Refusal} (s : y ≡ surveying r) where
    -- or in the right
    pub right_bad : {e : Refusal} → y ≡ Err e → planned (Err e) ≡ room_of l r
    unfolding planned room_of need
    right_bad t = let (h, d) = survey_refused r s t in rw (d, (surveyed_used l p q).0, h)

    module _ {v n : ℕ} {a : Needed} (t : y ≡ Ok v) (w : n ≡ live_marks l.marks (length l.marks)) (e : a ≡ table_needs l r (length r.marks)) where
      live_marks_are : count (bare l) (length l.marks) ≡ n
      live_marks_are = marks_count l (length l.marks) (unharmed_whole l (surveyed_used l p q).0) ∙ sym w

      module _ {z : Result (Unit {0}) Refusal} (o : z ≡ reserved_by (length l.marks - n) (length l.arena - u) a.slots a.bytes) where
        -- room for the right's keys
        pub room_go : z ≡ Ok tt → planned (Ok u) ≡ room_of l r
        unfolding planned room_of need
        room_go h = rw ((surveyed_used l p q).0, (surveyed_used r s t).0, ← e, live_marks_are, ← (surveyed_used l p q).1) (sym (room_passes (length l.marks - n) (length l.arena - u) a.slots a.bytes o (ok u) h))

        -- or too little
        pub room_short : {y : Refusal} → z ≡ Err y → planned (Err y) ≡ room_of l r
        unfolding planned room_of need
        room_short h = rw ((surveyed_used l p q).0, (surveyed_used r s t).0, ← e, live_marks_are, ← (surveyed_used l p q).1) (sym (no_room_refuses (length l.marks - n) (length l.arena - u) a.slots a.bytes o (ok u) h))
