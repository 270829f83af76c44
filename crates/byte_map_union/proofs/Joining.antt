-- What the union tells and leaves by its plan.
use Rattle.std.proofs.Common.{ℕ, true, ◌≡◌, refl, sym, ap, eqb-true, eqb, length, Ok, Err, Result}
use Rattle.model.specs.Slots.{pairs}
use Rattle.model.specs.Calls.{Or, no, ok, give, union, acted, after_union}
use Rattle.model.proofs.Cases.{both, clash}
use Rattle.model.proofs.Accepted.{need_ok}
use Rattle.model.proofs.Running.{union_roomy}
use Rattle.answers.specs.declared.Refusal.{Refusal}
use Rattle.answers.specs.Refusals.{number_of}
use Rattle.answers.specs.Numbers.{outcome_numbers}
use Rattle.answers.specs.Said.{done_said}
use Rattle.kinds.specs.Calls.{union_of}
use Rattle.kinds.specs.Columns.{values}
use Rattle.kinds.specs.Stores.{all_stored}
use Rattle.kinds.specs.Told.{told}
use Rattle.kinds.proofs.Columns.{values_lawful}
use Rattle.byte_slots.specs.Memory.{ByteMemory, used_of, fitting}
use Rattle.byte_slots.specs.Kinds.{maps}
use Rattle.byte_slots.proofs.Places.{byte_steady}
use Rattle.byte_store.specs.Stores.{Ready, pairs_of}
use Rattle.byte_store.proofs.Rooms.{firsts_bare, roomy_bare}
use Rattle.byte_map_union.specs.Needs.{planned, plan_of}

-- an answer by the value given in its place
give_ok : {A : Type 0} (v u : ℕ) (x : Or A) → ok u ≡ give v x → (a : A) × (x ≡ ok a) × (u ≡ v)
unfolding give
give_ok v u (no n) e = clash cc
give_ok v u (ok a) e = (a, refl, cc)

give_no : {A : Type 0} (v n : ℕ) (x : Or A) → no n ≡ give v x → x ≡ no n
unfolding give
give_no v n (no m) e = let z : n ≡ m = cc in ap no (sym z)
give_no v n (ok a) e = clash cc

module _ (l r : ByteMemory values) {a : Result ℕ Refusal} (p : planned a ≡ plan_of l r) where
  plan_go : {u : ℕ} → a ≡ Ok u → (x : Unit {0}) × (union maps l r ≡ ok x) × (u ≡ used_of l.spans)
  unfolding planned plan_of
  plan_go {u} q = give_ok (used_of l.spans) u (union maps l r) (rw q at p)

  -- a plan to store: the left has room for the right's keys, and all sizes are right
  pub go_ready : {u : ℕ} → a ≡ Ok u → Ready l.spans u (pairs_of r.spans (length r.spans.marks)) × (fitting r.spans ≡ true) × (length r.words ≡ length r.spans.marks) × (length l.words ≡ length l.spans.marks)
  unfolding union
  go_ready q =
      let n = length r.spans.marks in
      let (x, e, d) = plan_go q in
      let (f, g) = need_ok (maps.sized l) 1 _ x e in
      let h = (need_ok (maps.sized r) 1 _ x g).0 in
      let (i, j) = both (fitting r.spans) (eqb n (length r.words)) h in
      let (o, k) = both (fitting l.spans) (eqb (length l.spans.marks) (length l.words)) f in
      let y = union_roomy maps (byte_steady values values_lawful) l r x e in (
        record { room = roomy_bare values l (pairs (maps.slots r) n) (pairs_of r.spans n) (firsts_bare r.spans (values.read r.words) n) y; used = d },
        i,
        sym (eqb-true n (length r.words) j),
        sym (eqb-true (length l.spans.marks) (length l.words) k),
      )

  -- and then all pairs go in
  pub union_done : {u : ℕ} {m : ByteMemory values} → a ≡ Ok u → m ≡ all_stored maps l r (length r.spans.marks) → told (outcome_numbers (Ok tt)) m ≡ union_of maps l r
  unfolding union_of after_union all_stored acted done_said outcome_numbers
  union_done q e = let (x, d, w) = plan_go q in rw d (ap (λ m. told (outcome_numbers (Ok tt)) m) e)

  -- a refusal leaves all
  pub union_refused : {x : Refusal} → a ≡ Err x → told (outcome_numbers (Err x)) l ≡ union_of maps l r
  unfolding planned plan_of union_of after_union acted done_said outcome_numbers
  union_refused {x} q = rw (give_no (used_of l.spans) (number_of x) (union maps l r) (rw q at p))
