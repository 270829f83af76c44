-- Vacant handles: what the probing says of them, and what their insert tells and leaves by it.
use Prim.Native.Nat.{ℕ, ◌-◌, ◌<◌}
use mathlib.Core.Bool.{false}
use mathlib.Core.List.{List}
use mathlib.Core.Path.{◌≡◌, refl, sym, ◌∙◌, ap}
use native.Mathlib.Omega.{arith}
use borrow.Author.Tests.{le-leb, eq-eqb, ne_eqb}
use lib.Dec.{eqb, ltb}
use lib.ListN.{length, get_or, set}
use Rattle.model.specs.Path.{Find, hit, miss, damage}
use Rattle.model.specs.Store.{path, slot_at, used}
use Rattle.model.specs.Calls.{Or, no, ok, need, pass, give, acted, spot_by, entry, good_for, vacancy, vacant_insert, after_fill}
use Rattle.model.proofs.Cases.{by_bool, by_eq, clash}
use Rattle.digest.specs.Home.{home_of_word}
use Rattle.answers.proofs.Told.{other_case}
use Rattle.answers.specs.declared.Refusal.{Refusal}
use Rattle.answers.specs.declared.Refusal.TheVariants.{BadHandle}
use Rattle.answers.specs.Refusals.{number_of}
use Rattle.answers.specs.Numbers.{outcome_numbers}
use Rattle.answers.specs.Said.{done_said, in_slot_said}
use Rattle.kinds.specs.Columns.{values}
use Rattle.int_slots.specs.Memory.{IntMemory, memory}
use Rattle.kinds.specs.Probing.{along}
use Rattle.int_slots.specs.Seeking.{probing_beside, probing_map}
use Rattle.kinds.proofs.Bridge.{spot_of}
use Rattle.int_slots.proofs.Seeking.{entry_probed, path_probed, free_inside}
use Rattle.answers.specs.declared.Numbers.{Numbers}
use Rattle.tables.specs.Reading.{lent_of}
use Rattle.tables.proofs.Calls.{lent_ok}
use Rattle.int_slots.specs.Maps.{maps, MapMemory}
use Rattle.int_slots.proofs.Lent.{map_unprobed}
use Rattle.kinds.specs.Told.{told}
use Rattle.int_map_vacant.specs.Numbers.{in_slot_numbers}
use Rattle.int_slots.specs.Kinds.{vacancy_of}
use Rattle.kinds.specs.Calls.{vacant_insert_of}
use Rattle.std.specs.Prelude.{Result, Ok, Err}
use Rattle.kinds.specs.declared.Probed.{Probed}
use Rattle.kinds.specs.declared.Probed.TheVariants.{Hit, Free, Full}

-- What a vacant handle of slot s is worth where the probing ended so.
abbrev good_of : ℕ → Result Probed Refusal → Or (Unit {0})
good_of s (Ok (Hit x e)) = no 6
good_of s (Ok (Free x e)) = need (eqb s x) 6 (ok tt)
good_of s (Ok (Full e)) = no 6
good_of s (Err r) = no (number_of r)

module _ (m : IntMemory values) (s k : ℕ) where
  good_along : (x : Find ℕ) → good_for maps s (spot_by maps m k x) ≡ good_of s (along (length m.marks) (home_of_word 0 (length m.marks) k) x)
  unfolding good_for spot_by along slot_at need
  good_along (hit n v) = refl
  good_along (miss e f) = by_bool (ltb f (length m.marks)) (λ t. rw (t, le-leb 0 (0 - used maps m) (omega arith))) (λ t. rw t)
  good_along damage = refl

  -- refusal 1 of entry is refusal 1 of the handle
  unsized_good : (r : Result Probed Refusal) → no 1 ≡ spot_of (λ i. get_or m.words i 0) r → no 1 ≡ good_of s r
  unsized_good (Ok (Hit x e)) q = clash cc
  unsized_good (Ok (Free x e)) q = clash cc
  unsized_good (Ok (Full e)) q = clash cc
  unsized_good (Err r) q = let z : 1 ≡ number_of r = cc in ap no z

  entry_one : maps.sized m ≡ false → no 1 ≡ entry maps m k
  unfolding entry need
  entry_one e = rw e

  -- a vacant handle by what the probing found
  pub vacancy_probed : vacancy maps m s k ≡ good_of s (probing_beside values m k)
  unfolding vacancy need pass
  vacancy_probed = by_bool (maps.sized m)
      (λ e. rw (e, path_probed values m k e) (good_along (path maps m k)))
      (λ e. rw e (unsized_good (probing_beside values m k) (entry_one e ∙ entry_probed values m k)))

module _ (m : MapMemory) (k : ℕ) {r : Result Probed Refusal} (p : r ≡ probing_map m k) where
  -- what a vacant handle is worth
  module _ (s : ℕ) where
    vacancy_found : vacancy maps m s k ≡ good_of s r
    unfolding probing_map
    vacancy_found = rw p (vacancy_probed m s k)

    pub vacancy_free : {y : Probed} {f e : ℕ} → r ≡ Ok y → y ≡ Free f e → s ≡ f → outcome_numbers (Ok tt) ≡ vacancy_of m s k
    unfolding vacancy_of outcome_numbers done_said need
    vacancy_free {y} {f} q h l = rw (vacancy_found, q, h, eq-eqb s f l)

    pub vacancy_other : {y : Probed} {f e : ℕ} → r ≡ Ok y → y ≡ Free f e → (s ≡ f → ⊥) → outcome_numbers (Err BadHandle) ≡ vacancy_of m s k
    unfolding vacancy_of outcome_numbers done_said need
    vacancy_other {y} {f} q h l = rw (vacancy_found, q, h, ne_eqb s f l)

    pub vacancy_none : (y : Probed) → r ≡ Ok y → ((f e : ℕ) → y ≡ Free f e → ⊥) → outcome_numbers (Err BadHandle) ≡ vacancy_of m s k
    unfolding vacancy_of outcome_numbers done_said
    vacancy_none (Hit f e) q h = rw (vacancy_found, q)
    vacancy_none (Free f e) q h = absurd (h f e refl)
    vacancy_none (Full e) q h = rw (vacancy_found, q)

    pub vacancy_refused : {x : Refusal} → r ≡ Err x → outcome_numbers (Err x) ≡ vacancy_of m s k
    unfolding vacancy_of outcome_numbers done_said
    vacancy_refused q = rw (vacancy_found, q)

-- of lent arrays
module _ (m : MapMemory) (s k : ℕ) {r : Result MapMemory Refusal} (p : r ≡ lent_of maps m) where
  pub vacancy_lent : {n : MapMemory} → r ≡ Ok n → {a : Numbers} → a ≡ vacancy_of n s k → a ≡ vacancy_of m s k
  vacancy_lent q h = rw (lent_ok maps m p q).1 at h

  pub vacancy_unlent : {y : Refusal} → r ≡ Err y → outcome_numbers (Err y) ≡ vacancy_of m s k
  vacancy_unlent q = vacancy_refused m k (map_unprobed m k p q) s refl

-- what the answer says of the theory's
done_ok : {a : Result (Unit {0}) Refusal} (x : Or (Unit {0})) → outcome_numbers a ≡ done_said x → a ≡ Ok tt → x ≡ ok tt
unfolding outcome_numbers done_said
done_ok (no n) p q = other_case (rw q at p) refl
done_ok (ok u) p q = refl

done_no : {a : Result (Unit {0}) Refusal} {e : Refusal} (x : Or (Unit {0})) → outcome_numbers a ≡ done_said x → a ≡ Err e → x ≡ no (number_of e)
unfolding outcome_numbers done_said
done_no (no n) p q = ap no (sym (ap (λ n. n.refusal) (rw q at p)))
done_no (ok u) p q = other_case (rw q at p) refl

-- a good handle's slot is where the probing would go
good_free : (s : ℕ) (r : Result Probed Refusal) → good_of s r ≡ ok tt → (e : ℕ) × (r ≡ Ok (Free s e))
unfolding need
good_free s (Ok (Hit x e)) q = clash cc
good_free s (Ok (Free x e)) q = by_eq s x (λ l t. (e, rw l)) (λ l t. clash (cc (rw t at q)))
good_free s (Ok (Full e)) q = clash cc
good_free s (Err r) q = clash cc

-- where the test of a vacant handle answered a
module _ (marks keys vs : List ℕ) (s k : ℕ) {a : Result (Unit {0}) Refusal} (p : outcome_numbers a ≡ vacancy_of (memory marks keys vs) s k) where
  good : a ≡ Ok tt → vacancy maps (memory marks keys vs) s k ≡ ok tt
  unfolding vacancy_of
  good q = done_ok (vacancy maps (memory marks keys vs) s k) p q

  damaged : {e : Refusal} → a ≡ Err e → vacancy maps (memory marks keys vs) s k ≡ no (number_of e)
  unfolding vacancy_of
  damaged q = done_no (vacancy maps (memory marks keys vs) s k) p q

  pub vacancy_slot : a ≡ Ok tt → (s < length marks) × (s < length keys) × (s < length vs)
  unfolding probing_map
  vacancy_slot q =
      let (e, f) = good_free s (probing_beside values (memory marks keys vs) k) (sym (vacancy_probed (memory marks keys vs) s k) ∙ good q) in
      free_inside (memory marks keys vs) k refl f

  pub insert_done : (v : ℕ) → a ≡ Ok tt → told (in_slot_numbers (Ok ((record { slot = s }), v))) (memory (set marks s 1) (set keys s k) (set vs s v)) ≡ vacant_insert_of maps (memory marks keys vs) s k v
  unfolding vacant_insert_of vacant_insert after_fill give acted in_slot_numbers in_slot_said
  insert_done v q = rw (good q)

  pub insert_refused : {e : Refusal} (v : ℕ) → a ≡ Err e → told (in_slot_numbers (Err e)) (memory marks keys vs) ≡ vacant_insert_of maps (memory marks keys vs) s k v
  unfolding vacant_insert_of vacant_insert after_fill give acted in_slot_numbers in_slot_said
  insert_refused v q = rw (damaged q)
