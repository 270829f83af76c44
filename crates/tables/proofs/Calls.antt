-- What calls that read tell, by what the loops found, at any store.
use Rattle.std.specs.Prelude.{Result, Ok, Err}
use Rattle.std.proofs.Common.{ℕ, zero, suc, ◌≤◌, ◌<◌, true, false, ◌≡◌, refl, sym, ap, ◌∙◌, ◌⊎◌, inl, inr, nat_eq, ltb}
use native.Mathlib.Omega.{arith}
use Rattle.model.specs.Path.{Find, hit, miss, damage}
use Rattle.model.specs.Store.{Store, path, live_count, damaged_slots}
use Rattle.model.specs.Calls.{Or, Seen, no, need, pass, get, length, seen_by}
use Rattle.model.specs.Machine.{stepping}
use Rattle.model.proofs.Cases.{by_bool, clash}
use Rattle.answers.specs.Numbers.{contained_numbers, counted_numbers, emptiness_numbers, reserved_numbers}
use Rattle.answers.specs.Refusals.{number_of}
use Rattle.answers.specs.Said.{said_no, contained_said, count_said, empty_said, step_said}
use Rattle.answers.specs.declared.Contained.{Contained}
use Rattle.answers.specs.declared.Numbers.{Numbers}
use Rattle.answers.specs.declared.Contained.TheVariants.{Present, Absent}
use Rattle.answers.specs.declared.Refusal.{Refusal}
use Rattle.answers.specs.declared.Refusal.TheVariants as refusal
use Rattle.kinds.specs.declared.Probed.{Probed}
use Rattle.kinds.specs.declared.Probed.TheVariants.{Hit, Free, Full}
use Rattle.kinds.specs.Calls.{capacity_of, contains_of, is_empty_of, len_of, reserve_of}
use Rattle.kinds.proofs.Sizing.{capacity_unsized, contains_unsized, empty_unsized, len_unsized, reserve_unsized}
use Rattle.kinds.specs.Marks.{cells_of}
use Rattle.kinds.specs.Probing.{along}
use Rattle.kinds.proofs.Bridge.{hit_below, seen_of, seen_path}
use Rattle.tables.specs.Handing.{Parts, numbers_of, yielded_numbers}
use Rattle.tables.specs.declared.walks.Stepped.{Stepped}
use Rattle.tables.specs.declared.walks.Walk.{Walk}
use Rattle.tables.specs.Reading.{lent_of, probing, scanning}

-- what the lending answered, and what it says of the calls that begin with it
module _ {K W : Type 0} (M : Store K W) (m : M.State) {r : Result M.State Refusal} (p : r ≡ lent_of M m) where
  module _ {n : M.State} (q : r ≡ Ok n) where
    pub lent_ok : (M.sized m ≡ true) × (n ≡ m)
    unfolding lent_of
    lent_ok = by_bool (M.sized m)
        (λ s. let e : Ok n ≡ Ok m = rw s at (sym q ∙ p) in (s, cc))
        (λ s. clash (cc (rw s at (sym q ∙ p))))

    pub lent_is : n ≡ m
    lent_is = lent_ok.1

    pub lent_sized : M.sized n ≡ true
    lent_sized = rw lent_is lent_ok.0

  module _ {y : Refusal} (q : r ≡ Err y) where
    pub lent_err : (M.sized m ≡ false) × (y ≡ refusal.Sizes)
    unfolding lent_of
    lent_err = by_bool (M.sized m)
        (λ s. clash (cc (rw s at (sym q ∙ p))))
        (λ s. let e : Err y ≡ Err refusal.Sizes = rw s at (sym q ∙ p) in (s, cc))

    pub capacity_refused : counted_numbers (Err y) ≡ capacity_of M m
    capacity_refused = rw lent_err.1 (capacity_unsized M m lent_err.0)

    pub len_refused : counted_numbers (Err y) ≡ len_of M m
    len_refused = rw lent_err.1 (len_unsized M m lent_err.0)

    pub empty_refused : emptiness_numbers (Err y) ≡ is_empty_of M m
    empty_refused = rw lent_err.1 (empty_unsized M m lent_err.0)

    pub reserve_refused : (keys bytes : ℕ) → reserved_numbers (Err y) ≡ reserve_of M m keys bytes
    reserve_refused keys bytes = rw lent_err.1 (reserve_unsized M m lent_err.0 keys bytes)

    pub step_refused : {T : Type 0} (parts : T → Parts) (hand : K → W → ℕ → ℕ → Numbers) {s : Stepped T} (w : Walk) (b : ℕ) → (s.walk ≡ w) × (s.out ≡ Err y) × (s.examined ≡ 0) → numbers_of parts s ≡ step_said hand w.at (stepping M m w.at b)
    unfolding stepping need step_said numbers_of yielded_numbers
    step_refused parts hand w b (p, q, e) = rw (p, q, e, lent_err.0, lent_err.1)

    pub get_refused : (k : K) → get M m k ≡ no (number_of y)
    unfolding get need
    get_refused k = rw (lent_err.0, lent_err.1)

    pub contains_refused : (k : K) → contained_numbers (Err y) ≡ contains_of M m k
    contains_refused k = rw lent_err.1 (contains_unsized M m lent_err.0 k)

-- what contains makes of a path
abbrev contained_of : Result Probed Refusal → Result Contained Refusal
contained_of (Ok (Hit s e)) = Ok (Present e)
contained_of (Ok (Free s e)) = Ok (Absent e)
contained_of (Ok (Full e)) = Ok (Absent e)
contained_of (Err r) = Err r

by_find : {K W : Type 0} (M : Store K W) (m : M.State) (k : K) (x : Find W) → contained_numbers (contained_of (along (M.size m) (M.home m k) x)) ≡ contained_said (seen_by M m k x)
unfolding along seen_by contained_said contained_numbers
by_find M m k (hit n v) = refl
by_find M m k (miss e f) = by_bool (ltb f (M.size m)) (λ t. rw t) (λ t. rw t)
by_find M m k damage = refl

-- a refusal passes
passed : {W : Type 0} (x : Or (Seen W)) (n : ℕ) → 1 ≤ n → said_no n ≡ contained_said (pass n x)
unfolding pass contained_said
passed x zero l = let z : ⊥ = omega arith in absurd z
passed x (suc n) l = refl

module _ {K W : Type 0} (M : Store K W) (m : M.State) (sized : M.sized m ≡ true) where
  -- the scan is the length
  pub len_told : {r : Result ℕ Refusal} → r ≡ scanning M m → counted_numbers r ≡ len_of M m
  unfolding scanning len_of length need count_said counted_numbers
  len_told p = rw (p, sized) (by_bool (damaged_slots M m) (λ h. rw h) (λ h. rw h))

  pub empty_told : {r : Result ℕ Refusal} {n : ℕ} → r ≡ scanning M m → r ≡ Ok n → emptiness_numbers (Ok (nat_eq n 0)) ≡ is_empty_of M m
  unfolding scanning is_empty_of length need empty_said emptiness_numbers
  empty_told {r} {n} p q = rw sized (by_bool (damaged_slots M m)
      (λ h. clash (cc (rw h at (sym q ∙ p))))
      (λ h. let u : Ok n ≡ Ok (live_count M m) = rw h at (sym q ∙ p) in let z : n ≡ live_count M m = cc in rw (h, z) (by_bool (nat_eq (live_count M m) 0) (λ t. rw t) (λ t. rw t))))

  pub empty_bad : {r : Result ℕ Refusal} {y : Refusal} → r ≡ scanning M m → r ≡ Err y → emptiness_numbers (Err y) ≡ is_empty_of M m
  unfolding scanning is_empty_of length need empty_said emptiness_numbers
  empty_bad p q = rw sized (by_bool (damaged_slots M m) (λ h. let z = rw h at (sym q ∙ p) in rw h cc) (λ h. clash (cc (rw h at (sym q ∙ p)))))

  module _ (k : K) where
    -- one that may, by what its path found
    module _ (may : M.asked k ≡ 0) {r : Result Probed Refusal} (p : r ≡ probing M m k) where
      told : {x : Result Probed Refusal} → r ≡ x → contained_numbers (contained_of x) ≡ contains_of M m k
      unfolding contains_of get need pass probing
      told q = rw (sized, may, ← q, p) (by_find M m k (path M m k))

      pub contained_hit : {s e : ℕ} → r ≡ Ok (Hit s e) → contained_numbers (Ok (Present e)) ≡ contains_of M m k
      contained_hit q = told q

      pub contained_absent : {x : Probed} {e : ℕ} → r ≡ Ok x → ((s : ℕ) × (x ≡ Free s e)) ⊎ (x ≡ Full e) → contained_numbers (Ok (Absent e)) ≡ contains_of M m k
      contained_absent q (inl (s, z)) = told (q ∙ ap Ok z)
      contained_absent q (inr z) = told (q ∙ ap Ok z)

      pub contained_bad : {y : Refusal} → r ≡ Err y → contained_numbers (Err y) ≡ contains_of M m k
      contained_bad q = told q

-- what a lookup answers, by what its path found, where the slots stand by marks, keys and values
module _ {K W : Type 0} (M : Store K W) (m : M.State) (mark : ℕ → ℕ) (key : ℕ → K) (v : ℕ → W) (stand : M.slots m ≡ cells_of mark key v) (k : K) where
  pub get_told : M.sized m ≡ true → M.asked k ≡ 0 → {r x : Result Probed Refusal} → r ≡ probing M m k → r ≡ x → get M m k ≡ seen_of v x
  unfolding get need pass probing
  get_told z a p q = rw (z, a, ← q, p) (seen_path M m mark key v stand k)

-- the slot where it found the key is one of the table's
pub found_inside : {K W : Type 0} (M : Store K W) (m : M.State) (k : K) → M.home m k < M.size m → {r : Result Probed Refusal} {s e : ℕ} → r ≡ probing M m k → r ≡ Ok (Hit s e) → s < M.size m
unfolding probing
found_inside M m k l p q = hit_below M m k l (sym p ∙ q)
