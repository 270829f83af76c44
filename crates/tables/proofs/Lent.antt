-- What make and copy tell and leave, by what was lent, at any store.
use Rattle.std.specs.Prelude.{Result, Ok, Err}
use Rattle.std.proofs.Common.{ℕ, ◌≡◌}
use Rattle.model.specs.Store.{Store}
use Rattle.answers.specs.declared.Refusal.{Refusal}
use Rattle.answers.specs.declared.Refusal.TheVariants.{Sizes}
use Rattle.answers.specs.Numbers.{outcome_numbers}
use Rattle.kinds.specs.Calls.{make_of, copy_of}
use Rattle.kinds.specs.Told.{told}
use Rattle.kinds.proofs.Sizing.{make_unsized, make_sized}
use Rattle.kinds.proofs.Copying.{copy_unsized, copy_from_unsized, copy_slots, copy_sized}
use Rattle.tables.specs.Reading.{lent_of}
use Rattle.tables.proofs.Calls.{lent_err, lent_ok}

module _ {K W : Type 0} (M : Store K W) (m : M.State) {r : Result M.State Refusal} (p : r ≡ lent_of M m) where
  -- make and clear
  pub make_unlent : {y : Refusal} → r ≡ Err y → told (outcome_numbers (Err y)) m ≡ make_of M m
  make_unlent q = let (f, e) = lent_err M m p q in rw e (make_unsized M m f)

  pub make_lent : {n : M.State} → r ≡ Ok n → {x : M.State} → x ≡ M.wipe m → told (outcome_numbers (Ok tt)) x ≡ make_of M m
  make_lent q w = make_sized M m (lent_ok M m p q).0 w

  -- copy onto m from another
  module _ (from : M.State) where
    pub copy_unlent : {y : Refusal} → r ≡ Err y → told (outcome_numbers (Err y)) m ≡ copy_of M m from
    copy_unlent q = let (f, e) = lent_err M m p q in rw e (copy_unsized M m from f)

    module _ {n : M.State} (a : r ≡ Ok n) {s : Result M.State Refusal} (q : s ≡ lent_of M from) where
      pub copy_from_unlent : {y : Refusal} → s ≡ Err y → told (outcome_numbers (Err y)) m ≡ copy_of M m from
      copy_from_unlent b = let (f, e) = lent_err M from q b in rw e (copy_from_unsized M m from (lent_ok M m p a).0 f)

      module _ {o : M.State} (b : s ≡ Ok o) where
        pub copy_slots_unlike : {z : ℕ} → z ≡ M.size o → (M.size m ≡ z → ⊥) → told (outcome_numbers (Err Sizes)) m ≡ copy_of M m from
        copy_slots_unlike w h = let (f, e) = lent_ok M from q b in copy_slots M m from (lent_ok M m p a).0 f (rw (w, e) at h)

        pub copy_lent : {z : ℕ} → z ≡ M.size o → M.size m ≡ z → M.bytes m ≡ M.bytes from → {x : M.State} → x ≡ from → told (outcome_numbers (Ok tt)) x ≡ copy_of M m from
        copy_lent y h i w = let (f, e) = lent_ok M from q b in copy_sized M m from (lent_ok M m p a).0 f (rw (y, e) at h) i w
