-- What the answers over marks and keys say of the calls' definitions, for any column: the laws that maps and sets cite.
use Prim.Native.Nat.{ℕ, ◌-◌, ◌≤◌, ◌<◌}
use mathlib.Core.Bool.{Bool, true, false, ◌&&◌}
use mathlib.Core.List.{List}
use mathlib.Core.Path.{◌≡◌, refl, sym, ◌∙◌}
use native.Mathlib.Omega.{arith}
use borrow.Author.Tests.{le-leb}
use lib.Dec.{eqb, leb}
use lib.ListN.{length}
use Rattle.model.specs.Store.{path, live_count, used, damaged_slots}
use Rattle.model.specs.Calls.{Or, no, need, pass, seen_by, spot_by, get, entry, remove}
use Rattle.model.proofs.Cases.{by_bool, clash}
use Rattle.digest.specs.Home.{home_of_word, slots_fit}
use Rattle.digest.proofs.Bounds.{home_word_below}
use Rattle.answers.specs.declared.Refusal.TheVariants.{Sizes}
use Rattle.kinds.specs.Columns.{Column}
use Rattle.kinds.specs.Columns as columns
use Rattle.kinds.specs.Marks.{words_of}
use Rattle.kinds.specs.Probing.{along}
use Rattle.kinds.proofs.Bridge as kinds
use Rattle.kinds.proofs.Bridge.{seen_of, spot_of, path_cells, seen_path, spot_path, hit_below, free_below, scanning_cells}
use Rattle.int_slots.specs.Memory.{IntMemory, int_store, fitting}
use Rattle.int_slots.specs.Probing.{probing}
use Rattle.int_slots.specs.Scanning.{scanning}
use Rattle.int_slots.proofs.Sizes.{fitting_says}
use Rattle.std.specs.Prelude.{Result, Ok, Err}
use Rattle.answers.specs.declared.Refusal.{Refusal}
use Rattle.kinds.specs.declared.Probed.{Probed}
use Rattle.kinds.specs.declared.Probed.TheVariants.{Hit, Free}
use Rattle.answers.specs.declared.Refusal.TheVariants as refusal

and_assoc : (a b c : Bool) → (a && (b && c)) ≡ ((a && b) && c)
and_assoc true b c = refl
and_assoc false b c = refl

module _ {W : Type 0} (C : Column W) (m : IntMemory C) where
  -- right sizes: marks and keys fit, and the column is as long
  pub sized_is : (int_store C).sized m ≡ (fitting m.marks m.keys && C.long m.words (length m.marks))
  unfolding fitting
  sized_is = and_assoc (slots_fit (length m.marks)) (eqb (length m.marks) (length m.keys)) (C.long m.words (length m.marks))

  -- a column of another length: wrong sizes
  pub sized_short : C.long m.words (length m.marks) ≡ false → (int_store C).sized m ≡ false
  sized_short e = rw (sized_is, e) (by_bool (fitting m.marks m.keys) (λ f. rw f) (λ f. rw f))

  -- and so any call that tests its sizes is refused 1
  pub short_refused : {A : Type 0} (a : Or A) → C.long m.words (length m.marks) ≡ false → need ((int_store C).sized m) 1 a ≡ no 1
  unfolding need
  short_refused a e = rw (sized_short e)

  module _ (k : ℕ) where
    -- the probing is the path, in slots
    pub probing_path : fitting m.marks m.keys ≡ true → probing m.marks m.keys k ≡ along (length m.marks) (home_of_word 0 (length m.marks) k) (path (int_store C) m k)
    unfolding probing
    probing_path f = rw f (sym (path_cells (int_store C) m (words_of m.marks) (words_of m.keys) (C.read m.words) refl k))

    -- or refusal 1
    pub probing_unfit : fitting m.marks m.keys ≡ false → probing m.marks m.keys k ≡ Err Sizes
    unfolding probing
    probing_unfit f = rw f

    -- where marks and keys fit, the home slot is the table's
    pub home_inside : fitting m.marks m.keys ≡ true → (int_store C).home m k < length m.marks
    home_inside f = home_word_below 0 (length m.marks) k (fitting_says m.marks m.keys f).0

    -- both calls, by the probing
    pub seen_probing : fitting m.marks m.keys ≡ true → seen_by (int_store C) m k (path (int_store C) m k) ≡ seen_of (C.read m.words) (probing m.marks m.keys k)
    seen_probing f = rw (probing_path f) (seen_path (int_store C) m (words_of m.marks) (words_of m.keys) (C.read m.words) refl k)

    pub spot_probing : fitting m.marks m.keys ≡ true → spot_by (int_store C) m k (path (int_store C) m k) ≡ spot_of (C.read m.words) (probing m.marks m.keys k)
    spot_probing f =
        let room : leb 0 (0 - used (int_store C) m) ≡ true = le-leb 0 (0 - used (int_store C) m) (omega arith) in
        rw (probing_path f, ← room) (spot_path (int_store C) m (words_of m.marks) (words_of m.keys) (C.read m.words) refl k)

    -- where a probing answered r
    module _ {r : Result Probed Refusal} (p : r ≡ probing m.marks m.keys k) where
      -- any answer but refusal 1 means that marks and keys fit
      pub fits_unless : (r ≡ Err Sizes → ⊥) → fitting m.marks m.keys ≡ true
      fits_unless h = by_bool (fitting m.marks m.keys) (λ f. f) (λ f. absurd (h (p ∙ probing_unfit f)))

      -- the whole calls, by what the probing answered, where the column is as long as the marks
      module _ {x : Result Probed Refusal} (q : r ≡ x) (long : C.long m.words (length m.marks) ≡ true) where
        pub get_probing : get (int_store C) m k ≡ seen_of (C.read m.words) x
        unfolding get need pass
        get_probing = rw (sized_is, long, ← q, p) (by_bool (fitting m.marks m.keys) (λ f. rw f (seen_probing f)) (λ f. rw (f, probing_unfit f)))

        pub remove_probing : remove (int_store C) m k ≡ seen_of (C.read m.words) x
        unfolding remove need pass
        remove_probing = rw (sized_is, long, ← q, p) (by_bool (fitting m.marks m.keys) (λ f. rw f (seen_probing f)) (λ f. rw (f, probing_unfit f)))

        pub entry_probing : entry (int_store C) m k ≡ spot_of (C.read m.words) x
        unfolding entry need pass
        entry_probing = rw (sized_is, long, ← q, p) (by_bool (fitting m.marks m.keys) (λ f. rw f (spot_probing f)) (λ f. rw (f, probing_unfit f)))

  -- the scan tells the table's own damage and length
  module _ {r : Result ℕ Refusal} (p : r ≡ scanning m.marks) where
    pub scan_bad : r ≡ Err refusal.Damaged → damaged_slots (int_store C) m ≡ true
    unfolding scanning
    scan_bad q = kinds.scan_bad (int_store C) m (words_of m.marks) (words_of m.keys) (C.read m.words) refl p q

    -- and damage is its only refusal
    pub scan_refused : {e : Refusal} → r ≡ Err e → (damaged_slots (int_store C) m ≡ true) × (e ≡ refusal.Damaged)
    unfolding scanning
    scan_refused {e} q =
        let t = scanning_cells (int_store C) m (words_of m.marks) (words_of m.keys) (C.read m.words) refl in
        by_bool (damaged_slots (int_store C) m)
        (λ h. let w : Err e ≡ Err refusal.Damaged = sym q ∙ p ∙ (rw h at t) in (h, cc))
        (λ h. clash (cc (rw h at t)))

    pub scan_live : {n : ℕ} → r ≡ Ok n → (damaged_slots (int_store C) m ≡ false) × (live_count (int_store C) m ≡ n) × (n ≤ length m.marks)
    unfolding scanning
    scan_live q = kinds.scan_live (int_store C) m (words_of m.marks) (words_of m.keys) (C.read m.words) refl p q

-- a slot that a probing gives is one of the table's, and there are as many keys as marks
module _ (marks keys : List ℕ) (k : ℕ) {r : Result Probed Refusal} (p : r ≡ probing marks keys k) where
  -- marks and keys alone
  bare : IntMemory columns.nothing
  bare = record { marks = marks; keys = keys; words = tt }

  pub hit_slot : {s e : ℕ} → r ≡ Ok (Hit s e) → (s < length marks) × (length keys ≡ length marks)
  unfolding bare
  hit_slot q =
      let f = fits_unless columns.nothing bare k p (λ z. clash cc) in
      (hit_below (int_store columns.nothing) bare k (home_inside columns.nothing bare k f) (sym (probing_path columns.nothing bare k f) ∙ sym p ∙ q), (fitting_says marks keys f).1)

  pub free_slot : {s e : ℕ} → r ≡ Ok (Free s e) → (s < length marks) × (length keys ≡ length marks)
  unfolding bare
  free_slot q =
      let f = fits_unless columns.nothing bare k p (λ z. clash cc) in
      (free_below (int_store columns.nothing) bare k (home_inside columns.nothing bare k f) (sym (probing_path columns.nothing bare k f) ∙ sym p ∙ q), (fitting_says marks keys f).1)
