-- What fitting sizes say, and the probing's answer by them.
use Prim.Native.Nat.{ℕ, ◌<◌}
use mathlib.Core.Bool.{Bool, true, false}
use mathlib.Core.List.{List}
use mathlib.Core.Path.{◌≡◌, sym, ◌∙◌}
use borrow.Author.Tests.{ltb-true, eqb-true}
use lib.Dec.{ltb, leb, eqb}
use lib.ListN.{length}
use Rattle.model.specs.Path.{find}
use Rattle.model.proofs.Cases.{both}
use Rattle.digest.specs.Home.{home_of_word, slots_fit}
use Rattle.digest.proofs.Bounds.{home_word_below}
use Rattle.answers.specs.declared.Refusal.TheVariants.{Sizes}
use Rattle.kinds.specs.Probing.{along}
use Rattle.int_slots.specs.Memory.{integers, fitting}
use Rattle.int_slots.specs.Probing.{slots_in, probing}
use Rattle.std.specs.Prelude.{Result, Err}
use Rattle.answers.specs.declared.Refusal.{Refusal}
use Rattle.kinds.specs.declared.Probed.{Probed}

module _ (marks keys : List ℕ) where
  -- marks and keys that fit are of one length, and there are some
  pub fitting_says : fitting marks keys ≡ true → (0 < length marks) × (length keys ≡ length marks)
  unfolding fitting
  fitting_says f =
      let (a, b) = both (slots_fit (length marks)) (eqb (length marks) (length keys)) f in
      let (c, d) = both (ltb 0 (length marks)) (leb (length marks) 4096) a in
      (ltb-true 0 (length marks) c, sym (eqb-true (length marks) (length keys) b))

  module _ (k : ℕ) {b : Bool} (p : b ≡ fitting marks keys) where
    -- where they fit, a key's home slot is one of them
    pub home_fits : {h : ℕ} → b ≡ true → h ≡ home_of_word 0 (length marks) k → (h < length marks) × (length keys ≡ length marks)
    home_fits q e = let (a, c) = fitting_says (sym p ∙ q) in (rw e (home_word_below 0 (length marks) k a), c)

    -- and the probing is the path's answer
    pub probing_fit : {h : ℕ} {r : Result Probed Refusal} → b ≡ true → h ≡ home_of_word 0 (length marks) k → r ≡ along (length marks) h (find integers (length marks) h (slots_in marks keys) k) → r ≡ probing marks keys k
    unfolding probing
    probing_fit q e w = rw (sym p ∙ q, ← e) w

    -- else it is refusal 1
    pub probing_misfit : b ≡ false → Err Sizes ≡ probing marks keys k
    unfolding probing
    probing_misfit q = rw (sym p ∙ q)
