-- A contract that is one equation settles its answer and the memory, where equal numbers are equal answers.
use mathlib.Core.Path.{◌≡◌, sym, ◌∙◌}
use Rattle.answers.specs.declared.Numbers.{Numbers}
use Rattle.kinds.specs.Told.{ToldAndLeft, told, Settled, SettledWith}
use Rattle.kinds.proofs.Told.{said, left}

module _ {A : Type 0} {f : A → Numbers} (injective : (a b : A) → f a ≡ f b → a ≡ b) where
  pub settled : {n : Numbers} → Settled f n
  settled r s p q = injective r s (p ∙ sym q)

  pub settled_with : {M : Type 0} {t : ToldAndLeft M} → SettledWith f t
  settled_with r s m n p q =
      let z : told (f r) m ≡ told (f s) n = p ∙ sym q in
      (injective r s (said z), left z)
