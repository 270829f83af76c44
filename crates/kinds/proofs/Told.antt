-- What is told and what is left, apart and together.
use mathlib.Core.Path.{◌≡◌, ap, ap₂}
use Rattle.answers.specs.declared.Numbers.{Numbers}
use Rattle.kinds.specs.Told.{told}

module _ {M : Type 0} {a b : Numbers} {m n : M} where
  pub said : told a m ≡ told b n → a ≡ b
  said e = ap (λ t. t.numbers) e

  pub left : told a m ≡ told b n → m ≡ n
  left e = ap (λ t. t.memory) e

  pub retold : a ≡ b → m ≡ n → told a m ≡ told b n
  retold p q = ap₂ (λ a m. told a m) p q
