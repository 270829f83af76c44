-- Offsets that fall one by one.
use Rattle.std.proofs.Common.{ℕ, ◌≤◌, ◌<◌, List, ◌≡◌, sym, ◌∙◌, arith, length, get_or, ext_get_or}
use Rattle.byte_slots.specs.Memory.{fall, fallen}
use Rattle.byte_slots.proofs.Writes.{length_fallen, get_d_fallen}

-- The offsets of the first i slots fell: they are ps now.
pub record Falling (e l : ℕ) (ms os : List ℕ) (i : ℕ) (ps : List ℕ) : Type 0 where
  pub long : length ps ≡ length os
  pub fell : (j : ℕ) → j < i → get_or ps j 0 ≡ fall e l (get_or ms j 0) (get_or os j 0)
  pub waits : (j : ℕ) → i ≤ j → get_or ps j 0 ≡ get_or os j 0

module _ (e l : ℕ) (ms os : List ℕ) where
  -- all fell
  pub falling_all : (i : ℕ) (ps : List ℕ) → length os ≤ i → Falling e l ms os i ps → ps ≡ fallen e l ms os
  falling_all i ps n f = ext_get_or 0 ps (fallen e l ms os) (f.long ∙ sym (length_fallen e l ms os)) (λ j c. f.fell j (omega (arith, f.long)) ∙ sym (get_d_fallen e l ms os j))
