-- Where a walk starts is settled: two results that the contract allows are equal.
use Rattle.std.proofs.Common.{◌≡◌, sym, ◌∙◌}
use Rattle.tables.specs.declared.walks.Walk.{Walk}

-- `start`.
pub start_settled : (r s : Walk) → r.at ≡ 0 → s.at ≡ 0 → r ≡ s
start_settled r s p q = let e : r.at ≡ s.at = p ∙ sym q in λ i. record { at = e i }
