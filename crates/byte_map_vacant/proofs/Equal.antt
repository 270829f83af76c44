-- Equal numbers are equal answers, for the answer that is declared here.
use Rattle.std.proofs.Common.{◌≡◌, refl, ap, Result, ℕ, Ok, Err}
use Rattle.answers.proofs.Told.{number_of_injective, other_case}
use Rattle.byte_map_vacant.specs.Numbers.{in_slot_numbers}
use Rattle.answers.specs.declared.Refusal.{Refusal}
use Rattle.byte_map_occupied.specs.declared.Occupied.{Occupied}

pub in_slot_numbers_injective : (a b : Result (Occupied × ℕ) Refusal) → in_slot_numbers a ≡ in_slot_numbers b → a ≡ b
unfolding in_slot_numbers
in_slot_numbers_injective (Ok (h, v)) (Ok (h', v')) q = let z : h ≡ h' = ap (λ s. record { slot = s }) (ap (λ n. n.slot) q) in let y : v ≡ v' = ap (λ n. n.value) q in cc
in_slot_numbers_injective (Ok (h, v)) (Err r') q = other_case q refl
in_slot_numbers_injective (Err r) (Ok (h', v')) q = other_case q refl
in_slot_numbers_injective (Err r) (Err r') q = ap Err (number_of_injective r r' (ap (λ n. n.refusal) q))
