-- Equal numbers are equal answers, for each answer that is declared here.
use Rattle.std.proofs.Common.{◌≡◌, refl, ap, Result, ℕ, Ok, Err}
use Rattle.answers.proofs.Told.{number_of_injective, other_case}
use Rattle.byte_map_occupied.specs.Numbers.{held_numbers, swapped_numbers, taken_numbers}
use Rattle.answers.specs.declared.Refusal.{Refusal}
use Rattle.byte_map_occupied.specs.declared.Occupied.{Occupied}

pub held_numbers_injective : (a b : Result (ℕ × Occupied) Refusal) → held_numbers a ≡ held_numbers b → a ≡ b
unfolding held_numbers
held_numbers_injective (Ok (v, h)) (Ok (v', h')) q = let z : h ≡ h' = ap (λ s. record { slot = s }) (ap (λ n. n.slot) q) in let y : v ≡ v' = ap (λ n. n.value) q in cc
held_numbers_injective (Ok (v, h)) (Err r') q = other_case q refl
held_numbers_injective (Err r) (Ok (v', h')) q = other_case q refl
held_numbers_injective (Err r) (Err r') q = ap Err (number_of_injective r r' (ap (λ n. n.refusal) q))

pub swapped_numbers_injective : (a b : Result (ℕ × Occupied) Refusal) → swapped_numbers a ≡ swapped_numbers b → a ≡ b
unfolding swapped_numbers
swapped_numbers_injective (Ok (v, h)) (Ok (v', h')) q = let z : h ≡ h' = ap (λ s. record { slot = s }) (ap (λ n. n.slot) q) in let y : v ≡ v' = ap (λ n. n.value) q in cc
swapped_numbers_injective (Ok (v, h)) (Err r') q = other_case q refl
swapped_numbers_injective (Err r) (Ok (v', h')) q = other_case q refl
swapped_numbers_injective (Err r) (Err r') q = ap Err (number_of_injective r r' (ap (λ n. n.refusal) q))

pub taken_numbers_injective : (a b : Result ℕ Refusal) → taken_numbers a ≡ taken_numbers b → a ≡ b
unfolding taken_numbers
taken_numbers_injective (Ok v) (Ok v') q = ap Ok (ap (λ n. n.value) q)
taken_numbers_injective (Ok v) (Err r') q = other_case q refl
taken_numbers_injective (Err r) (Ok v') q = other_case q refl
taken_numbers_injective (Err r) (Err r') q = ap Err (number_of_injective r r' (ap (λ n. n.refusal) q))
