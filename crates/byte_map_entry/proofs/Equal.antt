-- Equal numbers are equal answers of entry.
use Rattle.std.proofs.Common.{◌≡◌, refl, ap}
use Rattle.answers.proofs.Told.{number_of_injective, other_case}
use Rattle.byte_map_entry.specs.declared.Entered.{Entered}
use Rattle.byte_map_entry.specs.declared.Entered.TheVariants as entered
use Rattle.byte_map_entry.specs.Numbers.{entered_numbers}

pub entered_numbers_injective : (a b : Entered) → entered_numbers a ≡ entered_numbers b → a ≡ b
unfolding entered_numbers
entered_numbers_injective (entered.Occupied h v e) (entered.Occupied h' v' e') q = let z : h ≡ h' = ap (λ s. record { slot = s }) (ap (λ n. n.slot) q) in let y : v ≡ v' = ap (λ n. n.value) q in let x : e ≡ e' = ap (λ n. n.examined) q in cc
entered_numbers_injective (entered.Occupied h v e) (entered.Vacant h' e') q = other_case q refl
entered_numbers_injective (entered.Occupied h v e) (entered.Refused r') q = other_case q refl
entered_numbers_injective (entered.Vacant h e) (entered.Occupied h' v' e') q = other_case q refl
entered_numbers_injective (entered.Vacant h e) (entered.Vacant h' e') q = let z : h ≡ h' = ap (λ s. record { slot = s }) (ap (λ n. n.slot) q) in let x : e ≡ e' = ap (λ n. n.examined) q in cc
entered_numbers_injective (entered.Vacant h e) (entered.Refused r') q = other_case q refl
entered_numbers_injective (entered.Refused r) (entered.Occupied h' v' e') q = other_case q refl
entered_numbers_injective (entered.Refused r) (entered.Vacant h' e') q = other_case q refl
entered_numbers_injective (entered.Refused r) (entered.Refused r') q = ap entered.Refused (number_of_injective r r' (ap (λ n. n.refusal) q))
