-- Equal numbers are equal answers, for each answer that is declared here. Assumes nothing.
use mathlib.Core.Path.{◌≡◌, refl, ap}
use Rattle.answers.specs.Numbers.{outcome_numbers, counted_numbers, emptiness_numbers, reserved_numbers, got_numbers, member_numbers, contained_numbers, inserted_numbers, added_numbers, removed_numbers, dropped_numbers, stored_numbers, joined_numbers, spanned_numbers}
use Rattle.answers.proofs.Told.{number_of_injective, other_case}
use Rattle.std.specs.Prelude.{Result, Ok, Err, ℕ, Bool, true, false}
use Rattle.answers.specs.declared.Refusal.{Refusal}
use Rattle.answers.specs.declared.Lookup.{Lookup}
use Rattle.answers.specs.declared.Lookup.TheVariants.{Found, Absent}
use Rattle.answers.specs.declared.Contained.{Contained}
use Rattle.answers.specs.declared.Contained.TheVariants as contained
use Rattle.answers.specs.declared.Inserted.{Inserted}
use Rattle.answers.specs.declared.Inserted.TheVariants as inserted
use Rattle.answers.specs.declared.Stored.{Stored}
use Rattle.answers.specs.declared.Stored.TheVariants as stored
use Rattle.answers.specs.declared.Span.{Span}

pub outcome_numbers_injective : (a b : Result (Unit {0}) Refusal) → outcome_numbers a ≡ outcome_numbers b → a ≡ b
unfolding outcome_numbers
outcome_numbers_injective (Ok u) (Ok u') q = refl
outcome_numbers_injective (Ok u) (Err r') q = other_case q refl
outcome_numbers_injective (Err r) (Ok u') q = other_case q refl
outcome_numbers_injective (Err r) (Err r') q = ap Err (number_of_injective r r' (ap (λ n. n.refusal) q))

pub counted_numbers_injective : (a b : Result ℕ Refusal) → counted_numbers a ≡ counted_numbers b → a ≡ b
unfolding counted_numbers
counted_numbers_injective (Ok n) (Ok n') q = cc (ap (λ n. n.value) q)
counted_numbers_injective (Ok n) (Err r') q = other_case q refl
counted_numbers_injective (Err r) (Ok n') q = other_case q refl
counted_numbers_injective (Err r) (Err r') q = ap Err (number_of_injective r r' (ap (λ n. n.refusal) q))

pub emptiness_numbers_injective : (a b : Result Bool Refusal) → emptiness_numbers a ≡ emptiness_numbers b → a ≡ b
unfolding emptiness_numbers
emptiness_numbers_injective (Ok true) (Ok true) q = refl
emptiness_numbers_injective (Ok true) (Ok false) q = other_case q refl
emptiness_numbers_injective (Ok true) (Err r') q = other_case q refl
emptiness_numbers_injective (Ok false) (Ok true) q = other_case q refl
emptiness_numbers_injective (Ok false) (Ok false) q = refl
emptiness_numbers_injective (Ok false) (Err r') q = other_case q refl
emptiness_numbers_injective (Err r) (Ok true) q = other_case q refl
emptiness_numbers_injective (Err r) (Ok false) q = other_case q refl
emptiness_numbers_injective (Err r) (Err r') q = ap Err (number_of_injective r r' (ap (λ n. n.refusal) q))

pub reserved_numbers_injective : (a b : Result (Unit {0}) Refusal) → reserved_numbers a ≡ reserved_numbers b → a ≡ b
unfolding reserved_numbers
reserved_numbers_injective (Ok u) (Ok u') q = refl
reserved_numbers_injective (Ok u) (Err r') q = other_case q refl
reserved_numbers_injective (Err r) (Ok u') q = other_case q refl
reserved_numbers_injective (Err r) (Err r') q = ap Err (number_of_injective r r' (ap (λ n. n.refusal) q))

pub got_numbers_injective : (a b : Result (Lookup ℕ) Refusal) → got_numbers a ≡ got_numbers b → a ≡ b
unfolding got_numbers
got_numbers_injective (Ok (Found v s e)) (Ok (Found v' s' e')) q = cc (ap (λ n. n.value) q, ap (λ n. n.slot) q, ap (λ n. n.examined) q)
got_numbers_injective (Ok (Found v s e)) (Ok (Absent e')) q = other_case q refl
got_numbers_injective (Ok (Found v s e)) (Err r') q = other_case q refl
got_numbers_injective (Ok (Absent e)) (Ok (Found v' s' e')) q = other_case q refl
got_numbers_injective (Ok (Absent e)) (Ok (Absent e')) q = cc (ap (λ n. n.examined) q)
got_numbers_injective (Ok (Absent e)) (Err r') q = other_case q refl
got_numbers_injective (Err r) (Ok (Found v' s' e')) q = other_case q refl
got_numbers_injective (Err r) (Ok (Absent e')) q = other_case q refl
got_numbers_injective (Err r) (Err r') q = ap Err (number_of_injective r r' (ap (λ n. n.refusal) q))

pub member_numbers_injective : (a b : Result (Lookup ℕ) Refusal) → member_numbers a ≡ member_numbers b → a ≡ b
unfolding member_numbers
member_numbers_injective (Ok (Found k s e)) (Ok (Found k' s' e')) q = cc (ap (λ n. n.key) q, ap (λ n. n.slot) q, ap (λ n. n.examined) q)
member_numbers_injective (Ok (Found k s e)) (Ok (Absent e')) q = other_case q refl
member_numbers_injective (Ok (Found k s e)) (Err r') q = other_case q refl
member_numbers_injective (Ok (Absent e)) (Ok (Found k' s' e')) q = other_case q refl
member_numbers_injective (Ok (Absent e)) (Ok (Absent e')) q = cc (ap (λ n. n.examined) q)
member_numbers_injective (Ok (Absent e)) (Err r') q = other_case q refl
member_numbers_injective (Err r) (Ok (Found k' s' e')) q = other_case q refl
member_numbers_injective (Err r) (Ok (Absent e')) q = other_case q refl
member_numbers_injective (Err r) (Err r') q = ap Err (number_of_injective r r' (ap (λ n. n.refusal) q))

pub contained_numbers_injective : (a b : Result Contained Refusal) → contained_numbers a ≡ contained_numbers b → a ≡ b
unfolding contained_numbers
contained_numbers_injective (Ok (contained.Present e)) (Ok (contained.Present e')) q = cc (ap (λ n. n.examined) q)
contained_numbers_injective (Ok (contained.Present e)) (Ok (contained.Absent e')) q = other_case q refl
contained_numbers_injective (Ok (contained.Present e)) (Err r') q = other_case q refl
contained_numbers_injective (Ok (contained.Absent e)) (Ok (contained.Present e')) q = other_case q refl
contained_numbers_injective (Ok (contained.Absent e)) (Ok (contained.Absent e')) q = cc (ap (λ n. n.examined) q)
contained_numbers_injective (Ok (contained.Absent e)) (Err r') q = other_case q refl
contained_numbers_injective (Err r) (Ok (contained.Present e')) q = other_case q refl
contained_numbers_injective (Err r) (Ok (contained.Absent e')) q = other_case q refl
contained_numbers_injective (Err r) (Err r') q = ap Err (number_of_injective r r' (ap (λ n. n.refusal) q))

pub inserted_numbers_injective : (a b : Result (Inserted ℕ) Refusal) → inserted_numbers a ≡ inserted_numbers b → a ≡ b
unfolding inserted_numbers
inserted_numbers_injective (Ok (inserted.Fresh s e)) (Ok (inserted.Fresh s' e')) q = cc (ap (λ n. n.slot) q, ap (λ n. n.examined) q)
inserted_numbers_injective (Ok (inserted.Fresh s e)) (Ok (inserted.Replaced v' s' e')) q = other_case q refl
inserted_numbers_injective (Ok (inserted.Fresh s e)) (Err r') q = other_case q refl
inserted_numbers_injective (Ok (inserted.Replaced v s e)) (Ok (inserted.Fresh s' e')) q = other_case q refl
inserted_numbers_injective (Ok (inserted.Replaced v s e)) (Ok (inserted.Replaced v' s' e')) q = cc (ap (λ n. n.value) q, ap (λ n. n.slot) q, ap (λ n. n.examined) q)
inserted_numbers_injective (Ok (inserted.Replaced v s e)) (Err r') q = other_case q refl
inserted_numbers_injective (Err r) (Ok (inserted.Fresh s' e')) q = other_case q refl
inserted_numbers_injective (Err r) (Ok (inserted.Replaced v' s' e')) q = other_case q refl
inserted_numbers_injective (Err r) (Err r') q = ap Err (number_of_injective r r' (ap (λ n. n.refusal) q))

pub added_numbers_injective : (a b : Result (Inserted (Unit {0})) Refusal) → added_numbers a ≡ added_numbers b → a ≡ b
unfolding added_numbers
added_numbers_injective (Ok (inserted.Fresh s e)) (Ok (inserted.Fresh s' e')) q = cc (ap (λ n. n.slot) q, ap (λ n. n.examined) q)
added_numbers_injective (Ok (inserted.Fresh s e)) (Ok (inserted.Replaced u' s' e')) q = other_case q refl
added_numbers_injective (Ok (inserted.Fresh s e)) (Err r') q = other_case q refl
added_numbers_injective (Ok (inserted.Replaced u s e)) (Ok (inserted.Fresh s' e')) q = other_case q refl
added_numbers_injective (Ok (inserted.Replaced u s e)) (Ok (inserted.Replaced u' s' e')) q = ap (λ n. Ok (inserted.Replaced tt n.slot n.examined)) q
added_numbers_injective (Ok (inserted.Replaced u s e)) (Err r') q = other_case q refl
added_numbers_injective (Err r) (Ok (inserted.Fresh s' e')) q = other_case q refl
added_numbers_injective (Err r) (Ok (inserted.Replaced u' s' e')) q = other_case q refl
added_numbers_injective (Err r) (Err r') q = ap Err (number_of_injective r r' (ap (λ n. n.refusal) q))

pub removed_numbers_injective : (a b : Result (Lookup ℕ) Refusal) → removed_numbers a ≡ removed_numbers b → a ≡ b
unfolding removed_numbers
removed_numbers_injective (Ok (Found v s e)) (Ok (Found v' s' e')) q = cc (ap (λ n. n.value) q, ap (λ n. n.slot) q, ap (λ n. n.examined) q)
removed_numbers_injective (Ok (Found v s e)) (Ok (Absent e')) q = other_case q refl
removed_numbers_injective (Ok (Found v s e)) (Err r') q = other_case q refl
removed_numbers_injective (Ok (Absent e)) (Ok (Found v' s' e')) q = other_case q refl
removed_numbers_injective (Ok (Absent e)) (Ok (Absent e')) q = cc (ap (λ n. n.examined) q)
removed_numbers_injective (Ok (Absent e)) (Err r') q = other_case q refl
removed_numbers_injective (Err r) (Ok (Found v' s' e')) q = other_case q refl
removed_numbers_injective (Err r) (Ok (Absent e')) q = other_case q refl
removed_numbers_injective (Err r) (Err r') q = ap Err (number_of_injective r r' (ap (λ n. n.refusal) q))

pub dropped_numbers_injective : (a b : Result (Lookup (Unit {0})) Refusal) → dropped_numbers a ≡ dropped_numbers b → a ≡ b
unfolding dropped_numbers
dropped_numbers_injective (Ok (Found u s e)) (Ok (Found u' s' e')) q = ap (λ n. Ok (Found tt n.slot n.examined)) q
dropped_numbers_injective (Ok (Found u s e)) (Ok (Absent e')) q = other_case q refl
dropped_numbers_injective (Ok (Found u s e)) (Err r') q = other_case q refl
dropped_numbers_injective (Ok (Absent e)) (Ok (Found u' s' e')) q = other_case q refl
dropped_numbers_injective (Ok (Absent e)) (Ok (Absent e')) q = cc (ap (λ n. n.examined) q)
dropped_numbers_injective (Ok (Absent e)) (Err r') q = other_case q refl
dropped_numbers_injective (Err r) (Ok (Found u' s' e')) q = other_case q refl
dropped_numbers_injective (Err r) (Ok (Absent e')) q = other_case q refl
dropped_numbers_injective (Err r) (Err r') q = ap Err (number_of_injective r r' (ap (λ n. n.refusal) q))

pub stored_numbers_injective : (a b : Result (Stored ℕ) Refusal) → stored_numbers a ≡ stored_numbers b → a ≡ b
unfolding stored_numbers
stored_numbers_injective (Ok (stored.Fresh s o e)) (Ok (stored.Fresh s' o' e')) q = cc (ap (λ n. n.slot) q, ap (λ n. n.offset) q, ap (λ n. n.examined) q)
stored_numbers_injective (Ok (stored.Fresh s o e)) (Ok (stored.Replaced v' s' e')) q = other_case q refl
stored_numbers_injective (Ok (stored.Fresh s o e)) (Err r') q = other_case q refl
stored_numbers_injective (Ok (stored.Replaced v s e)) (Ok (stored.Fresh s' o' e')) q = other_case q refl
stored_numbers_injective (Ok (stored.Replaced v s e)) (Ok (stored.Replaced v' s' e')) q = cc (ap (λ n. n.value) q, ap (λ n. n.slot) q, ap (λ n. n.examined) q)
stored_numbers_injective (Ok (stored.Replaced v s e)) (Err r') q = other_case q refl
stored_numbers_injective (Err r) (Ok (stored.Fresh s' o' e')) q = other_case q refl
stored_numbers_injective (Err r) (Ok (stored.Replaced v' s' e')) q = other_case q refl
stored_numbers_injective (Err r) (Err r') q = ap Err (number_of_injective r r' (ap (λ n. n.refusal) q))

pub joined_numbers_injective : (a b : Result (Stored (Unit {0})) Refusal) → joined_numbers a ≡ joined_numbers b → a ≡ b
unfolding joined_numbers
joined_numbers_injective (Ok (stored.Fresh s o e)) (Ok (stored.Fresh s' o' e')) q = cc (ap (λ n. n.slot) q, ap (λ n. n.offset) q, ap (λ n. n.examined) q)
joined_numbers_injective (Ok (stored.Fresh s o e)) (Ok (stored.Replaced u' s' e')) q = other_case q refl
joined_numbers_injective (Ok (stored.Fresh s o e)) (Err r') q = other_case q refl
joined_numbers_injective (Ok (stored.Replaced u s e)) (Ok (stored.Fresh s' o' e')) q = other_case q refl
joined_numbers_injective (Ok (stored.Replaced u s e)) (Ok (stored.Replaced u' s' e')) q = ap (λ n. Ok (stored.Replaced tt n.slot n.examined)) q
joined_numbers_injective (Ok (stored.Replaced u s e)) (Err r') q = other_case q refl
joined_numbers_injective (Err r) (Ok (stored.Fresh s' o' e')) q = other_case q refl
joined_numbers_injective (Err r) (Ok (stored.Replaced u' s' e')) q = other_case q refl
joined_numbers_injective (Err r) (Err r') q = ap Err (number_of_injective r r' (ap (λ n. n.refusal) q))

pub spanned_numbers_injective : (a b : Result (Lookup Span) Refusal) → spanned_numbers a ≡ spanned_numbers b → a ≡ b
unfolding spanned_numbers
spanned_numbers_injective (Ok (Found p s e)) (Ok (Found p' s' e')) q = ap (λ n. Ok (Found (record { offset = n.offset; length = n.length }) n.slot n.examined)) q
spanned_numbers_injective (Ok (Found p s e)) (Ok (Absent e')) q = other_case q refl
spanned_numbers_injective (Ok (Found p s e)) (Err r') q = other_case q refl
spanned_numbers_injective (Ok (Absent e)) (Ok (Found p' s' e')) q = other_case q refl
spanned_numbers_injective (Ok (Absent e)) (Ok (Absent e')) q = cc (ap (λ n. n.examined) q)
spanned_numbers_injective (Ok (Absent e)) (Err r') q = other_case q refl
spanned_numbers_injective (Err r) (Ok (Found p' s' e')) q = other_case q refl
spanned_numbers_injective (Err r) (Ok (Absent e')) q = other_case q refl
spanned_numbers_injective (Err r) (Err r') q = ap Err (number_of_injective r r' (ap (λ n. n.refusal) q))
