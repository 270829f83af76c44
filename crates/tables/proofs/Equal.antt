-- Equal numbers are equal steps: the paper's numbers tell a step's walk, what it hands out, and its examined number.
use Rattle.std.proofs.Common.{ℕ, Result, Ok, Err, ◌≡◌, refl, sym, ◌∙◌, ap}
use Rattle.answers.specs.declared.Refusal.{Refusal}
use Rattle.answers.specs.declared.Numbers.{Numbers}
use Rattle.answers.specs.declared.Span.{Span}
use Rattle.kinds.specs.Moved.{moved_on}
use Rattle.kinds.specs.Told.{told}
use Rattle.kinds.proofs.Moved.{moved}
use Rattle.answers.proofs.Told.{number_of_injective, other_case}
use Rattle.tables.specs.declared.walks.Yielded.{Yielded}
use Rattle.tables.specs.declared.walks.Yielded.TheVariants.{Item, Nothing, Done}
use Rattle.tables.specs.declared.walks.Stepped.{Stepped}
use Rattle.tables.specs.Handing.{Parts, yielded_numbers, numbers_of, key_parts, pair_parts, span_parts, span_pair_parts}

module _ {T : Type 0} (parts : T → Parts) where
  module _ (w e : ℕ) where
    walk_told : (x : Result (Yielded T) Refusal) → (yielded_numbers parts w e x).walk ≡ w
    unfolding yielded_numbers
    walk_told (Ok (Item o)) = refl
    walk_told (Ok Nothing) = refl
    walk_told (Ok Done) = refl
    walk_told (Err r) = refl

    examined_told : (x : Result (Yielded T) Refusal) → (yielded_numbers parts w e x).examined ≡ e
    unfolding yielded_numbers
    examined_told (Ok (Item o)) = refl
    examined_told (Ok Nothing) = refl
    examined_told (Ok Done) = refl
    examined_told (Err r) = refl

  -- a step's numbers tell its walk
  walk_of_law : (s : Stepped T) → (numbers_of parts s).walk ≡ s.walk.at
  unfolding numbers_of
  walk_of_law s = walk_told s.walk.at s.examined s.out

  -- so a lent walk's step leaves the walk that it tells
  pub moved_step : (s : Stepped T) {n : Numbers} → numbers_of parts s ≡ n → told (numbers_of parts s) s.walk.at ≡ moved_on n
  moved_step s p = moved p (walk_of_law s)

  module _ (injective : (x y : T) → parts x ≡ parts y → x ≡ y) where
    yielded_injective : (w e z f : ℕ) (x y : Result (Yielded T) Refusal) → yielded_numbers parts w e x ≡ yielded_numbers parts z f y → x ≡ y
    unfolding yielded_numbers
    yielded_injective w e z f (Ok (Item o)) (Ok (Item p)) q = ap (λ x. Ok (Item x)) (injective o p (λ i. record { key = (q i).key; value = (q i).value; offset = (q i).offset; length = (q i).length }))
    yielded_injective w e z f (Ok (Item o)) (Ok Nothing) q = other_case q refl
    yielded_injective w e z f (Ok (Item o)) (Ok Done) q = other_case q refl
    yielded_injective w e z f (Ok (Item o)) (Err r) q = other_case q refl
    yielded_injective w e z f (Ok Nothing) (Ok (Item p)) q = other_case q refl
    yielded_injective w e z f (Ok Nothing) (Ok Nothing) q = refl
    yielded_injective w e z f (Ok Nothing) (Ok Done) q = other_case q refl
    yielded_injective w e z f (Ok Nothing) (Err r) q = other_case q refl
    yielded_injective w e z f (Ok Done) (Ok (Item p)) q = other_case q refl
    yielded_injective w e z f (Ok Done) (Ok Nothing) q = other_case q refl
    yielded_injective w e z f (Ok Done) (Ok Done) q = refl
    yielded_injective w e z f (Ok Done) (Err r) q = other_case q refl
    yielded_injective w e z f (Err r) (Ok (Item p)) q = other_case q refl
    yielded_injective w e z f (Err r) (Ok Nothing) q = other_case q refl
    yielded_injective w e z f (Err r) (Ok Done) q = other_case q refl
    yielded_injective w e z f (Err r) (Err s) q = ap Err (number_of_injective r s (ap (λ n. n.refusal) q))

    numbers_injective : (a b : Stepped T) → numbers_of parts a ≡ numbers_of parts b → a ≡ b
    unfolding numbers_of
    numbers_injective a b q =
        let w : a.walk.at ≡ b.walk.at = sym (walk_of_law a) ∙ ap (λ n. n.walk) q ∙ walk_of_law b in
        let e : a.examined ≡ b.examined = sym (examined_told a.walk.at a.examined a.out) ∙ ap (λ n. n.examined) q ∙ examined_told b.walk.at b.examined b.out in
        let o : a.out ≡ b.out = yielded_injective a.walk.at a.examined b.walk.at b.examined a.out b.out q in
        λ i. record { walk = record { at = w i }; out = o i; examined = e i }

-- so of each kind
pub key_injective : (a b : Stepped ℕ) → numbers_of key_parts a ≡ numbers_of key_parts b → a ≡ b
key_injective = numbers_injective key_parts (λ x y q. ap (λ p. p.key) q)

pub pair_injective : (a b : Stepped (ℕ × ℕ)) → numbers_of pair_parts a ≡ numbers_of pair_parts b → a ≡ b
pair_injective = numbers_injective pair_parts (λ x y q. λ i. ((q i).key, (q i).value))

pub span_injective : (a b : Stepped Span) → numbers_of span_parts a ≡ numbers_of span_parts b → a ≡ b
span_injective = numbers_injective span_parts (λ x y q. λ i. record { offset = (q i).offset; length = (q i).length })

pub span_pair_injective : (a b : Stepped (Span × ℕ)) → numbers_of span_pair_parts a ≡ numbers_of span_pair_parts b → a ≡ b
span_pair_injective = numbers_injective span_pair_parts (λ x y q. λ i. (record { offset = (q i).offset; length = (q i).length }, (q i).value))
