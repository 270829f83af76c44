-- What a step of a walk tells: the numbers of what it hands out, of nothing, of done, or of a refusal.
use Rattle.std.specs.Prelude.{ℕ, ◌-◌, Result, Ok, Err}
use Rattle.answers.specs.Cases.{NOTHING, WALK-DONE}
use Rattle.answers.specs.Refusals.{number_of}
use Rattle.answers.specs.Said.{walked, handed}
use Rattle.answers.specs.declared.Refusal.{Refusal}
use Rattle.answers.specs.declared.Numbers.{Numbers}
use Rattle.answers.specs.declared.Span.{Span}
use Rattle.tables.specs.declared.walks.Yielded.{Yielded}
use Rattle.tables.specs.declared.walks.Yielded.TheVariants.{Item, Nothing, Done}
use Rattle.tables.specs.declared.walks.Stepped.{Stepped}

-- What is told of what a step hands out; what it does not have is 0.
pub record Parts : Type 0 where
  pub key : ℕ
  pub value : ℕ
  pub offset : ℕ
  pub length : ℕ

-- A key of an integer set, a pair of an integer map; of byte tables, with the key as its part of the arena.
abbrev pub key_parts : ℕ → Parts
key_parts k = record { key = k; value = 0; offset = 0; length = 0 }

abbrev pub pair_parts : ℕ × ℕ → Parts
pair_parts p = record { key = p.0; value = p.1; offset = 0; length = 0 }

abbrev pub span_parts : Span → Parts
span_parts s = record { key = 0; value = 0; offset = s.offset; length = s.length }

abbrev pub span_pair_parts : Span × ℕ → Parts
span_pair_parts p = record { key = 0; value = p.1; offset = p.0.offset; length = p.0.length }

-- Its numbers, with the walk and the examined number.
abbrev pub part_numbers : Parts → ℕ → ℕ → Numbers
part_numbers p w e = handed p.key p.value p.offset p.length w e

-- By what the step hands out, with the walk and the examined number: case 14, what it hands out, 15, nothing, 16, done, or a refusal.
unfoldable pub yielded_numbers : {T : Type 0} → (T → Parts) → ℕ → ℕ → Result (Yielded T) Refusal → Numbers
yielded_numbers parts w e (Ok (Item x)) = part_numbers (parts x) w e
yielded_numbers parts w e (Ok Nothing) = walked 0 NOTHING 0 0 e w
yielded_numbers parts w e (Ok Done) = walked 0 WALK-DONE 0 0 e w
yielded_numbers parts w e (Err r) = walked (number_of r) 0 0 0 e w

-- A step's numbers: its walk and its examined number are told whatever it hands out.
unfoldable pub numbers_of : {T : Type 0} → (T → Parts) → Stepped T → Numbers
numbers_of parts s = yielded_numbers parts s.walk.at s.examined s.out

-- What a step hands out of a live slot, told: the slot is the one before the walk.
abbrev pub handing : {K W : Type 0} → (K → W → ℕ → Parts) → K → W → ℕ → ℕ → Numbers
handing tells k v x e = part_numbers (tells k v (x - 1)) x e
