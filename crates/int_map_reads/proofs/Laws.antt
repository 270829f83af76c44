-- What reserve's test of the values says: as many as marks, and the set of the keys tells the same; else refusal 1.
use Rattle.std.proofs.Common.{ℕ, ◌≡◌, Err, eq-eqb, length}
use Rattle.answers.specs.declared.Refusal.TheVariants.{Sizes}
use Rattle.answers.specs.Numbers.{reserved_numbers}
use Rattle.kinds.specs.Columns.{values}
use Rattle.kinds.specs.Calls.{reserve_of}
use Rattle.kinds.proofs.Beside.{reserve_beside}
use Rattle.kinds.proofs.Sizing.{reserve_unsized}
use Rattle.int_slots.specs.Memory.{IntMemory}
use Rattle.int_slots.specs.Maps.{maps}
use Rattle.int_slots.specs.Sets.{sets, memory}
use Rattle.int_slots.proofs.Beside.{beside_set}
use Rattle.int_slots.proofs.MapSizes.{map_short}

module _ (m : IntMemory values) where
  pub reserve_as_set : length m.marks ≡ length m.words → (n b : ℕ) → reserve_of sets (memory m.marks m.keys) n b ≡ reserve_of maps m n b
  reserve_as_set e n b = reserve_beside maps sets (beside_set values m (eq-eqb (length m.marks) (length m.words) e)) n b

  pub reserve_short : (length m.marks ≡ length m.words → ⊥) → (n b : ℕ) → reserved_numbers (Err Sizes) ≡ reserve_of maps m n b
  reserve_short h n b = reserve_unsized maps m (map_short m h) n b
