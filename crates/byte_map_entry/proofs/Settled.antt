-- Each contract settles its answer and the lent arrays: two results that it allows are equal.
use Rattle.std.proofs.Common.{ℕ, List, length}
use Rattle.kinds.specs.Calls.{entry_of, or_insert_of, insert_entry_of}
use Rattle.kinds.specs.Columns.{values}
use Rattle.kinds.specs.Told.{Settled, SettledWith}
use Rattle.kinds.proofs.Settled.{settled, settled_with}
use Rattle.byte_slots.specs.Kinds.{maps}
use Rattle.byte_slots.specs.Memory.{ByteMemory}
use Rattle.byte_map_vacant.specs.Numbers.{in_slot_numbers}
use Rattle.byte_map_vacant.proofs.Equal.{in_slot_numbers_injective}
use Rattle.byte_map_entry.specs.declared.Entered.{Entered}
use Rattle.byte_map_entry.specs.Numbers.{entered_numbers}
use Rattle.byte_map_entry.specs.Calls.{handle_of}
use Rattle.byte_map_entry.proofs.Equal.{entered_numbers_injective}

module _ (m : ByteMemory values) where
  -- `entry`.
  pub entry_settled : (k : List ℕ) → Settled entered_numbers (entry_of maps m k)
  entry_settled k = settled entered_numbers_injective

  -- `Entered::or_insert`.
  pub or_insert_settled : (e : Entered) (k : List ℕ) (v : ℕ) → SettledWith in_slot_numbers (or_insert_of maps m (handle_of (length m.spans.marks) e) k v)
  or_insert_settled e k v = settled_with in_slot_numbers_injective

  -- `Entered::insert_entry`.
  pub insert_entry_settled : (e : Entered) (k : List ℕ) (v : ℕ) → SettledWith in_slot_numbers (insert_entry_of maps m (handle_of (length m.spans.marks) e) k v)
  insert_entry_settled e k v = settled_with in_slot_numbers_injective
