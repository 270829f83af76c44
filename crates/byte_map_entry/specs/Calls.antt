-- The handle that an entry answer of a byte map is.
use Rattle.std.specs.Prelude.{ℕ}
use Rattle.model.specs.Calls.{Handle, on_occupied, on_vacant}
use Rattle.byte_map_entry.specs.declared.Entered.{Entered}
use Rattle.byte_map_entry.specs.declared.Entered.TheVariants.{Occupied, Vacant, Refused}

-- The slot of an entry answer that is not occupied: a refused one counts as a vacant handle of slot S.
unfoldable pub vacant_slot_of : ℕ → Entered → ℕ
vacant_slot_of S (Occupied h v e) = S
vacant_slot_of S (Vacant h e) = h.slot
vacant_slot_of S (Refused r) = S

-- The handle that an entry answer is, in a table of S slots.
unfoldable pub handle_of : ℕ → Entered → Handle
handle_of S (Occupied h v e) = on_occupied h.slot
handle_of S (Vacant h e) = on_vacant h.slot
handle_of S (Refused r) = on_vacant S
