-- `int_map_entry::entry` meets its contract: the lent table's answer, or refusal 1.
use Rattle.std.proofs.Common.{refl}
use Rattle.answers.specs.Said.{entered_said}
use Rattle.int_map_entry.specs.Numbers.{entered_numbers}
use Rattle.int_slots.specs.Maps.{maps}
use Rattle.tables.proofs.Calls.{lent_ok}
use Rattle.int_slots.proofs.Lent.{map_unprobed}
use Rattle.int_slots.proofs.Calls.{entry_says}
use Rattle.int_map_entry.proofs.entry.Goals as goal

pub returns-in-Ok : goal.returns-in-Ok
returns-in-Ok c = rw (lent_ok maps _ c.lent.ensures c.in-Ok.is).1 at c.entry_in.ensures

pub returns-in-Err : goal.returns-in-Err
unfolding entered_numbers entered_said
returns-in-Err c = entry_says _ _ (map_unprobed _ _ c.lent.ensures c.in-Err.is) refl
