-- `int_map_entry::entry_in` meets its contract: each way in which the probing ends is an answer.
use Rattle.std.specs.Prelude.{Ok}
use Rattle.std.proofs.Common.{◌∙◌, ap}
use Rattle.answers.specs.Said.{entered_said}
use Rattle.int_map_entry.specs.Numbers.{entered_numbers}
use Rattle.int_slots.proofs.Lent.{map_probing}
use Rattle.int_slots.proofs.Seeking.{hit_inside}
use Rattle.int_slots.proofs.Calls.{entry_says}
use Rattle.int_map_entry.proofs.entry_in.Goals as goal

pub value-requires : goal.value-requires
value-requires c = (hit_inside _ _ (map_probing _ _ c.probe.ensures.sized c.probe.ensures.found) (c.in-Ok-Hit.is ∙ ap Ok c.in-Ok-Hit.field-0-is)).0

pub returns-in-Ok-Hit : goal.returns-in-Ok-Hit
unfolding entered_numbers entered_said
returns-in-Ok-Hit c = rw c.value.ensures (entry_says _ _ (map_probing _ _ c.probe.ensures.sized c.probe.ensures.found) (c.in-Ok-Hit.is ∙ ap Ok c.in-Ok-Hit.field-0-is))

pub returns-in-Ok-Free : goal.returns-in-Ok-Free
unfolding entered_numbers entered_said
returns-in-Ok-Free c = entry_says _ _ (map_probing _ _ c.probe.ensures.sized c.probe.ensures.found) (c.in-Ok-Free.is ∙ ap Ok c.in-Ok-Free.field-0-is)

pub returns-in-Ok-Full : goal.returns-in-Ok-Full
unfolding entered_numbers entered_said
returns-in-Ok-Full c = entry_says _ _ (map_probing _ _ c.probe.ensures.sized c.probe.ensures.found) (c.in-Ok-Full.is ∙ ap Ok c.in-Ok-Full.field-0-is)

pub returns-in-Err : goal.returns-in-Err
unfolding entered_numbers entered_said
returns-in-Err c = entry_says _ _ (map_probing _ _ c.probe.ensures.sized c.probe.ensures.found) c.in-Err.is
