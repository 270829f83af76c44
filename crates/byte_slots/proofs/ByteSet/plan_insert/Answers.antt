-- `byte_slots::ByteSet::plan_insert` meets its contract: the used bytes are in the arena.
use Rattle.byte_slots.proofs.Plans.{surveyed_within}
use Rattle.byte_slots.proofs.ByteSet.plan_insert.Goals as goal

pub insert_plan_by-requires : goal.insert_plan_by-requires
insert_plan_by-requires c = surveyed_within _ (rw (← c.self.view_is) at c.survey.ensures) c.in_ok-used.was
