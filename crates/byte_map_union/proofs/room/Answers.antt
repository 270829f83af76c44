-- `byte_map_union::room` meets its contract: damage in either table, then what the right needs.
use Rattle.std.proofs.Common.{rules}
use Rattle.byte_slots.specs.Memory.{spans_before}
use Rattle.byte_slots.proofs.Lives.{live_marks_within}
use Rattle.byte_slots.proofs.Plans.{surveyed_within}
use Rattle.byte_map_union.proofs.Rooms.{left_bad, right_bad, room_go, room_short}
use Rattle.byte_map_union.proofs.room.Goals as goal

pub returns-in_err-used : goal.returns-in_err-used
returns-in_err-used c = let z = left_bad _ (spans_before c.args.right_marks.now c.args.right_offsets.now c.args.right_lengths.now c.args.right_arena.now) c.survey.ensures c.in_err-used.was in search rules

pub returns-in_err-survey : goal.returns-in_err-survey
returns-in_err-survey c = let z = right_bad _ _ c.survey.ensures c.in_ok-used.was c.survey-2.ensures c.in_err-survey.was in search rules

pub overflow_sub-slots : goal.overflow_sub-slots
overflow_sub-slots c = live_marks_within _ c.live_marks.ensures

pub overflow_sub-left : goal.overflow_sub-left
overflow_sub-left c = surveyed_within _ c.survey.ensures c.in_ok-used.was

pub returns-in_err-reserved_by : goal.returns-in_err-reserved_by
returns-in_err-reserved_by c = let z = room_short _ _ c.survey.ensures c.in_ok-used.was c.survey-2.ensures c.in_ok-survey.was c.live_marks.ensures c.table_needs-needed.ensures c.reserved_by.ensures c.in_err-reserved_by.was in search rules

pub returns : goal.returns
returns c = room_go _ _ c.survey.ensures c.in_ok-used.was c.survey-2.ensures c.in_ok-survey.was c.live_marks.ensures c.table_needs-needed.ensures c.reserved_by.ensures c.in_ok-reserved_by.was
