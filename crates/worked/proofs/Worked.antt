-- Every worked row holds, computed by the checker.
use mathlib.Core.Path.{refl}
use Rattle.lists.specs.Bytes.{le}
use Rattle.model.specs.Slots.{frees, is_damaged, holds, weigh, total, any_damaged, pair_of, pairs}
use Rattle.model.specs.Path.{from, at, stops, ends, stop_at, free_at, find}
use Rattle.model.specs.Store.{path, slot_at, live_count, used, damaged_slots}
use Rattle.model.specs.Calls.{need, pass, give, seen_by, spot_by, get, entry, stored_by, after_insert, remove, removed_by, after_remove, acted, capacity, after_make, length, reserve, copy, after_copy, rule_by, rule, store_all, missed, lacking, needs, any_damage, union, after_union, held_on, held_at, occupied_get, after_set, occupied_remove, after_drop, good_for, vacancy, vacant_insert, after_fill, or_insert, after_or_insert, insert_entry, after_insert_entry}
use Rattle.model.specs.Walk.{halts, halted, reach_of, step_within, pace, step}
use Rattle.model.specs.Machine.{stepping}
use Rattle.answers.specs.Said.{done_said, count_said, empty_said, room_said, got_said, member_said, contained_said, inserted_said, added_said, removed_said, dropped_said, step_said, entered_said, held_said, swapped_said, taken_said, taken_entry_said, in_slot_said, stored_said, joined_said, spanned_said}
use Rattle.digest.specs.Digest.{mix_of, more_of}
use Rattle.kinds.specs.Marks.{cell}
use Rattle.kinds.specs.Calls.{make_of, capacity_of, len_of, is_empty_of, reserve_of, contains_of, copy_of, dropped_of, union_of, get_of, remove_of, entry_of, held_of, set_of, taken_of, vacant_insert_of, or_insert_of, insert_entry_of, slot_of}
use Rattle.int_slots.specs.Kinds as ints
use Rattle.int_map_entry.specs.Calls as int_entry
use Rattle.int_slots.specs.Steps as int_steps
use Rattle.byte_map_entry.specs.Calls as byte_entry
use Rattle.byte_slots.specs.Keys.{same_bytes}
use Rattle.byte_slots.specs.Memory.{part, end_at, key_at, spanned, slots_of, used_of, beyond, full_damage, fitting, pasted, closed, fall, fallen, filled, emptied, wiped, asked_of, kept_of}
use Rattle.byte_slots.specs.Kinds as bytes
use Rattle.promises.specs.IntMap as int_maps
use Rattle.promises.specs.IntSet as int_sets
use Rattle.promises.specs.ByteMap as byte_maps
use Rattle.promises.specs.ByteSet as byte_sets
use Rattle.worked.specs.Rows.{trace, orders, answers, Holds}
use Rattle.worked.specs.IntMapRows as im
use Rattle.worked.specs.IntSetRows as is
use Rattle.worked.specs.ByteMapRows as bm
use Rattle.worked.specs.ByteSetRows as bs

-- Every row of the four lists holds.
pub worked : Holds im.done im.before im.rows × Holds is.done is.before is.rows × Holds bm.done bm.before bm.rows × Holds bs.done bs.before bs.rows
unfolding im.done im.before im.other im.rows is.done is.before is.other is.rows bm.done bm.before bm.other bm.rows bs.done bs.before bs.other bs.rows trace orders answers int_maps.told_by int_sets.told_by byte_maps.told_by byte_sets.told_by make_of capacity_of len_of is_empty_of reserve_of contains_of copy_of dropped_of union_of get_of remove_of entry_of held_of set_of taken_of vacant_insert_of or_insert_of insert_entry_of slot_of ints.insert_of ints.remove_entry_of int_entry.handle_of int_steps.step_of ints.set_insert_of ints.set_get_of int_steps.set_step_of byte_entry.handle_of bytes.insert_of bytes.set_insert_of bytes.set_get_of bytes.step_of bytes.set_step_of done_said count_said empty_said room_said got_said member_said contained_said inserted_said added_said removed_said dropped_said step_said entered_said held_said swapped_said taken_said taken_entry_said in_slot_said stored_said joined_said spanned_said stepping step pace step_within reach_of halts halted need pass give seen_by spot_by get entry stored_by after_insert remove removed_by after_remove acted capacity after_make length reserve copy after_copy rule_by rule store_all missed lacking needs any_damage union after_union held_on held_at occupied_get after_set occupied_remove after_drop good_for vacancy vacant_insert after_fill or_insert after_or_insert insert_entry after_insert_entry path slot_at live_count used damaged_slots find stop_at free_at from at stops ends frees is_damaged holds weigh total any_damaged pair_of pairs mix_of more_of le cell same_bytes part end_at key_at spanned slots_of used_of beyond full_damage fitting pasted closed fall fallen filled emptied wiped asked_of kept_of
worked = (refl, refl, refl, refl)

-- And every row on damaged memory, and on arrays that disagree in length.
pub worked_refused : Holds im.done im.damaged im.damaged_rows × Holds im.done im.uneven im.uneven_rows × Holds is.done is.damaged is.damaged_rows × Holds is.done is.uneven is.uneven_rows × Holds bm.done bm.damaged bm.damaged_rows × Holds bm.done bm.gapped bm.gapped_rows × Holds bm.done bm.uneven bm.uneven_rows × Holds bs.done bs.damaged bs.damaged_rows × Holds bs.done bs.uneven bs.uneven_rows
unfolding im.done im.damaged im.damaged_rows im.uneven im.uneven_rows im.other is.done is.damaged is.damaged_rows is.uneven is.uneven_rows is.other bm.done bm.damaged bm.damaged_rows bm.gapped bm.gapped_rows bm.uneven bm.uneven_rows bm.other bs.done bs.damaged bs.damaged_rows bs.uneven bs.uneven_rows bs.other trace orders answers int_maps.told_by int_sets.told_by byte_maps.told_by byte_sets.told_by make_of capacity_of len_of is_empty_of reserve_of contains_of copy_of dropped_of union_of get_of remove_of entry_of held_of set_of taken_of vacant_insert_of or_insert_of insert_entry_of slot_of ints.insert_of ints.remove_entry_of int_entry.handle_of int_steps.step_of ints.set_insert_of ints.set_get_of int_steps.set_step_of byte_entry.handle_of bytes.insert_of bytes.set_insert_of bytes.set_get_of bytes.step_of bytes.set_step_of done_said count_said empty_said room_said got_said member_said contained_said inserted_said added_said removed_said dropped_said step_said entered_said held_said swapped_said taken_said taken_entry_said in_slot_said stored_said joined_said spanned_said stepping step pace step_within reach_of halts halted need pass give seen_by spot_by get entry stored_by after_insert remove removed_by after_remove acted capacity after_make length reserve copy after_copy rule_by rule store_all missed lacking needs any_damage union after_union held_on held_at occupied_get after_set occupied_remove after_drop good_for vacancy vacant_insert after_fill or_insert after_or_insert insert_entry after_insert_entry path slot_at live_count used damaged_slots find stop_at free_at from at stops ends frees is_damaged holds weigh total any_damaged pair_of pairs mix_of more_of le cell same_bytes part end_at key_at spanned slots_of used_of beyond full_damage fitting pasted closed fall fallen filled emptied wiped asked_of kept_of
worked_refused = (refl, refl, refl, refl, refl, refl, refl, refl, refl)
