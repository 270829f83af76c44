-- The three demands for the byte map, over its published calls.
-- One line a call in each theorem. That a call tells what it owes is a law of kinds/proofs/Owed.antt, given the function that tells its answer and, by `refl`,
-- what that function tells of a refusal and of each case. The demands then follow from the theory by kinds/proofs/Published.antt.
use Prim.Native.Nat.{ℕ, suc, ◌-◌}
use mathlib.Core.Bool.{true, false}
use mathlib.Core.List.{List, [], ◌∷◌}
use mathlib.Core.Logic.{◌↔◌}
use mathlib.Core.Option.{some}
use mathlib.Core.Path.{◌≡◌, refl, sym, ◌∙◌, ap}
use native.Mathlib.Omega.{arith}
use lib.Dec.{eqb}
use lib.ListN.{length}
use Rattle.model.specs.Calls.{Or, no, ok, give, Spot, occupied, vacant, Handle, on_occupied, on_vacant, after_insert}
use Rattle.model.specs.Calls
use Rattle.model.specs.Machine.{fine, number, truth, seen, spot, value, stepped, tells, leaves, answer, left, stepping, World}
use Rattle.model.specs.Lawful.{Lawful}
use Rattle.model.specs.Demand1.{First, Least, AnyDamage, refusal, number_in}
use Rattle.model.specs.Demand2.{key_of, Book}
use Rattle.model.specs.Demand3.{has, walk_after, times, handed, Walked}
use Rattle.model.specs.Iterated.{only_steps, Iterated}
use Rattle.model.specs.Finite.{Finite, is_some}
use Rattle.model.specs.Store.{path_length, live_count, used}
use Rattle.model.specs.Places.{run_names}
use Rattle.model.proofs.Cases.{clash}
use Rattle.model.proofs.Iterated.{walk_once}
use Rattle.model.proofs.Laws
use Rattle.model.proofs.Least.{rising}
use Rattle.model.proofs.Runs.{placed_here}
use Rattle.model.proofs.Numbered.{step_numbered}
use Rattle.model.specs.Slots.{live}
use Rattle.model.specs.Walk.{StepAnswer, pair, nothing, done}
use Rattle.answers.specs.Cases.{DONE, ROOM, FOUND, ABSENT, FRESH, PAIR}
use Rattle.answers.specs.Said.{done_said, count_said, empty_said, room_said, got_said, contained_said, removed_said, entered_said, stored_said, held_said, swapped_said, taken_said, in_slot_said, step_said, span_handed}
use Rattle.answers.proofs.Said.{contained_said_refusal, count_said_refusal, done_said_refusal, empty_said_refusal, entered_said_refusal, got_said_refusal, held_said_refusal, stored_said_refusal, removed_said_refusal, room_said_refusal, in_slot_said_refusal, step_said_refusal, swapped_said_refusal, taken_said_refusal}
use Rattle.answers.specs.declared.Numbers.{Numbers}
use Rattle.kinds.specs.Owed.{refusing, unless, only, keeping, replacing, spanning, looking_up}
use Rattle.kinds.proofs.Owed.{get_owed, remove_owed, entry_owed, held_owed, taken_owed, filled_owed, length_owed, capacity_owed, reserve_owed, copy_owed, union_owed, step_owed, get_counted, remove_counted, entry_counted, zeros, union_known_owed, looked_inserted, looked_removed, paces_once}
use Rattle.kinds.specs.Calls.{slot_of, make_of, capacity_of, len_of, is_empty_of, reserve_of, contains_of, copy_of, get_of, remove_of, union_of, entry_of, held_of, set_of, taken_of, vacant_insert_of, or_insert_of, insert_entry_of}
use Rattle.kinds.specs.Columns.{values}
use Rattle.kinds.specs.Published.{Linked, ZerosElsewhere, PathCounted, asked_by, given_to, Right, ToldInStep, unknown, noted, after_calls, Step, walk_of}
use Rattle.kinds.specs.Reserving.{RoomTold, Reserves}
use Rattle.kinds.specs.Told.{told}
use Rattle.kinds.proofs.Columns.{values_lawful}
use Rattle.kinds.proofs.Simple.{simply_linked, alone_accepted}
use Rattle.kinds.proofs.Published.{reported, lowest_told, refused_same, named_only, lent_zeros, inserted_known, removed_known, told_in_step, told_owed, told_rest, walk_told, iterated_told, heard_step}
use Rattle.kinds.proofs.Reserving.{reserve_told, fresh_said, absent_said, KeysTold, reserves_told}
use Rattle.kinds.specs.Moved.{moved_on}
use Rattle.byte_slots.specs.Memory.{ByteMemory, part, used_of, asked_of, offset_of, length_of}
use Rattle.byte_slots.specs.Kinds.{maps, insert_of, step_of}
use Rattle.byte_slots.specs.Places.{Place, word_in, places}
use Rattle.byte_slots.proofs.Bridge.{any_damage_is}
use Rattle.byte_slots.proofs.Keys.{asked_bar, kept_bar}
use Rattle.byte_slots.proofs.Lawful.{byte_lawful}
use Rattle.byte_slots.proofs.Places.{byte_steady, byte_apart}
use Rattle.byte_map_entry.specs.Calls.{handle_of}
use Rattle.promises.proofs.Spans.{handed_slot, fresh_bytes, used_told}
use Rattle.promises.specs.ByteMap.{Call, make, clear, capacity, len, is_empty, reserve, get, contains_key, remove, entry, copy, union_prefer_right, insert, occupied_get, occupied_remove, occupied_remove_entry, step, occupied_set, vacant_insert, or_insert, insert_entry, told_by, one, simple, published, key_calls, pair_told, Owes, heard, lent_by, owed, Stands}
use Rattle.promises.specs.MapAlphabet.{map_one}

-- Byte maps are a lawful store.
pub maps_lawful : Lawful maps
maps_lawful = byte_lawful values values_lawful

-- Each published call tells the refusal of the theory's call.
number_told : (w : World maps) (x : ℕ) (c : Call) → (told_by w x c).numbers.refusal ≡ refusal (answer maps w x (one w x c))
unfolding told_by one map_one answer tells left leaves make_of capacity_of len_of is_empty_of reserve_of contains_of copy_of get_of remove_of union_of entry_of held_of set_of taken_of vacant_insert_of or_insert_of insert_entry_of insert_of step_of refusal
number_told w x make = done_said_refusal _ ∙ sym (reported (λ n. fine) (λ a. refl) _)
number_told w x clear = done_said_refusal _ ∙ sym (reported (λ n. fine) (λ a. refl) _)
number_told w x capacity = count_said_refusal _ ∙ sym (reported number (λ a. refl) _)
number_told w x len = count_said_refusal _ ∙ sym (reported number (λ a. refl) _)
number_told w x is_empty = empty_said_refusal _ ∙ sym (reported (λ n. truth (eqb n 0)) (λ a. refl) _)
number_told w x (reserve (n, b)) = room_said_refusal _ ∙ sym (reported (λ u. fine) (λ a. refl) _)
number_told w x (get k) = got_said_refusal _ ∙ sym (reported seen (λ a. refl) _)
number_told w x (contains_key k) = contained_said_refusal _ ∙ sym (reported seen (λ a. refl) _)
number_told w x (remove k) = removed_said_refusal _ ∙ sym (reported seen (λ a. refl) _)
number_told w x (entry k) = entered_said_refusal _ ∙ sym (reported spot (λ a. refl) _)
number_told w x (copy y) = done_said_refusal _ ∙ sym (reported (λ u. fine) (λ a. refl) _)
number_told w x (union_prefer_right y) = done_said_refusal _ ∙ sym (reported (λ u. fine) (λ a. refl) _)
number_told w x (insert k v) = stored_said_refusal _ _ ∙ sym (reported spot (λ a. refl) _)
number_told w x (occupied_get s k) = held_said_refusal s _ ∙ sym (reported value (λ a. refl) _)
number_told w x (occupied_remove s k) = taken_said_refusal _ ∙ sym (reported value (λ a. refl) _)
number_told w x (occupied_remove_entry s k) = taken_said_refusal _ ∙ sym (reported value (λ a. refl) _)
number_told w x (step at budget) = step_said_refusal (span_handed (offset_of (w x).spans) (length_of (w x).spans)) (λ k v p e. refl) at _ ∙ sym (reported stepped (λ a. refl) _)
number_told w x (occupied_set s k v) = swapped_said_refusal s _ ∙ sym (reported value (λ a. refl) _)
number_told w x (vacant_insert s k v) = in_slot_said_refusal s _ ∙ sym (reported value (λ a. refl) _)
number_told w x (or_insert e k v) = in_slot_said_refusal _ _ ∙ sym (reported value (λ a. refl) _)
number_told w x (insert_entry e k v) = in_slot_said_refusal _ _ ∙ sym (reported value (λ a. refl) _)

-- And leaves its memory.
memory_told : (w : World maps) (x : ℕ) (c : Call) → (told_by w x c).memory ≡ left maps w x (one w x c)
unfolding told_by one map_one answer tells left leaves make_of capacity_of len_of is_empty_of reserve_of contains_of copy_of get_of remove_of union_of entry_of held_of set_of taken_of vacant_insert_of or_insert_of insert_entry_of insert_of step_of
memory_told w x make = refl
memory_told w x clear = refl
memory_told w x capacity = refl
memory_told w x len = refl
memory_told w x is_empty = refl
memory_told w x (reserve (n, b)) = refl
memory_told w x (get k) = refl
memory_told w x (contains_key k) = refl
memory_told w x (remove k) = refl
memory_told w x (entry k) = refl
memory_told w x (copy y) = refl
memory_told w x (union_prefer_right y) = refl
memory_told w x (insert k v) = refl
memory_told w x (occupied_get s k) = refl
memory_told w x (occupied_remove s k) = refl
memory_told w x (occupied_remove_entry s k) = refl
memory_told w x (step at budget) = refl
memory_told w x (occupied_set s k v) = refl
memory_told w x (vacant_insert s k v) = refl
memory_told w x (or_insert e k v) = refl
memory_told w x (insert_entry e k v) = refl

-- A step's numbers, heard, are the theory's step, on any memory.
steps_heard : (w : World maps) (x a b : ℕ) → heard (w x) (told_by w x (step a b)).numbers ≡ stepping maps (w x) a b
unfolding told_by step_of
steps_heard w x a b = heard_step (λ n. part (w x).spans.arena n.offset n.length) (λ n. n.value) (span_handed (offset_of (w x).spans) (length_of (w x).spans)) a (stepping maps (w x) a b) (step_numbered maps (w x) a b) (λ k v y e q. (refl, refl, (handed_slot values (w x) a b k v y e q).1, refl, refl, refl))

-- A lent step tells what a step tells, and leaves the walk that it tells.
steps_lent : (w : World maps) (x a b : ℕ) → lent_by w x a b ≡ told (told_by w x (step a b)).numbers (told_by w x (step a b)).numbers.walk
unfolding told_by lent_by moved_on
steps_lent w x a b = refl

-- The published calls carry out calls of the theory.
pub maps_linked : Linked maps published
maps_linked = simply_linked maps maps_lawful.homes simple (record { number = number_told; memory = memory_told; hears = steps_heard; lends = steps_lent })

-- Where the map of a call's table is known, the call tells what it owes.
owes_told : (s : Book maps) → Right maps published s → (x : ℕ) (c : Call) (f : Finite (List ℕ) ℕ) → s.maps x ≡ some f → Owes s x f c (told_by s.world x c).numbers
unfolding told_by make_of capacity_of len_of is_empty_of reserve_of get_of contains_of insert_of remove_of copy_of union_of step_of entry_of set_of or_insert_of insert_entry_of held_of taken_of vacant_insert_of Calls.or_insert Calls.insert_entry done_said count_said empty_said room_said got_said contained_said removed_said entered_said stored_said held_said swapped_said taken_said in_slot_said step_said slot_of give keeping replacing unless
owes_told s h x make f e = capacity_owed maps maps_lawful (s.world x) f (h x f e) done_said (only DONE) refl
owes_told s h x clear f e = capacity_owed maps maps_lawful (s.world x) f (h x f e) done_said (only DONE) refl
owes_told s h x capacity f e = capacity_owed maps maps_lawful (s.world x) f (h x f e) count_said _ refl
owes_told s h x len f e = length_owed maps maps_lawful (s.world x) f (h x f e) count_said _ refl
owes_told s h x is_empty f e = length_owed maps maps_lawful (s.world x) f (h x f e) empty_said _ refl
owes_told s h x (reserve (a, b)) f e = reserve_owed maps maps_lawful (s.world x) f (h x f e) room_said (only ROOM) (λ n. refl) refl a b
owes_told s h x (get k) f e = get_owed maps maps_lawful (s.world x) f (h x f e) got_said _ _ (λ n. refl) (λ v i e. refl) (λ e. refl) k
owes_told s h x (contains_key k) f e = get_owed maps maps_lawful (s.world x) f (h x f e) contained_said _ _ (λ n. refl) (λ v i e. refl) (λ e. refl) k
owes_told s h x (remove k) f e = remove_owed maps maps_lawful (s.world x) f (h x f e) removed_said _ _ (λ n. refl) (λ v i e. refl) (λ e. refl) k
owes_told s h x (entry k) f e = entry_owed maps maps_lawful (s.world x) f (h x f e) entered_said _ _ (λ n. refl) (λ v i e. refl) (λ i e. refl) k
owes_told s h x (copy y) f e = copy_owed maps maps_lawful (s.world x) f (h x f e) done_said (only DONE) (λ n. refl) refl (s.world y)
owes_told s h x (union_prefer_right y) f e = (
  union_owed maps maps_lawful (s.world x) f (h x f e) done_said (only DONE) (λ n. refl) refl (s.world y),
  (λ g t. union_known_owed maps maps_lawful (s.world x) f (h x f e) done_said (only DONE) (λ n. refl) refl (s.world y) g (h y g t)),
)
owes_told s h x (insert k v) f e = entry_owed maps maps_lawful (s.world x) f (h x f e) (stored_said (used_of (s.world x).spans)) _ _ (λ n. refl) (λ v i e. refl) (λ i d. ap (λ u. spanning FRESH i d u 0) (used_told values values_lawful (s.world x) f (h x f e))) k
owes_told s h x (occupied_get i k) f e = held_owed maps maps_lawful (s.world x) f (h x f e) (held_said i) _ (λ n. refl) (λ v. refl) i k
owes_told s h x (occupied_remove i k) f e = taken_owed maps maps_lawful (s.world x) f (h x f e) taken_said _ (λ n. refl) (λ v. refl) i k
owes_told s h x (occupied_remove_entry i k) f e = taken_owed maps maps_lawful (s.world x) f (h x f e) taken_said _ (λ n. refl) (λ v. refl) i k
owes_told s h x (step a b) f e = step_owed maps maps_lawful (s.world x) f (h x f e) (step_said (span_handed (offset_of (s.world x).spans) (length_of (s.world x).spans)) a) a b (pair_told (s.world x)) (λ n. refl) (λ j k v e q. let z : suc j - 1 ≡ j = omega arith in rw z) (λ y e. refl) (λ y. refl)
owes_told s h x (occupied_set i k v) f e = held_owed maps maps_lawful (s.world x) f (h x f e) (swapped_said i) _ (λ n. refl) (λ v. refl) i k
owes_told s h x (vacant_insert i k v) f e = filled_owed maps maps_lawful (s.world x) f (h x f e) (in_slot_said i) v _ (λ n. refl) refl i k
owes_told s h x (or_insert a k v) f e = go (handle_of (length (s.world x).spans.marks) a)
  where
    go : (o : Handle) → in_slot_said (slot_of o) (Calls.or_insert maps (s.world x) o k v) ≡ keeping maps (s.world x) f o k v
    go (on_occupied i) = held_owed maps maps_lawful (s.world x) f (h x f e) (in_slot_said i) _ (λ n. refl) (λ v. refl) i k
    go (on_vacant i) = filled_owed maps maps_lawful (s.world x) f (h x f e) (in_slot_said i) v _ (λ n. refl) refl i k
owes_told s h x (insert_entry a k v) f e = go (handle_of (length (s.world x).spans.marks) a)
  where
    go : (o : Handle) → in_slot_said (slot_of o) (Calls.insert_entry maps (s.world x) o k v) ≡ replacing maps (s.world x) f o k v
    go (on_occupied i) = held_owed maps maps_lawful (s.world x) f (h x f e) (λ o. in_slot_said i (give v o)) _ (λ n. refl) (λ u. refl) i k
    go (on_vacant i) = filled_owed maps maps_lawful (s.world x) f (h x f e) (in_slot_said i) v _ (λ n. refl) refl i k

-- At most one answer meets what a call owes.
pub owes_once : (s : Book maps) (x : ℕ) (f : Finite (List ℕ) ℕ) (c : Call) (n o : Numbers) → Owes s x f c n → Owes s x f c o → n ≡ o
owes_once s x f make n o p q = p ∙ sym q
owes_once s x f clear n o p q = p ∙ sym q
owes_once s x f capacity n o p q = p ∙ sym q
owes_once s x f len n o p q = p ∙ sym q
owes_once s x f is_empty n o p q = p ∙ sym q
owes_once s x f (reserve (a, b)) n o p q = p ∙ sym q
owes_once s x f (get k) n o p q = p ∙ sym q
owes_once s x f (contains_key k) n o p q = p ∙ sym q
owes_once s x f (remove k) n o p q = p ∙ sym q
owes_once s x f (entry k) n o p q = p ∙ sym q
owes_once s x f (copy y) n o p q = p ∙ sym q
owes_once s x f (union_prefer_right y) n o p q = p.0 ∙ sym q.0
owes_once s x f (insert k v) n o p q = p ∙ sym q
owes_once s x f (occupied_get i k) n o p q = p ∙ sym q
owes_once s x f (occupied_remove i k) n o p q = p ∙ sym q
owes_once s x f (occupied_remove_entry i k) n o p q = p ∙ sym q
owes_once s x f (step a b) n o p q = paces_once maps (s.world x) f (pair_told (s.world x)) a b n o p q
owes_once s x f (occupied_set i k v) n o p q = p ∙ sym q
owes_once s x f (vacant_insert i k v) n o p q = p ∙ sym q
owes_once s x f (or_insert h k v) n o p q = p ∙ sym q
owes_once s x f (insert_entry h k v) n o p q = p ∙ sym q

-- Demand 1: on any memory each call tells the first of its own rows that applies by the scope's table, and 0 where none does.
pub demand_1 : (w : World maps) (x : ℕ) (c : Call) → First (published.rows w x c) (told_by w x c).numbers.refusal
demand_1 w x c = maps_linked.first w x c

-- Which is the lowest number that applies.
pub demand_1_lowest : (w : World maps) (x : ℕ) (c : Call) → Least (published.rows w x c) (told_by w x c).numbers.refusal
demand_1_lowest w x c = lowest_told maps published maps_linked w x c (rising maps asked_bar kept_bar (λ m. refl) w x (one w x c))

-- A refused call leaves every lent place of every table as it was.
pub demand_1_still : (w : World maps) (x : ℕ) (c : Call) → ((told_by w x c).numbers.refusal ≡ 0 → ⊥) → published.after w x c ≡ w
demand_1_still w x c h = refused_same maps published maps_linked w x c refl h

-- A call changes no lent place, of any table, that no call of the theory which it carries out names.
pub demand_1_named : (w : World maps) (x : ℕ) (c : Call) (y : ℕ) (p : Place) → run_names maps (places values) p y w (published.meant w x c) ≡ false → word_in values (published.after w x c y) p ≡ word_in values (w y) p
demand_1_named w x c y p e = named_only maps published maps_linked (byte_steady values values_lawful) (places values) (byte_apart values values_lawful) w x c y p e

-- A refused call tells its number, zeros elsewhere, and the walk as it came.
refused_zeros : (w : World maps) (x : ℕ) (c : Call) → ((told_by w x c).numbers.refusal ≡ 0 → ⊥) → (told_by w x c).numbers ≡ refusing (told_by w x c).numbers.refusal (published.given w x c)
unfolding told_by one map_one given_to make_of capacity_of len_of is_empty_of reserve_of get_of contains_of insert_of remove_of copy_of union_of step_of entry_of set_of or_insert_of insert_entry_of held_of taken_of vacant_insert_of done_said count_said empty_said room_said got_said contained_said removed_said entered_said stored_said held_said swapped_said taken_said in_slot_said step_said number_in
refused_zeros w x make h = zeros done_said 0 (λ n. refl) (λ y. refl) (Calls.capacity maps (w x)) h
refused_zeros w x clear h = zeros done_said 0 (λ n. refl) (λ y. refl) (Calls.capacity maps (w x)) h
refused_zeros w x capacity h = zeros count_said 0 (λ n. refl) (λ y. refl) (Calls.capacity maps (w x)) h
refused_zeros w x len h = zeros count_said 0 (λ n. refl) (λ y. refl) (Calls.length maps (w x)) h
refused_zeros w x is_empty h = zeros empty_said 0 (λ n. refl) (λ y. empty_said_refusal (ok y)) (Calls.length maps (w x)) h
refused_zeros w x (reserve (n, b)) h = zeros room_said 0 (λ n. refl) (λ y. refl) (Calls.reserve maps (w x) n b) h
refused_zeros w x (get k) h = zeros got_said 0 (λ n. refl) (λ y. got_said_refusal (ok y)) (Calls.get maps (w x) k) h
refused_zeros w x (contains_key k) h = zeros contained_said 0 (λ n. refl) (λ y. contained_said_refusal (ok y)) (Calls.get maps (w x) k) h
refused_zeros w x (remove k) h = zeros removed_said 0 (λ n. refl) (λ y. removed_said_refusal (ok y)) (Calls.remove maps (w x) k) h
refused_zeros w x (entry k) h = zeros entered_said 0 (λ n. refl) (λ y. entered_said_refusal (ok y)) (Calls.entry maps (w x) k) h
refused_zeros w x (copy y) h = zeros done_said 0 (λ n. refl) (λ y. refl) (Calls.copy maps (w x) (w y)) h
refused_zeros w x (union_prefer_right y) h = zeros done_said 0 (λ n. refl) (λ y. refl) (Calls.union maps (w x) (w y)) h
refused_zeros w x (insert k v) h = zeros (stored_said (used_of (w x).spans)) 0 (λ n. refl) (λ y. stored_said_refusal (used_of (w x).spans) (ok y)) (Calls.entry maps (w x) k) h
refused_zeros w x (occupied_get i k) h = zeros (held_said i) 0 (λ n. refl) (λ y. refl) (Calls.occupied_get maps (w x) i k) h
refused_zeros w x (occupied_remove i k) h = zeros taken_said 0 (λ n. refl) (λ y. refl) (Calls.occupied_remove maps (w x) i k) h
refused_zeros w x (occupied_remove_entry i k) h = zeros taken_said 0 (λ n. refl) (λ y. refl) (Calls.occupied_remove maps (w x) i k) h
refused_zeros w x (step a b) h = zeros (step_said (span_handed (offset_of (w x).spans) (length_of (w x).spans)) a) a (λ n. refl) (λ y. step_said_refusal (span_handed (offset_of (w x).spans) (length_of (w x).spans)) (λ k v p e. refl) a (ok y)) (stepping maps (w x) a b) h
refused_zeros w x (occupied_set i k v) h = zeros (swapped_said i) 0 (λ n. refl) (λ y. refl) (Calls.occupied_get maps (w x) i k) h
refused_zeros w x (vacant_insert i k v) h = zeros (in_slot_said i) 0 (λ n. refl) (λ y. refl) (Calls.vacant_insert maps (w x) i k v) h
refused_zeros w x (or_insert a k v) h = zeros (in_slot_said (slot_of (handle_of (length (w x).spans.marks) a))) 0 (λ n. refl) (λ y. refl) (Calls.or_insert maps (w x) (handle_of (length (w x).spans.marks) a) k v) h
refused_zeros w x (insert_entry a k v) h = zeros (in_slot_said (slot_of (handle_of (length (w x).spans.marks) a))) 0 (λ n. refl) (λ y. refl) (Calls.insert_entry maps (w x) (handle_of (length (w x).spans.marks) a) k v) h

-- A refusal tells its number, zeros elsewhere, and the walk as it came, on any memory, lent walks included.
pub demand_1_zeros : ZerosElsewhere maps published
unfolding one map_one given_to
demand_1_zeros = record {
  calls = refused_zeros;
  lent_steps = λ w x a b h. lent_zeros maps published maps_linked w x a b (refused_zeros w x (step a b) (λ e. h (ap (λ t. t.numbers.refusal) (steps_lent w x a b) ∙ e)));
}

-- On any memory an accepted lookup tells its path's own examined number.
pub demand_2_examined : PathCounted maps published
unfolding told_by one map_one asked_by key_of get_of contains_of insert_of remove_of entry_of got_said contained_said removed_said entered_said stored_said
demand_2_examined w x make k q e = clash cc
demand_2_examined w x clear k q e = clash cc
demand_2_examined w x capacity k q e = clash cc
demand_2_examined w x len k q e = clash cc
demand_2_examined w x is_empty k q e = clash cc
demand_2_examined w x (reserve (n, b)) k q e = clash cc
demand_2_examined w x (get a) k q e = get_counted maps (w x) a got_said (λ n. refl) (λ v i e. refl) (λ e. refl) e ∙ ap (path_length maps (w x)) (cc)
demand_2_examined w x (contains_key a) k q e = get_counted maps (w x) a contained_said (λ n. refl) (λ v i e. refl) (λ e. refl) e ∙ ap (path_length maps (w x)) (cc)
demand_2_examined w x (remove a) k q e = remove_counted maps (w x) a removed_said (λ n. refl) (λ v i e. refl) (λ e. refl) e ∙ ap (path_length maps (w x)) (cc)
demand_2_examined w x (entry a) k q e = entry_counted maps (w x) a entered_said (λ n. refl) (λ v i e. refl) (λ i e. refl) e ∙ ap (path_length maps (w x)) (cc)
demand_2_examined w x (copy y) k q e = clash cc
demand_2_examined w x (union_prefer_right y) k q e = clash cc
demand_2_examined w x (insert a v) k q e = entry_counted maps (w x) a (stored_said (used_of (w x).spans)) (λ n. refl) (λ v i e. refl) (λ i e. refl) e ∙ ap (path_length maps (w x)) (cc)
demand_2_examined w x (occupied_get i a) k q e = clash cc
demand_2_examined w x (occupied_remove i a) k q e = clash cc
demand_2_examined w x (occupied_remove_entry i a) k q e = clash cc
demand_2_examined w x (step a b) k q e = clash cc
demand_2_examined w x (occupied_set i a v) k q e = clash cc
demand_2_examined w x (vacant_insert i a v) k q e = clash cc
demand_2_examined w x (or_insert h a v) k q e = clash cc
demand_2_examined w x (insert_entry h a v) k q e = clash cc

-- On any memory, where a call tells where a key stands, that part of the arena after it is the key.
stored_bytes : (m : ByteMemory values) (k : List ℕ) (v : ℕ) (o : Or (Spot ℕ)) → Calls.entry maps m k ≡ o → (stored_said (used_of m.spans) o).case ≡ FRESH → part (after_insert maps m k v).spans.arena (stored_said (used_of m.spans) o).offset (length k) ≡ k
unfolding stored_said
stored_bytes m k v (no n) e q = absurd (omega arith)
stored_bytes m k v (ok (occupied i u d)) e q = absurd (omega arith)
stored_bytes m k v (ok (vacant i d)) e q = fresh_bytes values m k v i d e

handed_bytes : (m : ByteMemory values) (a b : ℕ) (o : Or (StepAnswer (List ℕ) ℕ)) → stepping maps m a b ≡ o → (step_said (span_handed (offset_of m.spans) (length_of m.spans)) a o).case ≡ PAIR → maps.slots m ((step_said (span_handed (offset_of m.spans) (length_of m.spans)) a o).walk - 1) ≡ live (part m.spans.arena (step_said (span_handed (offset_of m.spans) (length_of m.spans)) a o).offset (step_said (span_handed (offset_of m.spans) (length_of m.spans)) a o).length) (step_said (span_handed (offset_of m.spans) (length_of m.spans)) a o).value
unfolding step_said
handed_bytes m a b (no n) e q = absurd (omega arith)
handed_bytes m a b (ok (pair k v y d)) e q = let (p, r) = handed_slot values m a b k v y d e in p ∙ ap (λ c. live c v) (sym r)
handed_bytes m a b (ok (nothing y d)) e q = absurd (omega arith)
handed_bytes m a b (ok (done y)) e q = absurd (omega arith)

pub demand_2_spans : (w : World maps) (x : ℕ) (c : Call) → Stands w x c (told_by w x c)
unfolding told_by insert_of step_of
demand_2_spans w x c = (
  (λ k v e. rw e (stored_bytes (w x) k v (Calls.entry maps (w x) k) refl)),
  (λ a b e. rw e (handed_bytes (w x) a b (stepping maps (w x) a b) refl)),
)

-- The same of the tables after it.
stands_after : (w : World maps) (x : ℕ) (c : Call) → Stands w x c (told (told_by w x c).numbers (published.after w x c x))
stands_after w x c = rw (placed_here w x (told_by w x c).memory) (demand_2_spans w x c)

-- Demand 2: any list of published calls over any number of tables, on any memory: from each table's make on its finite map is known, and every call tells what it owes.
pub demand_2 : (cs : List (ℕ × Call)) (w : World maps) → ToldInStep maps published owed cs (unknown maps published w)
demand_2 cs w = told_in_step maps published maps_linked maps_lawful owed (λ s h x c f e. (owes_told s h x c f e, stands_after s.world x c)) cs (unknown maps published w) (λ y f q. clash cc)

-- Demand 3: after any published calls on any memory, a walk of a table whose map is then known, by value or lent, stepped with any published calls in between, keeps its promises as long as the map stays known.
pub demand_3 : (cs : List (ℕ × Call)) (w : World maps) (x : ℕ) → is_some ((after_calls maps published cs w).maps x) ≡ true → Walked (walk_of maps published cs w x) (after_calls maps published cs w)
demand_3 cs w x k = walk_told maps published maps_linked maps_lawful cs w x k

-- With no call in between: upstream's clauses for iter, keys and values.
pub demand_3_iterated : (cs : List (ℕ × Call)) (w : World maps) (x : ℕ) (f : Finite (List ℕ) ℕ) → (after_calls maps published cs w).maps x ≡ some f → (bs : List Step) → walk_after (walk_of maps published cs w x) (after_calls maps published cs w) tt 0 (only_steps bs) ≡ maps.size ((after_calls maps published cs w).world x) → Iterated maps.keys f (handed (walk_of maps published cs w x) (after_calls maps published cs w) tt 0 (only_steps bs))
demand_3_iterated cs w x f k bs e = iterated_told maps published maps_linked maps_lawful cs w x f k bs e

-- And each key of the map is handed out once.
pub demand_3_once : (cs : List (ℕ × Call)) (w : World maps) (x : ℕ) → is_some ((after_calls maps published cs w).maps x) ≡ true → (k : List ℕ) (bs : List Step) → has (walk_of maps published cs w x) (after_calls maps published cs w) k ≡ true → walk_after (walk_of maps published cs w x) (after_calls maps published cs w) tt 0 (only_steps bs) ≡ maps.size ((after_calls maps published cs w).world x) → times (walk_of maps published cs w x) k (after_calls maps published cs w) tt 0 (only_steps bs) ≡ 1
demand_3_once cs w x q k bs h e = walk_once (walk_of maps published cs w x) (after_calls maps published cs w) (demand_3 cs w x q) k bs h e

-- What demand 2 comes to, by told numbers alone: on a known table a key of allowed length that was inserted is found with its value, one that was removed is absent.
pub told_after_insert : (s : Book maps) → Right maps published s → (x : ℕ) (f : Finite (List ℕ) ℕ) → s.maps x ≡ some f → (k : List ℕ) (v : ℕ) → asked_of k ≡ 0 → (told_by s.world x (insert k v)).numbers.refusal ≡ 0 → ((told_by (noted maps published s x (insert k v)).world x (get k)).numbers.case ≡ FOUND) × ((told_by (noted maps published s x (insert k v)).world x (get k)).numbers.value ≡ v)
unfolding one map_one
told_after_insert s h x f e k v b r =
    let g = noted maps published s x (insert k v) in
    let run = told_in_step maps published maps_linked maps_lawful owed (λ s h x c f e. (owes_told s h x c f e, stands_after s.world x c)) ((x, (insert k v)) ∷ (x, get k) ∷ []) s h in
    let o = told_owed maps published maps_linked owed x (get k) [] g (told_rest maps published maps_linked owed x (insert k v) ((x, get k) ∷ []) s run) _ (inserted_known maps published maps_linked s x (insert k v) k v f (alone_accepted x (told_by s.world x (insert k v)).numbers (one s.world x (insert k v)) r) e) in
    let q = o.0 ∙ looked_inserted maps (g.world x) f k (λ v i e. looking_up FOUND v i e) (λ e. looking_up ABSENT 0 0 e) v b in
    (ap (λ n. n.case) q, ap (λ n. n.value) q)

pub told_after_remove : (s : Book maps) → Right maps published s → (x : ℕ) (f : Finite (List ℕ) ℕ) → s.maps x ≡ some f → (k : List ℕ) → asked_of k ≡ 0 → (told_by s.world x (remove k)).numbers.refusal ≡ 0 → (told_by (noted maps published s x (remove k)).world x (get k)).numbers.case ≡ ABSENT
unfolding one map_one
told_after_remove s h x f e k b r =
    let g = noted maps published s x (remove k) in
    let run = told_in_step maps published maps_linked maps_lawful owed (λ s h x c f e. (owes_told s h x c f e, stands_after s.world x c)) ((x, remove k) ∷ (x, get k) ∷ []) s h in
    let o = told_owed maps published maps_linked owed x (get k) [] g (told_rest maps published maps_linked owed x (remove k) ((x, get k) ∷ []) s run) _ (removed_known maps published maps_linked s x (remove k) k f (alone_accepted x (told_by s.world x (remove k)).numbers (one s.world x (remove k)) r) e) in
    ap (λ n. n.case) (o.0 ∙ looked_removed maps (g.world x) f k (λ v i e. looking_up FOUND v i e) (λ e. looking_up ABSENT 0 0 e) b)

-- Reserve, on any memory of right sizes in which examining every slot shows no damage: room exactly when the slots that are not live suffice, and the arena bytes that are not used; 7 exactly when the slots do not, 8 exactly when they do and the bytes do not.
pub reserve_exactly : (w : World maps) (x n b : ℕ) → maps.sized (w x) ≡ true → (AnyDamage maps (w x) → ⊥) → RoomTold (maps.size (w x) - live_count maps (w x)) (maps.bytes (w x) - used maps (w x)) n b (told_by w x (reserve (n, b))).numbers
unfolding told_by reserve_of
reserve_exactly w x n b z h = reserve_told maps (w x) z h n b

-- What insert and contains tell and leave.
keys_told : KeysTold maps published key_calls
unfolding told_by insert_of contains_of stored_said contained_said
keys_told = record {
  fresh = λ w x k v i e q. rw q;
  free = λ w x k v q. fresh_said (stored_said (used_of (w x).spans)) (λ n. refl) (λ i u e p. omega arith) (Calls.entry maps (w x) k) q;
  leaves = λ w x k v. placed_here w x (after_insert maps (w x) k v);
  gone = λ w x k q. absent_said contained_said (λ n. refl) (λ u i e p. omega arith) (Calls.get maps (w x) k) q;
}

-- After any published calls on any memory, on a table that is then known: where reserve tells room, any so many different absent keys that may be stored, of that many bytes in all, go in, in any order, each told fresh, and fewer do too; and where so many went in so, reserve tells room.
pub reserve_goes_in : (cs : List (ℕ × Call)) (w : World maps) (x : ℕ) → is_some ((after_calls maps published cs w).maps x) ≡ true → (n b : ℕ) → Reserves maps published key_calls x (after_calls maps published cs w).world (reserve (n, b)) n b
unfolding told_by reserve_of
reserve_goes_in cs w x k n b = reserves_told maps published key_calls keys_told maps_lawful x maps_linked cs w k (reserve (n, b)) n b refl

-- On any memory reserve is refused 5, whatever is asked for, exactly where the insert of a key that may be stored is.
pub reserve_5_as_insert : (w : World maps) (x n b : ℕ) (k : List ℕ) (v : ℕ) → maps.kept k ≡ 0 → ((told_by w x (reserve (n, b))).numbers.refusal ≡ 5) ↔ ((told_by w x (insert k v)).numbers.refusal ≡ 5)
unfolding told_by reserve_of insert_of
reserve_5_as_insert w x n b k v y = rw (room_said_refusal (Calls.reserve maps (w x) n b), stored_said_refusal (used_of (w x).spans) (Calls.entry maps (w x) k)) (Laws.reserve_5_as_insert maps maps_lawful.homes (w x) (any_damage_is values (w x)) n b k y)
