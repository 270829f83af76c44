-- The three demands for the integer set, over its published calls.
-- One line a call in each theorem. That a call tells what it owes is a law of kinds/proofs/Owed.antt, given the function that tells its answer and, by `refl`,
-- what that function tells of a refusal and of each case. The demands then follow from the theory by kinds/proofs/Published.antt.
use Prim.Native.Nat.{ℕ, ◌-◌}
use mathlib.Core.Bool.{true, false}
use mathlib.Core.List.{List, [], ◌∷◌}
use mathlib.Core.Logic.{inl}
use mathlib.Core.Option.{some}
use mathlib.Core.Path.{◌≡◌, refl, sym, ◌∙◌, ap}
use native.Mathlib.Omega.{arith}
use lib.Dec.{eqb}
use Rattle.model.specs.Calls.{ok, after_insert}
use Rattle.model.specs.Calls
use Rattle.model.specs.Machine.{fine, number, truth, seen, spot, stepped, tells, leaves, answer, left, stepping, World}
use Rattle.model.specs.Lawful.{Lawful}
use Rattle.model.specs.Demand1.{First, Least, AnyDamage, refusal, number_in}
use Rattle.model.specs.Demand2.{key_of, Book}
use Rattle.model.specs.Demand3.{has, walk_after, times, handed, Walked}
use Rattle.model.specs.Iterated.{only_steps, Iterated}
use Rattle.model.specs.Finite.{Finite, is_some}
use Rattle.model.specs.Store.{path_length, live_count, used}
use Rattle.model.specs.Places.{run_names}
use Rattle.model.proofs.Cases.{clash}
use Rattle.model.proofs.Iterated.{walk_once}
use Rattle.model.proofs.Least.{rising}
use Rattle.model.proofs.Runs.{placed_here}
use Rattle.model.proofs.Numbered.{step_numbered}
use Rattle.answers.specs.Cases.{DONE, ROOM, PRESENT, ABSENT}
use Rattle.answers.specs.Said.{done_said, count_said, empty_said, room_said, contained_said, dropped_said, member_said, added_said, step_said, key_handed}
use Rattle.answers.proofs.Said.{added_said_refusal, contained_said_refusal, count_said_refusal, done_said_refusal, dropped_said_refusal, empty_said_refusal, member_said_refusal, room_said_refusal, step_said_refusal}
use Rattle.answers.specs.declared.Numbers.{Numbers}
use Rattle.kinds.specs.Owed.{refusing, only, looking_up}
use Rattle.kinds.proofs.Owed.{get_owed, remove_owed, entry_owed, length_owed, capacity_owed, reserve_owed, copy_owed, step_owed, get_counted, remove_counted, entry_counted, zeros, looked_inserted, looked_removed, paces_once}
use Rattle.kinds.specs.Columns.{nothing}
use Rattle.kinds.specs.Published.{Linked, ZerosElsewhere, PathCounted, asked_by, given_to, Right, ToldInStep, unknown, noted, after_calls, Step, walk_of}
use Rattle.kinds.specs.Reserving.{RoomTold, Reserves}
use Rattle.kinds.specs.Told.{told}
use Rattle.kinds.proofs.Columns.{nothing_lawful}
use Rattle.kinds.proofs.Simple.{simply_linked, alone_accepted}
use Rattle.kinds.proofs.Published.{reported, lowest_told, refused_same, named_only, lent_zeros, inserted_known, removed_known, told_in_step, told_owed, told_rest, walk_told, iterated_told, heard_step}
use Rattle.kinds.proofs.Reserving.{reserve_told, fresh_said, absent_said, KeysTold, reserves_told}
use Rattle.kinds.specs.Calls.{make_of, dropped_of, capacity_of, len_of, is_empty_of, reserve_of, contains_of, copy_of}
use Rattle.kinds.specs.Moved.{moved_on}
use Rattle.int_slots.specs.Places.{Place, word_in, places}
use Rattle.int_slots.proofs.Lawful.{int_lawful}
use Rattle.int_slots.proofs.Places.{int_steady, int_apart}
use Rattle.int_slots.specs.Sets.{sets}
use Rattle.int_slots.specs.Kinds.{set_insert_of, set_get_of}
use Rattle.int_slots.specs.Steps.{set_step_of}
use Rattle.promises.specs.IntSet.{Call, make, clear, capacity, len, is_empty, reserve, get, contains, insert, remove, copy, step, told_by, one, simple, published, key_calls, key_told, Owes, heard, lent_by, owed}
use Rattle.promises.specs.SetAlphabet.{set_one}

-- Integer sets are a lawful store.
pub sets_lawful : Lawful sets
sets_lawful = int_lawful nothing nothing_lawful

-- Each published call tells the refusal of the theory's call.
number_told : (w : World sets) (x : ℕ) (c : Call) → (told_by w x c).numbers.refusal ≡ refusal (answer sets w x (one w x c))
unfolding told_by one set_one answer tells left leaves make_of capacity_of len_of is_empty_of reserve_of set_get_of contains_of set_insert_of dropped_of copy_of set_step_of refusal
number_told w x make = done_said_refusal _ ∙ sym (reported (λ n. fine) (λ a. refl) _)
number_told w x clear = done_said_refusal _ ∙ sym (reported (λ n. fine) (λ a. refl) _)
number_told w x capacity = count_said_refusal _ ∙ sym (reported number (λ a. refl) _)
number_told w x len = count_said_refusal _ ∙ sym (reported number (λ a. refl) _)
number_told w x is_empty = empty_said_refusal _ ∙ sym (reported (λ n. truth (eqb n 0)) (λ a. refl) _)
number_told w x (reserve n) = room_said_refusal _ ∙ sym (reported (λ u. fine) (λ a. refl) _)
number_told w x (get k) = member_said_refusal k _ ∙ sym (reported seen (λ a. refl) _)
number_told w x (contains k) = contained_said_refusal _ ∙ sym (reported seen (λ a. refl) _)
number_told w x (insert k) = added_said_refusal _ ∙ sym (reported spot (λ a. refl) _)
number_told w x (remove k) = dropped_said_refusal _ ∙ sym (reported seen (λ a. refl) _)
number_told w x (copy y) = done_said_refusal _ ∙ sym (reported (λ u. fine) (λ a. refl) _)
number_told w x (step at budget) = step_said_refusal key_handed (λ k v p e. refl) at _ ∙ sym (reported stepped (λ a. refl) _)

-- And leaves its memory.
memory_told : (w : World sets) (x : ℕ) (c : Call) → (told_by w x c).memory ≡ left sets w x (one w x c)
unfolding told_by one set_one answer tells left leaves make_of capacity_of len_of is_empty_of reserve_of set_get_of contains_of set_insert_of dropped_of copy_of set_step_of
memory_told w x make = refl
memory_told w x clear = refl
memory_told w x capacity = refl
memory_told w x len = refl
memory_told w x is_empty = refl
memory_told w x (reserve n) = refl
memory_told w x (get k) = refl
memory_told w x (contains k) = refl
memory_told w x (insert k) = refl
memory_told w x (remove k) = refl
memory_told w x (copy y) = refl
memory_told w x (step at budget) = refl

-- A step's numbers, heard, are the theory's step, on any memory.
steps_heard : (w : World sets) (x a b : ℕ) → heard (w x) (told_by w x (step a b)).numbers ≡ stepping sets (w x) a b
unfolding told_by set_step_of
steps_heard w x a b = heard_step (λ n. n.key) (λ n. tt) key_handed a (stepping sets (w x) a b) (step_numbered sets (w x) a b) (λ k v y e q. (refl, refl, refl, refl, refl, refl))

-- A lent step tells what a step tells, and leaves the walk that it tells.
steps_lent : (w : World sets) (x a b : ℕ) → lent_by w x a b ≡ told (told_by w x (step a b)).numbers (told_by w x (step a b)).numbers.walk
unfolding told_by lent_by moved_on
steps_lent w x a b = refl

-- The published calls carry out calls of the theory.
pub sets_linked : Linked sets published
sets_linked = simply_linked sets sets_lawful.homes simple (record { number = number_told; memory = memory_told; hears = steps_heard; lends = steps_lent })

-- Where the set of a call's table is known, the call tells what it owes.
owes_told : (s : Book sets) → Right sets published s → (x : ℕ) (c : Call) (f : Finite ℕ (Unit {0})) → s.maps x ≡ some f → Owes s x f c (told_by s.world x c).numbers
unfolding told_by make_of capacity_of len_of is_empty_of reserve_of contains_of dropped_of copy_of set_insert_of set_get_of set_step_of done_said count_said empty_said room_said contained_said dropped_said member_said added_said step_said
owes_told s h x make f e = capacity_owed sets sets_lawful (s.world x) f (h x f e) done_said (only DONE) refl
owes_told s h x clear f e = capacity_owed sets sets_lawful (s.world x) f (h x f e) done_said (only DONE) refl
owes_told s h x capacity f e = capacity_owed sets sets_lawful (s.world x) f (h x f e) count_said _ refl
owes_told s h x len f e = length_owed sets sets_lawful (s.world x) f (h x f e) count_said _ refl
owes_told s h x is_empty f e = length_owed sets sets_lawful (s.world x) f (h x f e) empty_said _ refl
owes_told s h x (reserve a) f e = reserve_owed sets sets_lawful (s.world x) f (h x f e) room_said (only ROOM) (λ n. refl) refl a 0
owes_told s h x (copy y) f e = copy_owed sets sets_lawful (s.world x) f (h x f e) done_said (only DONE) (λ n. refl) refl (s.world y)
owes_told s h x (get k) f e = get_owed sets sets_lawful (s.world x) f (h x f e) (member_said k) _ _ (λ n. refl) (λ v i e. refl) (λ e. refl) k
owes_told s h x (contains k) f e = get_owed sets sets_lawful (s.world x) f (h x f e) contained_said _ _ (λ n. refl) (λ v i e. refl) (λ e. refl) k
owes_told s h x (insert k) f e = entry_owed sets sets_lawful (s.world x) f (h x f e) added_said _ _ (λ n. refl) (λ v i e. refl) (λ i e. refl) k
owes_told s h x (remove k) f e = remove_owed sets sets_lawful (s.world x) f (h x f e) dropped_said _ _ (λ n. refl) (λ v i e. refl) (λ e. refl) k
owes_told s h x (step a b) f e = step_owed sets sets_lawful (s.world x) f (h x f e) (step_said key_handed a) a b key_told (λ n. refl) (λ j k v e q. refl) (λ y e. refl) (λ y. refl)

-- At most one answer meets what a call owes.
pub owes_once : (s : Book sets) (x : ℕ) (f : Finite ℕ (Unit {0})) (c : Call) (n o : Numbers) → Owes s x f c n → Owes s x f c o → n ≡ o
owes_once s x f make n o p q = p ∙ sym q
owes_once s x f clear n o p q = p ∙ sym q
owes_once s x f capacity n o p q = p ∙ sym q
owes_once s x f len n o p q = p ∙ sym q
owes_once s x f is_empty n o p q = p ∙ sym q
owes_once s x f (reserve a) n o p q = p ∙ sym q
owes_once s x f (get k) n o p q = p ∙ sym q
owes_once s x f (contains k) n o p q = p ∙ sym q
owes_once s x f (insert k) n o p q = p ∙ sym q
owes_once s x f (remove k) n o p q = p ∙ sym q
owes_once s x f (copy y) n o p q = p ∙ sym q
owes_once s x f (step a b) n o p q = paces_once sets (s.world x) f key_told a b n o p q

-- Demand 1: on any memory each call tells the first of its own rows that applies by the scope's table, and 0 where none does.
pub demand_1 : (w : World sets) (x : ℕ) (c : Call) → First (published.rows w x c) (told_by w x c).numbers.refusal
demand_1 w x c = sets_linked.first w x c

-- Which is the lowest number that applies.
pub demand_1_lowest : (w : World sets) (x : ℕ) (c : Call) → Least (published.rows w x c) (told_by w x c).numbers.refusal
demand_1_lowest w x c = lowest_told sets published sets_linked w x c (rising sets (λ k. inl refl) (λ k. inl refl) (λ m. refl) w x (one w x c))

-- A refused call leaves every lent place of every table as it was.
pub demand_1_still : (w : World sets) (x : ℕ) (c : Call) → ((told_by w x c).numbers.refusal ≡ 0 → ⊥) → published.after w x c ≡ w
demand_1_still w x c h = refused_same sets published sets_linked w x c refl h

-- A call changes no lent place, of any table, that no call of the theory which it carries out names.
pub demand_1_named : (w : World sets) (x : ℕ) (c : Call) (y : ℕ) (p : Place) → run_names sets (places nothing) p y w (published.meant w x c) ≡ false → word_in nothing (published.after w x c y) p ≡ word_in nothing (w y) p
demand_1_named w x c y p e = named_only sets published sets_linked (int_steady nothing nothing_lawful) (places nothing) (int_apart nothing nothing_lawful) w x c y p e

-- A refused call tells its number, zeros elsewhere, and the walk as it came.
refused_zeros : (w : World sets) (x : ℕ) (c : Call) → ((told_by w x c).numbers.refusal ≡ 0 → ⊥) → (told_by w x c).numbers ≡ refusing (told_by w x c).numbers.refusal (published.given w x c)
unfolding told_by one set_one given_to make_of capacity_of len_of is_empty_of reserve_of contains_of dropped_of copy_of set_insert_of set_get_of set_step_of done_said count_said empty_said room_said contained_said dropped_said member_said added_said step_said number_in
refused_zeros w x make h = zeros done_said 0 (λ n. refl) (λ y. refl) (Calls.capacity sets (w x)) h
refused_zeros w x clear h = zeros done_said 0 (λ n. refl) (λ y. refl) (Calls.capacity sets (w x)) h
refused_zeros w x capacity h = zeros count_said 0 (λ n. refl) (λ y. refl) (Calls.capacity sets (w x)) h
refused_zeros w x len h = zeros count_said 0 (λ n. refl) (λ y. refl) (Calls.length sets (w x)) h
refused_zeros w x is_empty h = zeros empty_said 0 (λ n. refl) (λ y. empty_said_refusal (ok y)) (Calls.length sets (w x)) h
refused_zeros w x (reserve n) h = zeros room_said 0 (λ n. refl) (λ y. refl) (Calls.reserve sets (w x) n 0) h
refused_zeros w x (copy y) h = zeros done_said 0 (λ n. refl) (λ y. refl) (Calls.copy sets (w x) (w y)) h
refused_zeros w x (get k) h = zeros (member_said k) 0 (λ n. refl) (λ y. member_said_refusal k (ok y)) (Calls.get sets (w x) k) h
refused_zeros w x (contains k) h = zeros contained_said 0 (λ n. refl) (λ y. contained_said_refusal (ok y)) (Calls.get sets (w x) k) h
refused_zeros w x (insert k) h = zeros added_said 0 (λ n. refl) (λ y. added_said_refusal (ok y)) (Calls.entry sets (w x) k) h
refused_zeros w x (remove k) h = zeros dropped_said 0 (λ n. refl) (λ y. dropped_said_refusal (ok y)) (Calls.remove sets (w x) k) h
refused_zeros w x (step a b) h = zeros (step_said key_handed a) a (λ n. refl) (λ y. step_said_refusal key_handed (λ k v p e. refl) a (ok y)) (stepping sets (w x) a b) h

-- A refusal tells its number, zeros elsewhere, and the walk as it came, on any memory, lent walks included.
pub demand_1_zeros : ZerosElsewhere sets published
unfolding one set_one given_to
demand_1_zeros = record {
  calls = refused_zeros;
  lent_steps = λ w x a b h. lent_zeros sets published sets_linked w x a b (refused_zeros w x (step a b) (λ e. h (ap (λ t. t.numbers.refusal) (steps_lent w x a b) ∙ e)));
}

-- On any memory an accepted lookup tells its path's own examined number.
pub demand_2_examined : PathCounted sets published
unfolding told_by one set_one asked_by key_of contains_of dropped_of set_insert_of set_get_of set_step_of contained_said dropped_said member_said added_said
demand_2_examined w x make k q e = clash cc
demand_2_examined w x clear k q e = clash cc
demand_2_examined w x capacity k q e = clash cc
demand_2_examined w x len k q e = clash cc
demand_2_examined w x is_empty k q e = clash cc
demand_2_examined w x (reserve n) k q e = clash cc
demand_2_examined w x (copy y) k q e = clash cc
demand_2_examined w x (get a) k q e = get_counted sets (w x) a (member_said a) (λ n. refl) (λ v i e. refl) (λ e. refl) e ∙ ap (path_length sets (w x)) (cc)
demand_2_examined w x (contains a) k q e = get_counted sets (w x) a contained_said (λ n. refl) (λ v i e. refl) (λ e. refl) e ∙ ap (path_length sets (w x)) (cc)
demand_2_examined w x (insert a) k q e = entry_counted sets (w x) a added_said (λ n. refl) (λ v i e. refl) (λ i e. refl) e ∙ ap (path_length sets (w x)) (cc)
demand_2_examined w x (remove a) k q e = remove_counted sets (w x) a dropped_said (λ n. refl) (λ v i e. refl) (λ e. refl) e ∙ ap (path_length sets (w x)) (cc)
demand_2_examined w x (step a b) k q e = clash cc

-- Demand 2: any list of published calls over any number of tables, on any memory: from each table's make on its finite set is known, and every call tells what it owes.
pub demand_2 : (cs : List (ℕ × Call)) (w : World sets) → ToldInStep sets published owed cs (unknown sets published w)
demand_2 cs w = told_in_step sets published sets_linked sets_lawful owed owes_told cs (unknown sets published w) (λ y f q. clash cc)

-- Demand 3: after any published calls on any memory, a walk of a table whose set is then known, by value or lent, stepped with any published calls in between, keeps its promises as long as the set stays known.
pub demand_3 : (cs : List (ℕ × Call)) (w : World sets) (x : ℕ) → is_some ((after_calls sets published cs w).maps x) ≡ true → Walked (walk_of sets published cs w x) (after_calls sets published cs w)
demand_3 cs w x k = walk_told sets published sets_linked sets_lawful cs w x k

-- With no call in between: upstream's clauses for iter, keys and values.
pub demand_3_iterated : (cs : List (ℕ × Call)) (w : World sets) (x : ℕ) (f : Finite ℕ (Unit {0})) → (after_calls sets published cs w).maps x ≡ some f → (bs : List Step) → walk_after (walk_of sets published cs w x) (after_calls sets published cs w) tt 0 (only_steps bs) ≡ sets.size ((after_calls sets published cs w).world x) → Iterated sets.keys f (handed (walk_of sets published cs w x) (after_calls sets published cs w) tt 0 (only_steps bs))
demand_3_iterated cs w x f k bs e = iterated_told sets published sets_linked sets_lawful cs w x f k bs e

-- And each key of the set is handed out once.
pub demand_3_once : (cs : List (ℕ × Call)) (w : World sets) (x : ℕ) → is_some ((after_calls sets published cs w).maps x) ≡ true → (k : ℕ) (bs : List Step) → has (walk_of sets published cs w x) (after_calls sets published cs w) k ≡ true → walk_after (walk_of sets published cs w x) (after_calls sets published cs w) tt 0 (only_steps bs) ≡ sets.size ((after_calls sets published cs w).world x) → times (walk_of sets published cs w x) k (after_calls sets published cs w) tt 0 (only_steps bs) ≡ 1
demand_3_once cs w x q k bs h e = walk_once (walk_of sets published cs w x) (after_calls sets published cs w) (demand_3 cs w x q) k bs h e

-- What demand 2 comes to, by told numbers alone: on a known table a key that was inserted is there, one that was removed is absent.
pub told_after_insert : (s : Book sets) → Right sets published s → (x : ℕ) (f : Finite ℕ (Unit {0})) → s.maps x ≡ some f → (k : ℕ) → (told_by s.world x (insert k)).numbers.refusal ≡ 0 → ((told_by (noted sets published s x (insert k)).world x (contains k)).numbers.case ≡ PRESENT)
unfolding one set_one
told_after_insert s h x f e k r =
    let g = noted sets published s x (insert k) in
    let run = told_in_step sets published sets_linked sets_lawful owed owes_told ((x, (insert k)) ∷ (x, contains k) ∷ []) s h in
    let o = told_owed sets published sets_linked owed x (contains k) [] g (told_rest sets published sets_linked owed x (insert k) ((x, contains k) ∷ []) s run) _ (inserted_known sets published sets_linked s x (insert k) k tt f (alone_accepted x (told_by s.world x (insert k)).numbers (one s.world x (insert k)) r) e) in
    let q = o ∙ looked_inserted sets (g.world x) f k (λ v i e. looking_up PRESENT 0 0 e) (λ e. looking_up ABSENT 0 0 e) tt refl in
    ap (λ n. n.case) q

pub told_after_remove : (s : Book sets) → Right sets published s → (x : ℕ) (f : Finite ℕ (Unit {0})) → s.maps x ≡ some f → (k : ℕ) → (told_by s.world x (remove k)).numbers.refusal ≡ 0 → (told_by (noted sets published s x (remove k)).world x (contains k)).numbers.case ≡ ABSENT
unfolding one set_one
told_after_remove s h x f e k r =
    let g = noted sets published s x (remove k) in
    let run = told_in_step sets published sets_linked sets_lawful owed owes_told ((x, remove k) ∷ (x, contains k) ∷ []) s h in
    let o = told_owed sets published sets_linked owed x (contains k) [] g (told_rest sets published sets_linked owed x (remove k) ((x, contains k) ∷ []) s run) _ (removed_known sets published sets_linked s x (remove k) k f (alone_accepted x (told_by s.world x (remove k)).numbers (one s.world x (remove k)) r) e) in
    ap (λ n. n.case) (o ∙ looked_removed sets (g.world x) f k (λ v i e. looking_up PRESENT 0 0 e) (λ e. looking_up ABSENT 0 0 e) refl)

-- Reserve, on any memory of right sizes in which examining every slot shows no damage: room exactly when the slots that are not live suffice; 7 exactly when they do not.
pub reserve_exactly : (w : World sets) (x n : ℕ) → sets.sized (w x) ≡ true → (AnyDamage sets (w x) → ⊥) → RoomTold (sets.size (w x) - live_count sets (w x)) (sets.bytes (w x) - used sets (w x)) n 0 (told_by w x (reserve n)).numbers
unfolding told_by reserve_of
reserve_exactly w x n z h = reserve_told sets (w x) z h n 0

-- What insert and contains tell and leave.
keys_told : KeysTold sets published key_calls
unfolding told_by set_insert_of contains_of added_said contained_said
keys_told = record {
  fresh = λ w x k v i e q. rw q;
  free = λ w x k v q. fresh_said added_said (λ n. refl) (λ i u e p. omega arith) (Calls.entry sets (w x) k) q;
  leaves = λ w x k v. placed_here w x (after_insert sets (w x) k v);
  gone = λ w x k q. absent_said contained_said (λ n. refl) (λ u i e p. omega arith) (Calls.get sets (w x) k) q;
}

-- After any published calls on any memory, on a table that is then known: where reserve tells room, any so many different absent keys that may be stored go in, in any order, each told fresh, and fewer do too; and where so many went in so, reserve tells room.
pub reserve_goes_in : (cs : List (ℕ × Call)) (w : World sets) (x : ℕ) → is_some ((after_calls sets published cs w).maps x) ≡ true → (n : ℕ) → Reserves sets published key_calls x (after_calls sets published cs w).world (reserve n) n 0
unfolding told_by reserve_of
reserve_goes_in cs w x k n = reserves_told sets published key_calls keys_told sets_lawful x sets_linked cs w k (reserve n) n 0 refl
