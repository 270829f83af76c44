-- The published calls of the integer map: what each tells and leaves, and the one call of the theory that it is.
use Rattle.std.specs.Prelude.{ℕ, cond, ◌≡◌, eqb, length}
use Rattle.std.proofs.Math.Option.{some}
use Rattle.model.specs.Machine as model
use Rattle.model.specs.Machine.{World}
use Rattle.kinds.specs.Columns.{values}
use Rattle.kinds.specs.Told.{ToldAndLeft, told}
use Rattle.kinds.specs.Published.{Published, Simple, simply, Duty, heard_as}
use Rattle.kinds.specs.Owed.{only, counting, looking_up, copying, handling, admitting, looking, placing, reserving, holding, opening, OwesStep, handing, joining, keeping, replacing}
use Rattle.kinds.specs.Reserving.{KeyCalls}
use Rattle.model.specs.Finite.{Finite}
use Rattle.model.specs.Finite
use Rattle.model.specs.Calls.{Or}
use Rattle.model.specs.Walk.{StepAnswer}
use Rattle.model.specs.Demand2.{Book}
use Rattle.answers.specs.Cases.{DONE, COUNT, EMPTY, HOLDS, ROOM, FOUND, PRESENT, ABSENT, FRESH, REPLACED, REMOVED, OCCUPIED, VACANT, VALUE, WAS, NOW}
use Rattle.answers.specs.declared.Numbers.{Numbers}
use Rattle.kinds.specs.Moved.{moved_on}
use Rattle.int_slots.specs.Memory.{IntMemory}
use Rattle.int_slots.specs.Maps.{maps}
use Rattle.int_slots.specs.Kinds.{insert_of, remove_entry_of}
use Rattle.kinds.specs.Calls.{make_of, remove_of, capacity_of, len_of, is_empty_of, reserve_of, get_of, contains_of, copy_of, union_of, set_of, entry_of, or_insert_of, insert_entry_of, held_of, taken_of, vacant_insert_of}
use Rattle.int_slots.specs.Steps.{step_of}
use Rattle.int_map_entry.specs.declared.Entered.{Entered}
use Rattle.int_map_entry.specs.Calls.{handle_of}
pub use Rattle.promises.specs.MapAlphabet.{make, clear, capacity, len, is_empty, reserve, copy, union_prefer_right, get, contains_key, remove, entry, insert, occupied_get, occupied_remove, occupied_remove_entry, step, occupied_set, vacant_insert, or_insert, insert_entry}
use Rattle.promises.specs.MapAlphabet.{MapCall, map_one}

-- A map's calls, over this kind's keys, what its reserve is asked for, and its entry answers.
abbrev pub Call : Type 0
Call = MapCall ℕ ℕ Entered

-- What a call on the table x tells and leaves: the definition that its contract cites.
unfoldable pub told_by : World maps → ℕ → Call → ToldAndLeft (IntMemory values)
told_by w x make = make_of maps (w x)
told_by w x clear = make_of maps (w x)
told_by w x capacity = told (capacity_of maps (w x)) (w x)
told_by w x len = told (len_of maps (w x)) (w x)
told_by w x is_empty = told (is_empty_of maps (w x)) (w x)
told_by w x (reserve n) = told (reserve_of maps (w x) n 0) (w x)
told_by w x (get k) = told (get_of maps (w x) k) (w x)
told_by w x (contains_key k) = told (contains_of maps (w x) k) (w x)
told_by w x (remove k) = remove_of maps (w x) k
told_by w x (entry k) = told (entry_of maps (w x) k) (w x)
told_by w x (copy y) = copy_of maps (w x) (w y)
told_by w x (union_prefer_right y) = union_of maps (w x) (w y)
told_by w x (insert k v) = insert_of (w x) k v
told_by w x (occupied_get s k) = told (held_of maps (w x) s k) (w x)
told_by w x (occupied_remove s k) = taken_of maps (w x) s k
told_by w x (occupied_remove_entry s k) = remove_entry_of (w x) s k
told_by w x (step at budget) = told (step_of (w x) at budget) (w x)
told_by w x (occupied_set s k v) = set_of maps (w x) s k v
told_by w x (vacant_insert s k v) = vacant_insert_of maps (w x) s k v
told_by w x (or_insert e k v) = or_insert_of maps (w x) (handle_of (length (w x).marks) e) k v
told_by w x (insert_entry e k v) = insert_entry_of maps (w x) (handle_of (length (w x).marks) e) k v

-- What reserve is asked for: so many keys; they have no bytes.
abbrev pub asked : ℕ → ℕ × ℕ
asked n = (n, 0)

-- The one call of the theory that it is.
unfoldable pub one : World maps → ℕ → Call → model.Call ℕ ℕ
one w x c = map_one asked (handle_of (length (w x).marks)) c

-- The step of a lent walk: what it tells, and the walk that it leaves in its place.
unfoldable pub lent_by : World maps → ℕ → ℕ → ℕ → ToldAndLeft ℕ
lent_by w x at budget = moved_on (step_of (w x) at budget)

-- What a step's numbers say: the pair's key and value are told.
abbrev pub heard : IntMemory values → Numbers → Or (StepAnswer ℕ ℕ)
heard m n = heard_as (λ n. n.key) (λ n. n.value) n

-- The calls of which each is one call of the theory: all of them.
abbrev pub simple : Simple maps
simple = record { Call = Call; told_by = told_by; one = one; step = step; lent_by = lent_by; heard = heard }

-- The integer map's published calls.
abbrev pub published : Published maps
published = simply simple

-- Its insert and its contains, by which reserve's promise speaks.
abbrev pub key_calls : KeyCalls maps published
key_calls = record { insert = insert; contains = contains_key }

-- A pair that a step hands out, its slot behind the walk: its key and its value.
abbrev pub pair_told : ℕ → ℕ → ℕ → ℕ → ℕ → Numbers
pair_told k v slot walk e = handing k v 0 0 walk e

-- The numbers n that a call on the table x tells, where its map is f.
abbrev pub Owes : Book maps → ℕ → Finite ℕ ℕ → Call → Numbers → Type 0
Owes s x f make n = n ≡ only DONE
Owes s x f clear n = n ≡ only DONE
Owes s x f capacity n = n ≡ counting COUNT (maps.size (s.world x))
Owes s x f len n = n ≡ counting COUNT (Finite.len f)
Owes s x f is_empty n = n ≡ cond (eqb (Finite.len f) 0) (only EMPTY) (only HOLDS)
Owes s x f (reserve a) n = n ≡ reserving maps (s.world x) f a 0 (only ROOM)
Owes s x f (get k) n = n ≡ looking maps (s.world x) f k (λ v i e. looking_up FOUND v i e) (λ e. looking_up ABSENT 0 0 e)
Owes s x f (contains_key k) n = n ≡ looking maps (s.world x) f k (λ v i e. looking_up PRESENT 0 0 e) (λ e. looking_up ABSENT 0 0 e)
Owes s x f (remove k) n = n ≡ looking maps (s.world x) f k (λ v i e. looking_up REMOVED v i e) (λ e. looking_up ABSENT 0 0 e)
Owes s x f (entry k) n = n ≡ placing maps (s.world x) f k (λ v i e. looking_up OCCUPIED v i e) (λ i e. looking_up VACANT 0 i e)
Owes s x f (copy y) n = n ≡ copying maps (s.world x) (s.world y) (only DONE)
Owes s x f (union_prefer_right y) n = (n ≡ joining maps (s.world x) f (s.world y) (only DONE)) × ((g : Finite ℕ ℕ) → s.maps y ≡ some g → n ≡ admitting maps (s.world x) (Finite.union_prefer_right f g).dom (only DONE))
Owes s x f (insert k v) n = n ≡ placing maps (s.world x) f k (λ u i e. looking_up REPLACED u i e) (λ i e. looking_up FRESH 0 i e)
Owes s x f (occupied_get i k) n = n ≡ holding maps (s.world x) f i k (λ v. handling VALUE 0 v i)
Owes s x f (occupied_remove i k) n = n ≡ holding maps (s.world x) f i k (λ v. handling REMOVED 0 v 0)
Owes s x f (occupied_remove_entry i k) n = n ≡ holding maps (s.world x) f i k (λ v. handling REMOVED k v 0)
Owes s x f (step a b) n = OwesStep maps (s.world x) f pair_told a b n
Owes s x f (occupied_set i k v) n = n ≡ holding maps (s.world x) f i k (λ u. handling WAS 0 u i)
Owes s x f (vacant_insert i k v) n = n ≡ opening maps (s.world x) f i k (handling NOW 0 v i)
Owes s x f (or_insert h k v) n = n ≡ keeping maps (s.world x) f (handle_of (length (s.world x).marks) h) k v
Owes s x f (insert_entry h k v) n = n ≡ replacing maps (s.world x) f (handle_of (length (s.world x).marks) h) k v

-- What a call owes where the map of its table is known.
abbrev pub owed : Duty maps published
owed s x f c t = Owes s x f c t.numbers
