-- The published calls of the byte set: what each tells and leaves, and the one call of the theory that it is.
use Rattle.std.specs.Prelude.{ℕ, ◌-◌, cond, ◌≡◌, List, eqb, length}
use Rattle.model.specs.Slots.{live}
use Rattle.model.specs.Machine as model
use Rattle.model.specs.Machine.{World}
use Rattle.model.specs.Finite.{Finite, mass}
use Rattle.model.specs.Finite
use Rattle.model.specs.Calls.{Or}
use Rattle.model.specs.Walk.{StepAnswer}
use Rattle.model.specs.Demand2.{Book}
use Rattle.answers.specs.Cases.{DONE, COUNT, EMPTY, HOLDS, ROOM, FOUND, PRESENT, ABSENT, FRESH, REPLACED, REMOVED, PAIR}
use Rattle.answers.specs.declared.Numbers.{Numbers}
use Rattle.kinds.specs.Columns.{nothing}
use Rattle.kinds.specs.Told.{ToldAndLeft, told}
use Rattle.kinds.specs.Calls.{make_of, capacity_of, len_of, is_empty_of, reserve_of, contains_of, copy_of, dropped_of}
use Rattle.kinds.specs.Published.{Published, Simple, simply, Duty, heard_as}
use Rattle.kinds.specs.Owed.{only, counting, looking_up, copying, looking, placing, reserving, OwesStep, spanning, handing}
use Rattle.kinds.specs.Reserving.{KeyCalls}
use Rattle.kinds.specs.Moved.{moved_on}
use Rattle.byte_slots.specs.Memory.{ByteMemory, part, offset_of, length_of}
use Rattle.byte_slots.specs.Kinds.{sets, set_insert_of, set_get_of, set_step_of}
pub use Rattle.promises.specs.SetAlphabet.{make, clear, capacity, len, is_empty, reserve, copy, get, contains, insert, remove, step}
use Rattle.promises.specs.SetAlphabet.{SetCall, set_one}

-- A set's calls, over this kind's keys and what its reserve is asked for.
abbrev pub Call : Type 0
Call = SetCall (List ℕ) (ℕ × ℕ)

-- What a call on the table x tells and leaves: the definition that its contract cites.
unfoldable pub told_by : World sets → ℕ → Call → ToldAndLeft (ByteMemory nothing)
told_by w x make = make_of sets (w x)
told_by w x clear = make_of sets (w x)
told_by w x capacity = told (capacity_of sets (w x)) (w x)
told_by w x len = told (len_of sets (w x)) (w x)
told_by w x is_empty = told (is_empty_of sets (w x)) (w x)
told_by w x (reserve (n, b)) = told (reserve_of sets (w x) n b) (w x)
told_by w x (copy y) = copy_of sets (w x) (w y)
told_by w x (get k) = told (set_get_of (w x) k) (w x)
told_by w x (contains k) = told (contains_of sets (w x) k) (w x)
told_by w x (insert k) = set_insert_of (w x) k
told_by w x (remove k) = dropped_of sets (w x) k
told_by w x (step at budget) = told (set_step_of (w x) at budget) (w x)

-- What reserve is asked for: so many keys, of so many bytes in all.
abbrev pub asked : ℕ × ℕ → ℕ × ℕ
asked r = r

-- The one call of the theory that it is.
unfoldable pub one : World sets → ℕ → Call → model.Call (List ℕ) (Unit {0})
one w x c = set_one asked c

-- The step of a lent walk: what it tells, and the walk that it leaves in its place.
unfoldable pub lent_by : World sets → ℕ → ℕ → ℕ → ToldAndLeft ℕ
lent_by w x at budget = moved_on (set_step_of (w x) at budget)

-- What a step's numbers say: the pair's key is the told part of the arena.
abbrev pub heard : ByteMemory nothing → Numbers → Or (StepAnswer (List ℕ) (Unit {0}))
heard m n = heard_as (λ n. part m.spans.arena n.offset n.length) (λ n. tt) n

-- The calls of which each is one call of the theory: all of them.
abbrev pub simple : Simple sets
simple = record { Call = Call; told_by = told_by; one = one; step = step; lent_by = lent_by; heard = heard }

-- The byte set's published calls.
abbrev pub published : Published sets
published = simply simple

-- Its insert and its contains, by which reserve's promise speaks.
abbrev pub key_calls : KeyCalls sets published
key_calls = record { insert = λ k v. insert k; contains = contains }

-- A key that a step hands out, by its slot's part of the arena.
abbrev pub key_told : ByteMemory nothing → List ℕ → Unit {0} → ℕ → ℕ → ℕ → Numbers
key_told m k v slot walk e = handing 0 0 (offset_of m.spans slot) (length_of m.spans slot) walk e

-- The numbers n that a call on the table x tells, where its set is f.
abbrev pub Owes : Book sets → ℕ → Finite (List ℕ) (Unit {0}) → Call → Numbers → Type 0
Owes s x f make n = n ≡ only DONE
Owes s x f clear n = n ≡ only DONE
Owes s x f capacity n = n ≡ counting COUNT (sets.size (s.world x))
Owes s x f len n = n ≡ counting COUNT (Finite.len f)
Owes s x f is_empty n = n ≡ cond (eqb (Finite.len f) 0) (only EMPTY) (only HOLDS)
Owes s x f (reserve (a, b)) n = n ≡ reserving sets (s.world x) f a b (only ROOM)
Owes s x f (copy y) n = n ≡ copying sets (s.world x) (s.world y) (only DONE)
Owes s x f (get k) n = n ≡ looking sets (s.world x) f k (λ v i e. spanning FOUND i e (offset_of (s.world x).spans i) (length_of (s.world x).spans i)) (λ e. looking_up ABSENT 0 0 e)
Owes s x f (contains k) n = n ≡ looking sets (s.world x) f k (λ v i e. looking_up PRESENT 0 0 e) (λ e. looking_up ABSENT 0 0 e)
Owes s x f (insert k) n = n ≡ placing sets (s.world x) f k (λ u i e. looking_up REPLACED 0 i e) (λ i e. spanning FRESH i e (mass length f.dom) 0)
Owes s x f (remove k) n = n ≡ looking sets (s.world x) f k (λ v i e. looking_up REMOVED 0 i e) (λ e. looking_up ABSENT 0 0 e)
Owes s x f (step a b) n = OwesStep sets (s.world x) f (key_told (s.world x)) a b n

-- Where a call tells where a key stands, that part of the arena after the call is the key: of a step, the key of the slot behind the walk. A fresh key has the length that the caller gave.
abbrev pub Stands : World sets → ℕ → Call → ToldAndLeft (ByteMemory nothing) → Type 0
Stands w x c t =
    ((k : List ℕ) → c ≡ get k → t.numbers.case ≡ FOUND → part t.memory.spans.arena t.numbers.offset t.numbers.length ≡ k)
    × ((k : List ℕ) → c ≡ insert k → t.numbers.case ≡ FRESH → part t.memory.spans.arena t.numbers.offset (length k) ≡ k)
    × ((a b : ℕ) → c ≡ step a b → t.numbers.case ≡ PAIR → sets.slots (w x) (t.numbers.walk - 1) ≡ live (part t.memory.spans.arena t.numbers.offset t.numbers.length) tt)

-- What a call owes where the set of its table is known.
abbrev pub owed : Duty sets published
owed s x f c t = Owes s x f c t.numbers × Stands s.world x c (told t.numbers (t.memory x))
