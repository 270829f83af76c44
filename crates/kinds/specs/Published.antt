-- The published calls of a kind as one alphabet, what each tells and changes, the calls of the theory that it carries out, and what the demands say of what they tell.
use Rattle.std.specs.Prelude.{ℕ, Bool, false, cond, List, [], ◌∷◌, ◌≡◌, eqb}
use Rattle.std.proofs.Math.Option.{Option, none, some}
use Rattle.model.specs.Store.{Store, path_length}
use Rattle.model.specs.Finite.{Finite}
use Rattle.model.specs.Calls.{Or, no, ok}
use Rattle.model.specs.Walk.{StepAnswer, pair, nothing, done}
use Rattle.model.specs.Machine as model
use Rattle.model.specs.Machine.{World, answer, left, placed, stepping}
use Rattle.model.specs.Lawful.{Shows}
use Rattle.model.specs.Demand1
use Rattle.model.specs.Demand1.{Row, First, refusal}
use Rattle.model.specs.Demand2.{key_of, Book}
use Rattle.model.specs.Demand3.{Machine}
use Rattle.model.specs.Runs
use Rattle.model.specs.Runs.{run, Accepted, booked_all}
use Rattle.answers.specs.Cases.{PAIR, NOTHING}
use Rattle.answers.specs.declared.Numbers.{Numbers}
use Rattle.kinds.specs.Told.{ToldAndLeft, told}
use Rattle.kinds.specs.Owed.{refusing}

-- A kind's published calls, each on a table by its number.
pub record Published {K W : Type 0} (M : Store K W) : Type 1 where
  pub Call : Type 0
  -- what a call tells, and all tables after it
  pub tells : World M → ℕ → Call → Numbers
  pub after : World M → ℕ → Call → World M
  -- the calls of the theory that it carries out, in their order, each on a table by its number; none where it is refused with nothing stored
  pub meant : World M → ℕ → Call → List (ℕ × model.Call K W)
  -- its refusals, in its own order, and when each applies
  pub rows : World M → ℕ → Call → List Row
  -- whether it may have stored where it is refused
  pub amends : Call → Bool
  -- the key that a lookup asks for, and the walk that a step is given, 0 where a call is given none
  pub asked : World M → ℕ → Call → Option K
  pub given : World M → ℕ → Call → ℕ
  -- the step of a walk at a slot, with a budget
  pub step : ℕ → ℕ → Call
  -- the step of a lent walk: what it tells, and the walk that it leaves in its place
  pub lent_by : World M → ℕ → ℕ → ℕ → ToldAndLeft ℕ
  -- what a caller makes of a step's numbers, with the lent memory before its eyes
  pub heard : M.State → Numbers → Or (StepAnswer K W)

-- Calls of which each is one call of the theory, on its own table.
pub record Simple {K W : Type 0} (M : Store K W) : Type 1 where
  pub Call : Type 0
  -- what a call tells, and what it leaves of its table: the definition that its contract cites
  pub told_by : World M → ℕ → Call → ToldAndLeft M.State
  -- the one call of the theory that it is
  pub one : World M → ℕ → Call → model.Call K W
  -- a step of a walk, by value and lent, and how it is heard
  pub step : ℕ → ℕ → Call
  pub lent_by : World M → ℕ → ℕ → ℕ → ToldAndLeft ℕ
  pub heard : M.State → Numbers → Or (StepAnswer K W)

-- What the numbers of a step say: a refusal, a pair (case 14) by how its key and value are read, nothing (15) or done, with the walk moved on and the examined number.
unfoldable pub heard_as : {K W : Type 0} → (Numbers → K) → (Numbers → W) → Numbers → Or (StepAnswer K W)
heard_as key value n =
    cond (eqb n.refusal 0)
    (cond (eqb n.case PAIR) (ok (pair (key n) (value n) n.walk n.examined))
    (cond (eqb n.case NOTHING) (ok (nothing n.walk n.examined)) (ok (done n.walk))))
    (no n.refusal)

-- The key that a lookup asks for.
unfoldable pub asked_by : {K W : Type 0} (M : Store K W) → model.Call K W → Option K
asked_by M (model.own o) = key_of M o
asked_by M (model.copies y) = none
asked_by M (model.unions y) = none
asked_by M (model.steps a b) = none

-- The walk that a step is given, 0 where a call is given none.
unfoldable pub given_to : {K W : Type 0} → model.Call K W → ℕ
given_to (model.own o) = 0
given_to (model.copies y) = 0
given_to (model.unions y) = 0
given_to (model.steps a b) = a

-- A call that is one call of the theory carries that out where it tells no refusal, and nothing where it does.
unfoldable pub alone : {K W : Type 0} → ℕ → Numbers → model.Call K W → List (ℕ × model.Call K W)
alone x n c = cond (eqb n.refusal 0) ((x, c) ∷ []) []

-- Such calls as a kind's published calls: only the table called changes, and a refused call has stored nothing.
abbrev pub simply : {K W : Type 0} {M : Store K W} → Simple M → Published M
simply {M = M} P = record {
  Call = P.Call;
  tells = λ w x c. (P.told_by w x c).numbers;
  after = λ w x c. placed w x (P.told_by w x c).memory;
  meant = λ w x c. alone x (P.told_by w x c).numbers (P.one w x c);
  rows = λ w x c. Demand1.rows M w x (P.one w x c);
  amends = λ c. false;
  asked = λ w x c. asked_by M (P.one w x c);
  given = λ w x c. given_to (P.one w x c);
  step = P.step;
  lent_by = P.lent_by;
  heard = P.heard;
}

-- A step of a walk as it is called, with its budget: by value, or on a walk that is lent and moved on in its place.
pub data Step : Type 0 where
  by_value lent : ℕ → Step

unfoldable pub budget_of : Step → ℕ
budget_of (by_value b) = b
budget_of (lent b) = b

-- A lent step's numbers, with the walk that stands in the lent place after it.
unfoldable pub left_walk : ToldAndLeft ℕ → Numbers
left_walk t = record {
  refusal = t.numbers.refusal;
  case = t.numbers.case;
  key = t.numbers.key;
  value = t.numbers.value;
  slot = t.numbers.slot;
  examined = t.numbers.examined;
  walk = t.memory;
  offset = t.numbers.offset;
  length = t.numbers.length;
}

-- Each call tells the refusal, and leaves the memory, of the one call of the theory that it is; a step is heard as the theory's step, and a lent step tells the same and leaves the walk that it tells.
pub record SimplyLinked {K W : Type 0} (M : Store K W) (P : Simple M) : Type 0 where
  pub number : (w : World M) (x : ℕ) (c : P.Call) → (P.told_by w x c).numbers.refusal ≡ refusal (answer M w x (P.one w x c))
  pub memory : (w : World M) (x : ℕ) (c : P.Call) → (P.told_by w x c).memory ≡ left M w x (P.one w x c)
  pub hears : (w : World M) (x a b : ℕ) → P.heard (w x) (P.told_by w x (P.step a b)).numbers ≡ stepping M (w x) a b
  pub lends : (w : World M) (x a b : ℕ) → P.lent_by w x a b ≡ told (P.told_by w x (P.step a b)).numbers (P.told_by w x (P.step a b)).numbers.walk

module _ {K W : Type 0} (M : Store K W) (P : Published M) where
  -- A refused call tells its number, zeros elsewhere, and the walk as it came; a refused step of a lent walk leaves that walk in its place too.
  pub record ZerosElsewhere : Type 0 where
    pub calls : (w : World M) (x : ℕ) (c : P.Call) → ((P.tells w x c).refusal ≡ 0 → ⊥) → P.tells w x c ≡ refusing (P.tells w x c).refusal (P.given w x c)
    pub lent_steps : (w : World M) (x a b : ℕ) → ((P.lent_by w x a b).numbers.refusal ≡ 0 → ⊥) → P.lent_by w x a b ≡ told (refusing (P.lent_by w x a b).numbers.refusal a) a

  -- An accepted lookup tells its path's own examined number.
  abbrev pub PathCounted : Type 0
  PathCounted = (w : World M) (x : ℕ) (c : P.Call) (k : K) → P.asked w x c ≡ some k → (P.tells w x c).refusal ≡ 0 → (P.tells w x c).examined ≡ path_length M (w x) k

  -- What published calls owe: each tells the first of its own rows that applies; the calls of the theory that it carries out are accepted in their turn, and are what it changes; where it is refused it carries out none, unless it amends that; and steps are heard.
  pub record Linked : Type 1 where
    pub first : (w : World M) (x : ℕ) (c : P.Call) → First (P.rows w x c) (P.tells w x c).refusal
    pub accepted : (w : World M) (x : ℕ) (c : P.Call) → Accepted M w (P.meant w x c)
    pub memory : (w : World M) (x : ℕ) (c : P.Call) → P.after w x c ≡ run M w (P.meant w x c)
    pub still : (w : World M) (x : ℕ) (c : P.Call) → P.amends c ≡ false → ((P.tells w x c).refusal ≡ 0 → ⊥) → P.meant w x c ≡ []
    pub hears : (w : World M) (x a b : ℕ) → P.heard (w x) (P.tells w x (P.step a b)) ≡ stepping M (w x) a b
    pub lends : (w : World M) (x a b : ℕ) → P.lent_by w x a b ≡ told (P.tells w x (P.step a b)) (P.tells w x (P.step a b)).walk

  -- The tables, and what is known of their maps, after a published call: as after the calls of the theory that it carries out.
  abbrev pub noted : Book M → ℕ → P.Call → Book M
  noted s x c = record { world = P.after s.world x c; maps = (booked_all M s (P.meant s.world x c)).maps }

  -- And after a list of them, each on a table by its number.
  unfoldable pub noted_all : Book M → List (ℕ × P.Call) → Book M
  noted_all s [] = s
  noted_all s (c ∷ cs) = noted_all (noted s c.0 c.1) cs

  -- Any memory: of no table is the map known.
  abbrev pub unknown : World M → Book M
  unknown w = record { world = w; maps = λ y. none }

  -- The tables and what is known of their maps after a list of published calls, from any memory on.
  abbrev pub after_calls : List (ℕ × P.Call) → World M → Book M
  after_calls cs w = noted_all (unknown w) cs

  -- What is known of the tables is so: each is sound, and its live slots are the map.
  abbrev pub Right : Book M → Type 0
  Right s = (y : ℕ) (f : Finite K W) → s.maps y ≡ some f → Shows M (s.world y) f

  -- What a kind's calls owe: of a call on a table, by its number, whose map is f, what it tells and the tables after it.
  abbrev pub Duty : Type 1
  Duty = Book M → ℕ → Finite K W → P.Call → ToldAndLeft (World M) → Type 0

  -- What a call tells, and the tables after it.
  abbrev pub told_and_left : World M → ℕ → P.Call → ToldAndLeft (World M)
  told_and_left w x c = told (P.tells w x c) (P.after w x c)

  -- Demand 2, at each call of a list: what is known of the tables is so; where the map of the call's table is known, the call tells what it owes; and so on after it.
  pub data ToldInStep (D : Duty) : List (ℕ × P.Call) → Book M → Type 0 where
    told_end : {s : Book M} → Right s → ToldInStep D [] s
    told_call : {s : Book M} {x : ℕ} {c : P.Call} {cs : List (ℕ × P.Call)} → Right s → ((f : Finite K W) → s.maps x ≡ some f → D s x f c (told_and_left s.world x c)) → ToldInStep D cs (noted s x c) → ToldInStep D ((x, c) ∷ cs) s

  -- What a step of the walk of the table x tells, where the walk stands at a.
  unfoldable pub step_told : World M → ℕ → ℕ → Step → Numbers
  step_told w x a (by_value b) = P.tells w x (P.step a b)
  step_told w x a (lent b) = left_walk (P.lent_by w x a b)

  -- The walk of the table x, of S slots, by its published steps, each given the walk last told, and heard by what it tells; any published call may stand in between, on any table.
  abbrev pub walks : ℕ → ℕ → Machine K W
  walks x S = record {
    State = Book M;
    Call = ℕ × P.Call;
    Step = Step;
    budget = budget_of;
    Ticket = Unit {0};
    keys = M.keys;
    size = S;
    map = λ s. s.maps x;
    after = λ s c. noted s c.0 c.1;
    drops = λ s c k. Runs.drops M x s (P.meant s.world c.0 c.1) k;
    ticket = λ s. tt;
    bar = λ s q. 0;
    answers = λ s q a b. P.heard (s.world x) (step_told s.world x a b);
  }

  -- The walk of the table x that starts after a list of published calls.
  abbrev pub walk_of : List (ℕ × P.Call) → World M → ℕ → Machine K W
  walk_of cs w x = walks x (M.size ((after_calls cs w).world x))
