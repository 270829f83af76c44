-- Demand 3: a walk of a table, stepped with any calls in between, over any machine whose states know the table's finite map.
use Rattle.std.specs.Prelude.{ℕ, ◌+◌, ◌≤◌, ◌<◌, Bool, true, false, cond, not, ◌&&◌, List, [], ◌∷◌, ◌++◌, ◌≡◌}
use Rattle.std.proofs.Math.Option.{Option, none, some}
use Rattle.model.specs.Slots.{Table, Keys, damaged, live, count, look}
use Rattle.model.specs.Finite.{Finite, is_some, len}
use Rattle.model.specs.Calls.{Or, no, ok}
use Rattle.model.specs.Walk.{StepAnswer, pair, nothing, done, step, moved_by}

-- What a machine of one walked table is.
pub record Machine (K W : Type 0) : Type 1 where
  pub State : Type 0
  -- calls, on this table or another, and steps of the walk, in any form, each with its budget
  pub Call : Type 0
  pub Step : Type 0
  pub budget : Step → ℕ
  -- what a walk carries from its start
  pub Ticket : Type 0
  pub keys : Keys K
  -- S, the number of slots
  pub size : ℕ
  -- the table's finite map, where it is known
  pub map : State → Option (Finite K W)
  -- the state after a call; whether the call counts as removing the key on its way
  pub after : State → Call → State
  pub drops : State → Call → K → Bool
  -- what a walk that starts now carries, and the refusal of its steps for that (0: none)
  pub ticket : State → Ticket
  pub bar : State → Ticket → ℕ
  -- what a step answers, of a walk with this ticket that stands there
  pub answers : State → Ticket → ℕ → Step → Or (StepAnswer K W)

-- What happens between a walk's start and its end: steps of the walk, and calls.
pub data Event (S C : Type 0) : Type 0 where
  steps : S → Event S C
  calls : C → Event S C

-- Whether a step handed out the key.
unfoldable pub hands_out : {K W : Type 0} → Keys K → K → Or (StepAnswer K W) → ℕ
hands_out E k (no n) = 0
hands_out E k (ok (pair a v x n)) = cond (E.same k a) 1 0
hands_out E k (ok (nothing x n)) = 0
hands_out E k (ok (done x)) = 0

-- Whether a step was not refused.
unfoldable pub unrefused : {K W : Type 0} → Or (StepAnswer K W) → ℕ
unrefused (no n) = 0
unrefused (ok a) = 1

-- The pair that a step handed out.
unfoldable pub pair_from : {K W : Type 0} → Or (StepAnswer K W) → List (K × W)
pair_from (no n) = []
pair_from (ok (pair a v x n)) = (a, v) ∷ []
pair_from (ok (nothing x n)) = []
pair_from (ok (done x)) = []

-- What a known map says of a key; none where the map is not known.
unfoldable pub look_in : {K W : Type 0} → Option (Finite K W) → K → Option W
look_in none k = none
look_in (some f) k = f.look k

module _ {K W : Type 0} (M : Machine K W) where
  -- The runs of a machine.
  abbrev pub Run : Type 0
  Run = List (Event M.Step M.Call)

  -- A key is in the table's map.
  unfoldable pub has : M.State → K → Bool
  has x k = is_some (look_in (M.map x) k)

  -- The state after a run.
  unfoldable pub state_after : M.State → Run → M.State
  state_after x [] = x
  state_after x (steps b ∷ es) = state_after x es
  state_after x (calls c ∷ es) = state_after (M.after x c) es

  -- Where the walk stands after a run.
  unfoldable pub walk_after : M.State → M.Ticket → ℕ → Run → ℕ
  walk_after x q w [] = w
  walk_after x q w (steps b ∷ es) = walk_after x q (moved_by w (M.answers x q w b)) es
  walk_after x q w (calls c ∷ es) = walk_after (M.after x c) q w es

  -- How many steps of a run were not refused.
  unfoldable pub good : M.State → M.Ticket → ℕ → Run → ℕ
  good x q w [] = 0
  good x q w (steps b ∷ es) = unrefused (M.answers x q w b) + good x q (moved_by w (M.answers x q w b)) es
  good x q w (calls c ∷ es) = good (M.after x c) q w es

  -- How often a run handed out the key.
  unfoldable pub times : K → M.State → M.Ticket → ℕ → Run → ℕ
  times k x q w [] = 0
  times k x q w (steps b ∷ es) = hands_out M.keys k (M.answers x q w b) + times k x q (moved_by w (M.answers x q w b)) es
  times k x q w (calls c ∷ es) = times k (M.after x c) q w es

  -- The pairs that a run handed out, in their order.
  unfoldable pub handed : M.State → M.Ticket → ℕ → Run → List (K × W)
  handed x q w [] = []
  handed x q w (steps b ∷ es) = pair_from (M.answers x q w b) ++ handed x q (moved_by w (M.answers x q w b)) es
  handed x q w (calls c ∷ es) = handed (M.after x c) q w es

  -- The key is in the map before, between and after all events of the run, and no call counts as removing it on its way.
  unfoldable pub stays : K → M.State → Run → Bool
  stays k x [] = has x k
  stays k x (steps b ∷ es) = has x k && stays k x es
  stays k x (calls c ∷ es) = has x k && (not (M.drops x c k) && stays k (M.after x c) es)

  -- The table's map is known after each call of the run.
  unfoldable pub lasts : M.State → Run → Bool
  lasts x [] = true
  lasts x (steps b ∷ es) = lasts x es
  lasts x (calls c ∷ es) = is_some (M.map (M.after x c)) && lasts (M.after x c) es

  -- The promises of a fresh walk that starts in state x, for every run along which the table's map stays known.
  pub record Walked (x : M.State) : Type 0 where
    -- it stands at S within as many unrefused steps as there are slots
    pub ending : (es : Run) → lasts x es ≡ true → M.size ≤ good x (M.ticket x) 0 es → walk_after x (M.ticket x) 0 es ≡ M.size
    -- a step with a budget is refused for nothing but the ticket
    pub going : (es : Run) (b : M.Step) → lasts x es ≡ true → 0 < M.budget b → M.bar (state_after x es) (M.ticket x) ≡ 0 → unrefused (M.answers (state_after x es) (M.ticket x) (walk_after x (M.ticket x) 0 es) b) ≡ 1
    -- a key that stays until the walk has ended is handed out exactly once
    pub staying : (k : K) (es : Run) → lasts x es ≡ true → stays k x es ≡ true → walk_after x (M.ticket x) 0 es ≡ M.size → times k x (M.ticket x) 0 es ≡ 1
    -- a step hands out no absent key, and each key with its value at that step
    pub present : (es : Run) (b : M.Step) (k : K) (v : W) (y n : ℕ) → lasts x es ≡ true → M.answers (state_after x es) (M.ticket x) (walk_after x (M.ticket x) 0 es) b ≡ ok (pair k v y n) → look_in (M.map (state_after x es)) k ≡ some v
    -- a key handed out twice, with the events fs in between, was removed in between
    pub apart : (es fs : Run) (b c : M.Step) (k : K) (v u : W) (y n z i : ℕ) → lasts x es ≡ true → lasts (state_after x es) fs ≡ true → M.answers (state_after x es) (M.ticket x) (walk_after x (M.ticket x) 0 es) b ≡ ok (pair k v y n) → M.answers (state_after (state_after x es) fs) (M.ticket x) (walk_after (state_after x es) (M.ticket x) y fs) c ≡ ok (pair k u z i) → stays k (state_after x es) fs ≡ false

-- What a machine owes: in fine states slots stand behind the map; none is damaged and each live key stands once; a call after which the map is known keeps states fine, and moves no key that is still there and that it did not remove on its way; a step answers by its slots.
pub record LawfulMachine {K W : Type 0} (M : Machine K W) : Type 1 where
  pub SoundState : M.State → Type 0
  pub table : M.State → Table K W
  pub shows : (x : M.State) → SoundState x → (k : K) → look M.keys (table x) M.size k ≡ look_in (M.map x) k
  pub counts : (x : M.State) → SoundState x → (f : Finite K W) → M.map x ≡ some f → count (table x) M.size ≡ len f
  pub whole : (x : M.State) → SoundState x → (i : ℕ) → i < M.size → table x i ≡ damaged → ⊥
  pub once : (x : M.State) → SoundState x → (i j : ℕ) (k : K) (v w : W) → i < M.size → j < M.size → table x i ≡ live k v → table x j ≡ live k w → i ≡ j
  pub after_sound : (x : M.State) (c : M.Call) → SoundState x → is_some (M.map (M.after x c)) ≡ true → SoundState (M.after x c)
  pub stands : (x : M.State) (c : M.Call) → SoundState x → is_some (M.map (M.after x c)) ≡ true → (i : ℕ) (k : K) (v w : W) → M.drops x c k ≡ false → i < M.size → table x i ≡ live k v → look_in (M.map (M.after x c)) k ≡ some w → table (M.after x c) i ≡ live k w
  pub paces : (x : M.State) → SoundState x → (q : M.Ticket) (w : ℕ) (b : M.Step) → M.answers x q w b ≡ step M.size (table x) (M.bar x q) w (M.budget b)
