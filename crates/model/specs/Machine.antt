-- The calls of the theory as one alphabet: what each answers and leaves, over tables by their numbers.
use Rattle.std.specs.Prelude.{ℕ, Bool, cond, eqb}
use Rattle.model.specs.Store.{Store}
use Rattle.model.specs.Calls.{Or, no, ok, need, Seen, Spot, Handle, get, entry, after_insert, put_spot, after_put, remove, after_remove, capacity, after_make, length, reserve, copy, after_copy, union, after_union, occupied_get, after_set, occupied_remove, after_drop, vacant_insert, after_fill, or_insert, after_or_insert, insert_entry, after_insert_entry}
use Rattle.model.specs.Walk.{StepAnswer, step}

-- The calls on one table, but walk steps: one constructor for each published call of the base, and the put, of which later calls are made.
pub data Own (K W : Type 0) : Type 0 where
  makes clears capacities lens empties : Own K W
  reserves : ℕ → ℕ → Own K W
  gets contains_keys removes entries : K → Own K W
  inserts puts : K → W → Own K W
  occupied_gets occupied_removes : ℕ → K → Own K W
  occupied_sets vacant_inserts : ℕ → K → W → Own K W
  or_inserts insert_entries : Handle → K → W → Own K W

-- All calls: those, copy from and union with another table by its number, and a step of a walk at a slot with a budget.
pub data Call (K W : Type 0) : Type 0 where
  own : Own K W → Call K W
  copies unions : ℕ → Call K W
  steps : ℕ → ℕ → Call K W

-- What a call answers.
pub data Answer (K W : Type 0) : Type 0 where
  refused : ℕ → Answer K W
  fine : Answer K W
  number : ℕ → Answer K W
  truth : Bool → Answer K W
  seen : Seen W → Answer K W
  spot : Spot W → Answer K W
  value : W → Answer K W
  stepped : StepAnswer K W → Answer K W

-- An answer of any call, by what it says where nothing is refused.
unfoldable pub report : {A K W : Type 0} → (A → Answer K W) → Or A → Answer K W
report f (no n) = refused n
report f (ok a) = f a

-- Tables by their numbers.
abbrev pub World : {K W : Type 0} → Store K W → Type 0
World M = ℕ → M.State

-- The world with m at x.
unfoldable pub placed : {A : Type 0} → (ℕ → A) → ℕ → A → ℕ → A
placed w x m y = cond (eqb y x) m (w y)

module _ {K W : Type 0} (M : Store K W) where
  -- The answer of a call on one table.
  unfoldable pub tells : M.State → Own K W → Answer K W
  tells m makes = report (λ n. fine) (capacity M m)
  tells m clears = report (λ n. fine) (capacity M m)
  tells m capacities = report number (capacity M m)
  tells m lens = report number (length M m)
  tells m empties = report (λ n. truth (eqb n 0)) (length M m)
  tells m (reserves n b) = report (λ u. fine) (reserve M m n b)
  tells m (gets k) = report seen (get M m k)
  tells m (contains_keys k) = report seen (get M m k)
  tells m (removes k) = report seen (remove M m k)
  tells m (entries k) = report spot (entry M m k)
  tells m (inserts k v) = report spot (entry M m k)
  tells m (puts k v) = report spot (put_spot M m k)
  tells m (occupied_gets s k) = report value (occupied_get M m s k)
  tells m (occupied_removes s k) = report value (occupied_remove M m s k)
  tells m (occupied_sets s k v) = report value (occupied_get M m s k)
  tells m (vacant_inserts s k v) = report value (vacant_insert M m s k v)
  tells m (or_inserts h k v) = report value (or_insert M m h k v)
  tells m (insert_entries h k v) = report value (insert_entry M m h k v)

  -- The memory after a call on one table.
  unfoldable pub leaves : M.State → Own K W → M.State
  leaves m makes = after_make M m
  leaves m clears = after_make M m
  leaves m capacities = m
  leaves m lens = m
  leaves m empties = m
  leaves m (reserves n b) = m
  leaves m (gets k) = m
  leaves m (contains_keys k) = m
  leaves m (removes k) = after_remove M m k
  leaves m (entries k) = m
  leaves m (inserts k v) = after_insert M m k v
  leaves m (puts k v) = after_put M m k v
  leaves m (occupied_gets s k) = m
  leaves m (occupied_removes s k) = after_drop M m s k
  leaves m (occupied_sets s k v) = after_set M m s k v
  leaves m (vacant_inserts s k v) = after_fill M m s k v
  leaves m (or_inserts h k v) = after_or_insert M m h k v
  leaves m (insert_entries h k v) = after_insert_entry M m h k v

  -- A step of a walk.
  unfoldable pub stepping : M.State → ℕ → ℕ → Or (StepAnswer K W)
  stepping m a b = need (M.sized m) 1 (step (M.size m) (M.slots m) 0 a b)

  -- The answer of a call on the table x.
  unfoldable pub answer : World M → ℕ → Call K W → Answer K W
  answer w x (own c) = tells (w x) c
  answer w x (copies y) = report (λ u. fine) (copy M (w x) (w y))
  answer w x (unions y) = report (λ u. fine) (union M (w x) (w y))
  answer w x (steps a b) = report stepped (stepping (w x) a b)

  -- The memory of the table x after a call on it.
  unfoldable pub left : World M → ℕ → Call K W → M.State
  left w x (own c) = leaves (w x) c
  left w x (copies y) = after_copy M (w x) (w y)
  left w x (unions y) = after_union M (w x) (w y)
  left w x (steps a b) = w x

  -- The world after a call: only the table called changes.
  unfoldable pub turned : World M → ℕ → Call K W → World M
  turned w x c = placed w x (left w x c)
