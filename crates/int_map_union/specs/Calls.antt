-- The tests that the union of integer maps makes one after the other: the theory's definitions, at this store.
use Rattle.std.specs.Prelude.{ℕ, cond}
use Rattle.model.specs.Slots.{weigh, total}
use Rattle.model.specs.Calls.{lacking, union}
use Rattle.answers.specs.declared.Numbers.{Numbers}
use Rattle.answers.specs.Said.{done_said}
use Rattle.kinds.specs.Columns.{values}
use Rattle.kinds.specs.Marks.{cell}
use Rattle.int_slots.specs.Memory.{IntMemory}
use Rattle.int_slots.specs.Maps.{maps}

-- Its tests alone.
unfoldable pub plan_of : IntMemory values → IntMemory values → Numbers
plan_of l r = done_said (union maps l r)

-- What a slot of the right with this mark and key needs: a slot where it is live and the left lacks its key.
unfoldable pub slot_needs : IntMemory values → ℕ → ℕ → ℕ
slot_needs l mark key = weigh (λ k. cond (lacking maps l k) 1 0) (cell mark key (tt {0}))

-- What the first n slots of the right need.
unfoldable pub table_needs : IntMemory values → IntMemory values → ℕ → ℕ
table_needs l r n = total (λ k. cond (lacking maps l k) 1 0) (maps.slots r) n
