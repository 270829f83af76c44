-- What the union of byte maps needs of its left, slot by slot of its right, and its tests of two tables of right sizes.
use Rattle.std.specs.Prelude.{ℕ, ◌-◌, cond, not, List, leb, length}
use Rattle.model.specs.Slots.{weigh, total, count}
use Rattle.model.specs.Calls.{Or, no, ok, need, give, union}
use Rattle.answers.specs.Refusals.{number_of}
use Rattle.kinds.specs.Columns.{values}
use Rattle.kinds.specs.Probing.{missed_of}
use Rattle.byte_slots.specs.Memory.{Spans, ByteMemory, bare, used_of, full_damage}
use Rattle.byte_slots.specs.Kinds.{maps}
use Rattle.byte_slots.specs.Probing.{path_of}
use Rattle.byte_map_union.specs.declared.Needed.{Needed}
use Rattle.std.specs.Prelude.{Result, Ok, Err}
use Rattle.answers.specs.declared.Refusal.{Refusal}
use Rattle.kinds.specs.declared.Probed.{Probed}

-- What a key of length n needs, by how its path ended: nothing where it was found.
unfoldable pub needed_by : Result Probed Refusal → ℕ → Needed
needed_by p n = record { slots = cond (missed_of p) 1 0; bytes = cond (missed_of p) n 0 }

-- What a key weighs that the left lacks, 0 where it has it.
unfoldable pub lack_of : Spans → (List ℕ → ℕ) → List ℕ → ℕ
lack_of l g k = cond (missed_of (path_of l k)) (g k) 0

module _ (l r : Spans) where
  -- What the slot i of the right needs.
  unfoldable pub slot_needs : ℕ → Needed
  slot_needs i = record { slots = weigh (lack_of l (λ k. 1)) (bare r i); bytes = weigh (lack_of l length) (bare r i) }

  -- What the first n slots of the right need.
  unfoldable pub table_needs : ℕ → Needed
  table_needs n = record { slots = total (lack_of l (λ k. 1)) (bare r) n; bytes = total (lack_of l length) (bare r) n }

  -- The tests of two tables of right sizes: damage in either, the slots, the bytes; then the left's `used`.
  unfoldable pub room_of : Or ℕ
  room_of =
      need (not (full_damage l)) 5 (need (not (full_damage r)) 5
      (need (leb (table_needs (length r.marks)).slots (length l.marks - count (bare l) (length l.marks))) 7
      (need (leb (table_needs (length r.marks)).bytes (length l.arena - used_of l)) 8 (ok (used_of l)))))

-- What a plan says: the left's `used`, or a refusal's number.
unfoldable pub planned : Result ℕ Refusal → Or ℕ
planned (Ok u) = ok u
planned (Err x) = no (number_of x)

-- The union's tests: its answer, with the left's `used` where it is accepted.
unfoldable pub plan_of : ByteMemory values → ByteMemory values → Or ℕ
plan_of l r = give (used_of l.spans) (union maps l r)
