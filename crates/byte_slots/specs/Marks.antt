-- The marks of a byte table as calls see them.
use Rattle.std.specs.Prelude.{ℕ, zero, suc, Bool, cond, leb, length, get_or}
use Rattle.byte_slots.specs.Memory.{Spans, end_at}

-- A live span past the arena is damage, and shown as mark 3.
unfoldable pub shown : Bool → ℕ → ℕ
shown inside zero = 0
shown inside (suc zero) = cond inside 1 3
shown inside (suc (suc m)) = suc (suc m)

-- The mark of a slot, as calls see it.
unfoldable pub mark_of : Spans → ℕ → ℕ
mark_of s i = shown (leb (end_at s i) (length s.arena)) (get_or s.marks i 0)
