-- The lent lists after each change, as one record.
use Prim.Native.Nat.{ℕ, ◌+◌}
use mathlib.Core.List.{List}
use mathlib.Core.Path.{◌≡◌}
use lib.ListN.{length, get_or, set, replicate}
use Rattle.byte_slots.specs.Memory.{Spans, end_at, used_of, pasted, closed, fallen, filled, emptied, wiped, spans_of}

-- A key put into a slot.
pub filled_lists : (s : Spans) (i u : ℕ) (k lengths arena : List ℕ) → u ≡ used_of s → arena ≡ pasted s.arena u k → lengths ≡ set s.lengths i (length k) → spans_of (set s.marks i 1) (set s.offsets i u) lengths arena ≡ filled s i k
unfolding filled
filled_lists s i u k lengths arena e f g = rw (f, g, e)

-- A slot freed, with its span's offset o and length l.
pub emptied_lists : (s : Spans) (i u o l : ℕ) (offsets lengths arena : List ℕ) → u ≡ used_of s → o ≡ get_or s.offsets i 0 → l ≡ get_or s.lengths i 0 → arena ≡ closed s.arena o l u → offsets ≡ fallen (o + l) l s.marks s.offsets → lengths ≡ set s.lengths i 0 → spans_of (set s.marks i 2) (set offsets i 0) lengths arena ≡ emptied s i
unfolding emptied end_at
emptied_lists s i u o l offsets lengths arena e p q f g h = rw (f, g, h, e, p, q)

-- All wiped.
pub wiped_lists : (s : Spans) (marks offsets lengths arena : List ℕ) → marks ≡ replicate (length s.marks) 0 → offsets ≡ replicate (length s.offsets) 0 → lengths ≡ replicate (length s.lengths) 0 → arena ≡ replicate (length s.arena) 0 → spans_of marks offsets lengths arena ≡ wiped s
unfolding wiped
wiped_lists s marks offsets lengths arena e f g h = rw (e, f, g, h)
