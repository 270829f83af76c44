-- Marks, offsets, lengths and an arena that are copied whole are the other table's.
use Prim.Native.Nat.{ℕ}
use mathlib.Core.Bool.{true}
use mathlib.Core.List.{List}
use mathlib.Core.Path.{◌≡◌, sym, ◌∙◌}
use lib.ListN.{length}
use Rattle.arrays.specs.Whole.{copied}
use Rattle.arrays.proofs.Below.{copied_whole}
use Rattle.byte_slots.specs.Memory.{Spans, spans_of, fitting}
use Rattle.byte_slots.proofs.Sizes.{fitting_says}

pub spans_copied : (s t : Spans) → fitting s ≡ true → fitting t ≡ true → length s.marks ≡ length t.marks → length s.arena ≡ length t.arena → {x y z w : List ℕ} → x ≡ copied s.marks t.marks → y ≡ copied s.offsets t.offsets → z ≡ copied s.lengths t.lengths → w ≡ copied s.arena t.arena → spans_of x y z w ≡ t
spans_copied s t f g e a x y z w =
    let m = fitting_says s f in
    let n = fitting_says t g in
    rw (copied_whole s.marks t.marks e x, copied_whole s.offsets t.offsets (m.offsets ∙ e ∙ sym n.offsets) y, copied_whole s.lengths t.lengths (m.lengths ∙ e ∙ sym n.lengths) z, copied_whole s.arena t.arena a w)
