-- The test of a byte map's sizes, and what right sizes say.
use Rattle.std.proofs.Common.{Bool, true, false, ◌≡◌, refl, sym, ◌∙◌, eqb-true, ne_eqb, eqb, length}
use Rattle.model.proofs.Cases.{both}
use Rattle.kinds.specs.Calls.{sized_of}
use Rattle.kinds.specs.Columns.{values}
use Rattle.byte_slots.specs.Memory.{ByteMemory, fitting}
use Rattle.byte_slots.specs.Kinds.{maps}
use Rattle.byte_slots.proofs.Bridge.{sized_short}
use Rattle.byte_slots.proofs.Sizes.{fitting_says}

module _ (m : ByteMemory values) where
  -- other many values than marks: wrong sizes
  pub map_short : (length m.spans.marks ≡ length m.words → ⊥) → maps.sized m ≡ false
  map_short h = sized_short values m (ne_eqb (length m.spans.marks) (length m.words) h)

  module _ {b : Bool} (p : b ≡ sized_of maps m) (q : b ≡ true) where
    -- right sizes: the keys' part fits
    pub sized_fits : fitting m.spans ≡ true
    unfolding sized_of
    sized_fits = (both (fitting m.spans) (eqb (length m.spans.marks) (length m.words)) (sym p ∙ q)).0

    -- right sizes: as many offsets, lengths and values as marks
    pub same_long : (length m.spans.offsets ≡ length m.spans.marks) × (length m.spans.lengths ≡ length m.spans.marks) × (length m.words ≡ length m.spans.marks)
    unfolding sized_of
    same_long =
        let (f, l) = both (fitting m.spans) (eqb (length m.spans.marks) (length m.words)) (sym p ∙ q) in
        let z = fitting_says m.spans f in
        (z.offsets, z.lengths, sym (eqb-true (length m.spans.marks) (length m.words) l))

-- a map of right sizes has as many values as marks
pub map_long : (m : ByteMemory values) → maps.sized m ≡ true → length m.words ≡ length m.spans.marks
unfolding sized_of
map_long m q = (same_long m {b = maps.sized m} refl q).2
