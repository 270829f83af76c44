-- What a mark in lent memory says of its slot, and the look at a slot by its mark and key.
use Rattle.std.proofs.Common.{ℕ, zero, suc, ◌≡◌, refl}
use Rattle.model.specs.Slots.{Keys, live}
use Rattle.model.proofs.Cases.{clash}
use Rattle.kinds.specs.Marks.{cell, mark_read}
use Rattle.kinds.specs.Probing.{look_at}
use Rattle.tables.specs.Reading.{mark_in}

module _ {K W : Type 0} (k : K) (v : W) where
  pub mark_cell : (m : ℕ) → mark_read m ≡ mark_in (cell m k v)
  unfolding mark_read mark_in cell
  mark_cell zero = refl
  mark_cell (suc zero) = refl
  mark_cell (suc (suc zero)) = refl
  mark_cell (suc (suc (suc m))) = refl

-- the value beside a key changes neither
module _ {K V W : Type 0} (a : K) (v : V) (w : W) where
  pub mark_beside : (m : ℕ) → mark_in (cell m a v) ≡ mark_in (cell m a w)
  unfolding mark_in cell
  mark_beside zero = refl
  mark_beside (suc zero) = refl
  mark_beside (suc (suc zero)) = refl
  mark_beside (suc (suc (suc m))) = refl

  pub look_beside : (E : Keys K) (k : K) (m : ℕ) → look_at E k (cell m a v) ≡ look_at E k (cell m a w)
  unfolding look_at cell
  look_beside E k zero = refl
  look_beside E k (suc zero) = refl
  look_beside E k (suc (suc zero)) = refl
  look_beside E k (suc (suc (suc m))) = refl

-- the key and the word of a live slot
module _ {K W : Type 0} {a k : K} {v w : W} where
  pub held_cell : (m : ℕ) → cell m a v ≡ live k w → (k ≡ a) × (w ≡ v)
  unfolding cell
  held_cell zero e = clash cc
  held_cell (suc zero) e = (cc, cc)
  held_cell (suc (suc zero)) e = clash cc
  held_cell (suc (suc (suc m))) e = clash cc
