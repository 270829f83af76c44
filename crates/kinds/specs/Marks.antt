-- What a slot holds by its mark, and the tables that marks, keys and values make.
use Rattle.std.specs.Prelude.{ℕ, zero, suc, cond, List, eqb, get_or}
use Rattle.std.specs.Prelude.{Result, Ok, Err}
use Rattle.model.specs.Slots.{Slot, never, freed, damaged, live, Table}
use Rattle.answers.specs.declared.Refusal.{Refusal}
use Rattle.answers.specs.declared.Refusal.TheVariants as refusal
use Rattle.kinds.specs.declared.Mark.{Mark}
use Rattle.kinds.specs.declared.Mark.TheVariants.{Never, Live, Freed}

-- What a slot with this mark, key and value holds: mark 0 never used, 1 live, 2 freed, any other damaged.
unfoldable pub cell : {K W : Type 0} → ℕ → K → W → Slot K W
cell zero k v = never
cell (suc zero) k v = live k v
cell (suc (suc zero)) k v = freed
cell (suc (suc (suc m))) k v = damaged

-- The words of a lent list by their places, 0 beyond them.
abbrev pub words_of : List ℕ → ℕ → ℕ
words_of ws i = get_or ws i 0

-- The table with these marks, keys and values.
abbrev pub cells_of : {K W : Type 0} → (ℕ → ℕ) → (ℕ → K) → (ℕ → W) → Table K W
cells_of mark key v i = cell (mark i) (key i) (v i)

-- The slots of marks and keys alone, and of the marks alone.
abbrev pub keys_only : {K : Type 0} → (ℕ → ℕ) → (ℕ → K) → Table K (Unit {0})
keys_only mark key i = cell (mark i) (key i) tt

abbrev pub marks_only : (ℕ → ℕ) → Table (Unit {0}) (Unit {0})
marks_only mark i = cell (mark i) tt tt

-- What a slot with this mark adds to the number of live slots.
unfoldable pub counted : ℕ → ℕ
counted mark = cond (eqb mark 1) 1 0

-- What a mark in lent memory says; a number of no mark is damage.
unfoldable pub mark_read : ℕ → Result Mark Refusal
mark_read zero = Ok Never
mark_read (suc zero) = Ok Live
mark_read (suc (suc zero)) = Ok Freed
mark_read (suc (suc (suc m))) = Err refusal.Damaged
