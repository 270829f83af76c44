-- What the reading of a slot's mark says: the slot is live where the mark was read so, and only there.
use Rattle.std.proofs.Common.{ℕ, Result, Ok, ◌≡◌, sym, ◌∙◌}
use Rattle.answers.specs.declared.Refusal.{Refusal}
use Rattle.kinds.specs.declared.Mark.{Mark}
use Rattle.kinds.specs.declared.Mark.TheVariants.{Live}
use Rattle.kinds.specs.Marks.{mark_read}
use Rattle.kinds.proofs.Scanning.{read_live}
use Rattle.byte_slots.specs.Memory.{Spans}
use Rattle.byte_slots.specs.Marks.{mark_of}

module _ (s : Spans) (i : ℕ) {x : Result Mark Refusal} (p : x ≡ mark_read (mark_of s i)) where
  pub mark_live : x ≡ Ok Live → mark_of s i ≡ 1
  mark_live q = read_live (mark_of s i) (sym p ∙ q)

  pub mark_idle : (x ≡ Ok Live → ⊥) → mark_of s i ≡ 1 → ⊥
  unfolding mark_read
  mark_idle h e = h (rw e at p)

-- a mark that was read as another
pub read_apart : {x : Result Mark Refusal} {k : Mark} → x ≡ Ok k → (k ≡ Live → ⊥) → x ≡ Ok Live → ⊥
read_apart {x} {k} e h z = let y : k ≡ Live = cc in h y
