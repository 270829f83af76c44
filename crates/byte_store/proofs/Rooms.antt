-- What stands beside keys takes no room: a table with a column has room where its keys alone have.
use Rattle.std.proofs.Common.{ℕ, zero, suc, cond, List, [], ◌∷◌, ◌++◌, ◌≡◌, refl, sym, ◌∙◌, ap, length}
use mathlib.Core.Path.{fun_ext}
use Rattle.model.specs.Slots.{pair_of, pairs}
use Rattle.model.specs.Finite.{firsts}
use Rattle.model.specs.Calls.{lacking}
use Rattle.model.proofs.Cases.{both}
use Rattle.model.specs.Running.{Roomy}
use Rattle.kinds.specs.Columns.{Column, nothing}
use Rattle.kinds.specs.Marks.{cell}
use Rattle.byte_slots.specs.Memory.{Spans, ByteMemory, byte_store, slots_of, bare, fitting, key_at}
use Rattle.byte_slots.specs.Marks.{mark_of}
use Rattle.byte_slots.specs.Kinds.{sets, as_set}
use Rattle.byte_slots.proofs.Beside.{beside_set}
use Rattle.byte_slots.proofs.Bridge.{used_is, lacking_is}
use Rattle.byte_slots.proofs.Marks.{slot_cell}
use Rattle.byte_store.specs.Stores.{pairs_of}

-- the keys of the slots are those of the slots alone
first_bare : {W : Type 0} (mark : ℕ) (k : List ℕ) (v : W) → firsts (pair_of (cell mark k v)) ≡ firsts (pair_of (cell mark k (tt {0})))
unfolding firsts pair_of cell
first_bare zero k v = refl
first_bare (suc zero) k v = refl
first_bare (suc (suc zero)) k v = refl
first_bare (suc (suc (suc m))) k v = refl

firsts_append : {K W : Type 0} (ps qs : List (K × W)) → firsts (ps ++ qs) ≡ firsts ps ++ firsts qs
unfolding firsts
firsts_append [] qs = refl
firsts_append (p ∷ ps) qs = ap (λ ks. p.0 ∷ ks) (firsts_append ps qs)

pub firsts_bare : {W : Type 0} (s : Spans) (read : ℕ → W) (n : ℕ) → firsts (pairs (slots_of s read) n) ≡ firsts (pairs_of s n)
unfolding pairs pairs_of firsts
firsts_bare s read zero = refl
firsts_bare s read (suc n) = rw (firsts_append (pairs (slots_of s read) n) (pair_of (slots_of s read n)), firsts_append (pairs (bare s) n) (pair_of (bare s n)), slot_cell s read n, slot_cell s (λ i. tt {0}) n, first_bare (mark_of s n) (key_at s n) (read n), firsts_bare s read n)

module _ {W : Type 0} (C : Column W) (m : ByteMemory C) where
  lacks_alike : (g : List ℕ → ℕ) → ◌≡◌ {A = List ℕ → ℕ} (λ k. cond (lacking (byte_store C) m k) (g k) 0) (λ k. cond (lacking sets (as_set m.spans) k) (g k) 0)
  lacks_alike g = fun_ext (λ k. rw (lacking_is C m k, lacking_is nothing (as_set m.spans) k))

  -- room for pairs is room for their keys
  pub roomy_bare : (ps : List (List ℕ × W)) (ks : List (List ℕ × Unit {0})) → firsts ps ≡ firsts ks → Roomy (byte_store C) m ps → Roomy sets (as_set m.spans) ks
  roomy_bare ps ks e y =
      let (f, l) = both (fitting m.spans) (C.long m.words (length m.spans.marks)) y.sized in
      let b = beside_set C m l in
      record {
        sized = sym b.sized ∙ y.sized;
        unharmed = y.unharmed;
        unhurt = sym b.damage ∙ y.unhurt;
        slots_left = rw (← b.lives, ← lacks_alike (λ k. 1), ← e) y.slots_left;
        bytes_left = rw (used_is nothing (as_set m.spans), ← used_is C m, ← lacks_alike length, ← e) y.bytes_left;
      }
