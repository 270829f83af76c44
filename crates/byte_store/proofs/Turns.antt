-- The insert rule for the right's slots, one by one.
use Rattle.std.proofs.Common.{ℕ, zero, suc, ◌+◌, ◌-◌, ◌≤◌, ◌<◌, true, List, [], ◌∷◌, ◌++◌, append_assoc, append-nil, ◌≡◌, refl, sym, ◌∙◌, ap, add-one, arith, length, get_or, Result, Ok}
use Rattle.model.specs.Slots.{Slot, never, freed, damaged, live, pair_of, pairs}
use Rattle.model.specs.Finite.{mass, firsts}
use Rattle.model.specs.Store.{path}
use Rattle.model.specs.Calls.{rule, store_all}
use Rattle.model.specs.Running.{Roomy}
use Rattle.model.proofs.Running.{one_more}
use Rattle.digest.specs.Home.{key_limit}
use Rattle.kinds.specs.Columns.{Column, values, nothing}
use Rattle.answers.specs.declared.Refusal.{Refusal}
use Rattle.kinds.specs.declared.Mark.{Mark}
use Rattle.kinds.specs.declared.Mark.TheVariants.{Live}
use Rattle.kinds.specs.Marks.{cell, mark_read}
use Rattle.kinds.specs.Stores.{slot_in, slot_stored, all_stored}
use Rattle.kinds.proofs.Uniting as uniting
use Rattle.kinds.proofs.Uniting.{stored_none, stored_last}
use Rattle.byte_slots.specs.Memory.{Spans, ByteMemory, byte_store, part, key_at, bare, used_of, fitting}
use Rattle.byte_slots.specs.Marks.{mark_of}
use Rattle.byte_slots.specs.Kinds.{maps, sets, as_set}
use Rattle.byte_slots.proofs.Marks.{slot_cell}
use Rattle.byte_slots.proofs.Sizes.{fitting_says}
use Rattle.byte_arena.specs.Needs.{Aligned}
use Rattle.byte_store.specs.Stores.{Ready, Storable, pair_at, pairs_of}
use Rattle.byte_store.proofs.Marks.{mark_live, mark_idle}
use Rattle.byte_store.proofs.Storing.{steady, rule_keys}

-- one of the slots of a table of right sizes
pub slot_aligned : (s : Spans) {i : ℕ} → fitting s ≡ true → i < length s.marks → Aligned s i
slot_aligned s f l = let z = fitting_says s f in record { slot = l; offsets = z.offsets; lengths = z.lengths }

-- a live slot's key may be stored
module _ (s : Spans) (i : ℕ) {x : Result Mark Refusal} (p : x ≡ mark_read (mark_of s i)) (one : x ≡ Ok Live) {k : List ℕ} (e : (k ≡ part s.arena (get_or s.offsets i 0) (get_or s.lengths i 0)) × (length k ≤ key_limit)) where
  live_pair : pair_at s i ≡ (k, tt) ∷ []
  unfolding pair_at pair_of cell key_at
  live_pair = rw (slot_cell s (λ j. tt {0}) i, mark_live s i p one, e.0)

  pub live_storable : {l : Spans} {u : ℕ} → Ready l u (pair_at s i) → Storable l u k
  live_storable y = record { ready = rw live_pair at y; short = e.1 }

module _ {W : Type 0} (C : Column W) where
  module _ (l r : ByteMemory C) (i : ℕ) {x : Result Mark Refusal} (p : x ≡ mark_read (mark_of r.spans i)) where
    -- and is, by the rule
    pub slot_live : {k : List ℕ} {t : ByteMemory C} → x ≡ Ok Live → k ≡ part r.spans.arena (get_or r.spans.offsets i 0) (get_or r.spans.lengths i 0) → t ≡ rule (byte_store C) l k (C.read r.words i) → t ≡ slot_stored (byte_store C) l (slot_in (byte_store C) r i)
    unfolding slot_in key_at
    slot_live one q e = rw (slot_cell r.spans (C.read r.words) i) (uniting.slot_live (byte_store C) l (mark_of r.spans i) (key_at r.spans i) (C.read r.words i) (mark_live r.spans i p one) (rw q at e))

    -- another slot stores nothing
    pub slot_idle : (x ≡ Ok Live → ⊥) → l ≡ slot_stored (byte_store C) l (slot_in (byte_store C) r i)
    unfolding slot_in
    slot_idle h = rw (slot_cell r.spans (C.read r.words) i) (uniting.slot_idle (byte_store C) l (mark_of r.spans i) (key_at r.spans i) (C.read r.words i) (mark_idle r.spans i p h))

  -- the keys change as a set's
  cell_keys : (m : ByteMemory C) (mark : ℕ) (k : List ℕ) (v : W) → as_set (store_all (byte_store C) m (pair_of (cell mark k v))).spans ≡ store_all sets (as_set m.spans) (pair_of (cell mark k tt))
  unfolding store_all pair_of cell
  cell_keys m zero k v = refl
  cell_keys m (suc zero) k v = rule_keys C m k v
  cell_keys m (suc (suc zero)) k v = refl
  cell_keys m (suc (suc (suc n))) k v = refl

  slot_keys : (l r : ByteMemory C) (i : ℕ) → as_set (slot_stored (byte_store C) l (slot_in (byte_store C) r i)).spans ≡ store_all sets (as_set l.spans) (pair_at r.spans i)
  unfolding slot_stored slot_in pair_at
  slot_keys l r i = rw (slot_cell r.spans (C.read r.words) i, slot_cell r.spans (λ j. tt {0}) i) (cell_keys l (mark_of r.spans i) (key_at r.spans i) (C.read r.words i))

-- room for a slot's key and more is room for it
roomy_first : (m : ByteMemory nothing) (s : Slot (List ℕ) (Unit {0})) (qs : List (List ℕ × Unit {0})) → Roomy sets m (pair_of s ++ qs) → Roomy sets m (pair_of s)
unfolding pair_of mass firsts
roomy_first m never qs y = record { sized = y.sized; unharmed = y.unharmed; unhurt = y.unhurt; slots_left = omega (arith, y.slots_left); bytes_left = omega (arith, y.bytes_left) }
roomy_first m freed qs y = record { sized = y.sized; unharmed = y.unharmed; unhurt = y.unhurt; slots_left = omega (arith, y.slots_left); bytes_left = omega (arith, y.bytes_left) }
roomy_first m damaged qs y = record { sized = y.sized; unharmed = y.unharmed; unhurt = y.unhurt; slots_left = omega (arith, y.slots_left); bytes_left = omega (arith, y.bytes_left) }
roomy_first m (live a v) qs y = record { sized = y.sized; unharmed = y.unharmed; unhurt = y.unhurt; slots_left = omega (arith, y.slots_left); bytes_left = omega (arith, y.bytes_left) }

-- and once that is stored there is room for the rest
roomy_next : (m : ByteMemory nothing) (s : Slot (List ℕ) (Unit {0})) (qs : List (List ℕ × Unit {0})) → Roomy sets m (pair_of s ++ qs) → Roomy sets (store_all sets m (pair_of s)) qs
unfolding pair_of store_all rule
roomy_next m never qs y = y
roomy_next m freed qs y = y
roomy_next m damaged qs y = y
roomy_next m (live a v) qs y = (one_more sets steady m a v qs y (path sets m a) refl).1

-- The keys of g slots from i on.
unfoldable pub rest_of : Spans → ℕ → ℕ → List (List ℕ × Unit {0})
rest_of s i zero = []
rest_of s i (suc g) = pair_at s i ++ rest_of s (suc i) g

rest_all : (s : Spans) (i g : ℕ) → pairs_of s (i + g) ≡ pairs_of s i ++ rest_of s i g
unfolding rest_of pairs_of pair_at pairs
rest_all s i zero = let e : i + 0 ≡ i = omega arith in rw e (sym (append-nil (pairs (bare s) i)))
rest_all s i (suc g) =
    let e : i + suc g ≡ suc i + g = omega arith in
    rw e (rest_all s (suc i) g ∙ append_assoc (pairs (bare s) i) (pair_of (bare s i)) (rest_of s (suc i) g))

rest_more : (s : Spans) (i n : ℕ) → i < n → rest_of s i (n - i) ≡ pair_at s i ++ rest_of s (i + 1) (n - (i + 1))
unfolding rest_of
rest_more s i n l = let e : n - i ≡ suc (n - (i + 1)) = omega arith in rw (e, add-one)

-- the loop's state: the pairs of the first i slots are in, there is room for the others, and each list has its length
pub record Turning {W : Type 0} (C : Column W) (l r m : ByteMemory C) (u i : ℕ) : Type 0 where
  pub within : i ≤ length r.spans.marks
  pub marks_long : length m.spans.marks ≡ length l.spans.marks
  pub offsets_long : length m.spans.offsets ≡ length l.spans.offsets
  pub lengths_long : length m.spans.lengths ≡ length l.spans.lengths
  pub arena_long : length m.spans.arena ≡ length l.spans.arena
  pub is : m ≡ all_stored (byte_store C) l r i
  pub ready : Ready m.spans u (rest_of r.spans i (length r.spans.marks - i))

pub turn_start : {W : Type 0} (C : Column W) (l r : ByteMemory C) {u : ℕ} → Ready l.spans u (pairs_of r.spans (length r.spans.marks)) → Turning C l r l u 0
unfolding pairs_of pairs
turn_start C l r {u} y =
    let n = length r.spans.marks in
    let e : n - 0 ≡ n = omega arith in
    let d : 0 + n ≡ n = omega arith in
    record { within = omega arith; marks_long = refl; offsets_long = refl; lengths_long = refl; arena_long = refl; is = stored_none (byte_store C) l r; ready = rw (e, ← rest_all r.spans 0 n, d) y }

module _ {W : Type 0} {C : Column W} {l r m : ByteMemory C} {u i : ℕ} (w : Turning C l r m u i) where
  -- the next slot's key may be stored
  pub turn_slot : i < length r.spans.marks → Ready m.spans u (pair_at r.spans i)
  unfolding pair_at
  turn_slot b = record {
    room = roomy_first (as_set m.spans) (bare r.spans i) (rest_of r.spans (i + 1) (length r.spans.marks - (i + 1))) (rw (rest_more r.spans i (length r.spans.marks) b) at w.ready.room);
    used = w.ready.used;
  }

  -- one slot more: its pair comes last
  pub turn_more : {n : ByteMemory C} {a : ℕ} → i < length r.spans.marks → (n ≡ slot_stored (byte_store C) m (slot_in (byte_store C) r i)) × (a ≡ used_of n.spans)
      → length n.spans.marks ≡ length m.spans.marks → length n.spans.offsets ≡ length m.spans.offsets → length n.spans.lengths ≡ length m.spans.lengths → length n.spans.arena ≡ length m.spans.arena → Turning C l r n a (i + 1)
  unfolding pair_at
  turn_more {n} {a} b (e, d) c1 c2 c3 c4 = record {
    within = omega arith;
    marks_long = c1 ∙ w.marks_long;
    offsets_long = c2 ∙ w.offsets_long;
    lengths_long = c3 ∙ w.lengths_long;
    arena_long = c4 ∙ w.arena_long;
    is = rw (add-one, stored_last (byte_store C) l r i, ← w.is) e;
    ready = record {
      room = rw (ap (λ x. as_set x.spans) e ∙ slot_keys C m r i) (roomy_next (as_set m.spans) (bare r.spans i) (rest_of r.spans (i + 1) (length r.spans.marks - (i + 1))) (rw (rest_more r.spans i (length r.spans.marks) b) at w.ready.room));
      used = d;
    };
  }

-- a map's values keep their length too
pub words_more : {l r m n : ByteMemory values} {u a i : ℕ} → Turning values l r m u i → (n ≡ slot_stored maps m (slot_in maps r i)) × (a ≡ used_of n.spans) → length n.words ≡ length m.words → length m.words ≡ length l.words → length n.words ≡ length l.words
words_more w e x y = x ∙ y
