-- The insert rule for one key, by how its probing ended.
use Rattle.std.proofs.Common.{ℕ, ◌+◌, ◌≤◌, ◌<◌, true, List, [], ◌≡◌, refl, sym, ◌∙◌, ap, arith, length, set, Result, Ok, Err}
use lib.Seq.{set_out}
use Rattle.model.specs.Slots.{frees}
use Rattle.model.specs.Path.{Find, hit, miss, damage}
use Rattle.model.specs.Store.{path, slot_at, used}
use Rattle.model.specs.Calls.{rule}
use Rattle.model.specs.Lawful.{Steady}
use Rattle.model.proofs.Cases.{by_lt, both, clash}
use Rattle.model.proofs.Running.{bytes_there, free_slot}
use Rattle.digest.specs.Home.{home_of}
use Rattle.answers.specs.declared.Refusal.{Refusal}
use Rattle.kinds.specs.Columns.{Column, values, nothing}
use Rattle.kinds.specs.Probing.{along, slot_by}
use Rattle.kinds.proofs.Columns.{nothing_lawful}
use Rattle.kinds.proofs.Uniting.{rule_of}
use Rattle.byte_slots.specs.Memory.{Spans, ByteMemory, byte_store, bare, used_of, filled, fitting}
use Rattle.byte_slots.specs.Probing.{path_of, probing}
use Rattle.byte_slots.specs.Kinds.{maps, sets, as_set}
use Rattle.byte_slots.proofs.Bridge.{path_is, used_is, rule_is}
use Rattle.byte_slots.proofs.Held.{free_says, unharmed_says}
use Rattle.byte_slots.proofs.Places.{byte_steady}
use Rattle.byte_slots.proofs.Sizes.{fitting_says, probing_short}
use Rattle.byte_slots.proofs.Writes.{fill_used}
use Rattle.byte_arena.specs.Needs.{Fillable}
use Rattle.byte_store.specs.Stores.{Storable}
use Rattle.kinds.specs.declared.Probed.{Probed}
use Rattle.kinds.specs.declared.Probed.TheVariants.{Hit, Free, Full}

-- Byte sets are steady.
pub steady : Steady sets
steady = byte_steady nothing nothing_lawful

module _ (s : Spans) (k : List ℕ) {u : ℕ} (y : Storable s u k) where
  fits : fitting s ≡ true
  fits = (both (fitting s) true y.ready.room.sized).0

  -- a free slot that the path found: one of the table's, free, and there are the key's bytes
  free_along : (x : Find (Unit {0})) → path sets (as_set s) k ≡ x → {i e : ℕ} → along (length s.marks) (home_of 0 (length s.marks) k) x ≡ Ok (Free i e) → (i < length s.marks) × (frees (bare s i) ≡ true) × (used sets (as_set s) + length k ≤ length s.arena)
  unfolding along slot_at
  free_along (hit n w) q c = clash cc
  free_along (miss e' f) q {i} {e} c = by_lt f (length s.marks)
      (λ l t.
      let z : slot_at sets (as_set s) k f ≡ i = cc (rw t at c) in
      let (a, b) = free_slot sets steady (as_set s) k tt [] y.ready.room e' f q in
      rw (← z) (a, b, bytes_there sets steady (as_set s) k tt [] y.ready.room e' f q))
      (λ l t. clash (cc (rw t at c)))
  free_along damage q c = clash cc

  module _ {p : Result Probed Refusal} (e : p ≡ probing s k) where
    path_probed : p ≡ path_of s k
    path_probed = e ∙ probing_short s k fits y.short

    found : rule sets (as_set s) k tt ≡ rule_of sets (as_set s) k tt p
    found = rw path_probed (rule_is nothing (as_set s) k tt)

    -- the key's slot
    pub store_hit : {i n : ℕ} → p ≡ Ok (Hit i n) → (as_set s ≡ rule sets (as_set s) k tt) × (i ≡ slot_by (length s.marks) (probing s k)) × (u ≡ used_of s)
    unfolding slot_by
    store_hit q = (rw (found, q), rw (← e, q), y.ready.used)

    module _ {i n : ℕ} (q : p ≡ Ok (Free i n)) where
      free_facts : (i < length s.marks) × (frees (bare s i) ≡ true) × (used_of s + length k ≤ length s.arena)
      free_facts = let (a, b, c) = free_along (path sets (as_set s) k) refl (path_is nothing (as_set s) k ∙ sym path_probed ∙ q) in (a, b, omega (arith, used_is nothing (as_set s)))

      -- a free slot is one to fill
      pub free_fillable : Fillable s i u k
      free_fillable =
          let (a, b, c) = free_facts in
          let z = fitting_says s fits in
          record {
            aligned = record { slot = a; offsets = z.offsets; lengths = z.lengths };
            used = y.ready.used;
            room = omega (arith, y.ready.used);
            key = y.short;
            size = z.arena;
          }

      -- and the numbers are small
      pub free_small : u + length k ≤ 32768
      free_small = omega (arith, free_fillable.room, free_fillable.size)

      -- it takes the key
      pub store_free : {t : Spans} → t ≡ filled s i k → (as_set t ≡ rule sets (as_set s) k tt) × (i ≡ slot_by (length s.marks) (probing s k)) × (u + length k ≡ used_of t)
      unfolding slot_by
      store_free {t} d =
          let (a, b, c) = free_facts in
          let z = fitting_says s fits in
          let w = fill_used s i k c a (omega (arith, z.offsets)) (omega (arith, z.lengths)) (unharmed_says s y.ready.room.unharmed).1 (free_says s (λ j. tt {0}) i b) in
          rw d (rw (found, q), rw (← e, q), omega (arith, y.ready.used, w))

    -- any other end leaves all
    pub store_full : {n : ℕ} → p ≡ Ok (Full n) → (as_set s ≡ rule sets (as_set s) k tt) × (length s.marks ≡ slot_by (length s.marks) (probing s k)) × (u ≡ used_of s)
    unfolding slot_by
    store_full q = (rw (found, q), rw (← e, q), y.ready.used)

    pub store_refused : {x : Refusal} → p ≡ Err x → (as_set s ≡ rule sets (as_set s) k tt) × (length s.marks ≡ slot_by (length s.marks) (probing s k)) × (u ≡ used_of s)
    unfolding slot_by
    store_refused q = (rw (found, q), rw (← e, q), y.ready.used)

-- the keys of a table with a column change as a set's
keys_found : {W : Type 0} (C : Column W) (m : ByteMemory C) (k : List ℕ) (v : W) (p : Result Probed Refusal) → as_set (rule_of (byte_store C) m k v p).spans ≡ rule_of sets (as_set m.spans) k tt p
keys_found C m k v (Ok (Hit i e)) = refl
keys_found C m k v (Ok (Free i e)) = refl
keys_found C m k v (Ok (Full e)) = refl
keys_found C m k v (Err x) = refl

pub rule_keys : {W : Type 0} (C : Column W) (m : ByteMemory C) (k : List ℕ) (v : W) → as_set (rule (byte_store C) m k v).spans ≡ rule sets (as_set m.spans) k tt
rule_keys C m k v = rw (rule_is C m k v, rule_is nothing (as_set m.spans) k tt) (keys_found C m k v (path_of m.spans k))

-- and in a map the key's slot has the value
map_found : (m : ByteMemory values) (k : List ℕ) (v : ℕ) → length m.words ≡ length m.spans.marks → (p : Result Probed Refusal) → record { spans = (rule_of maps m k v p).spans; words = set m.words (slot_by (length m.spans.marks) p) v } ≡ rule_of maps m k v p
unfolding slot_by
map_found m k v l (Ok (Hit i e)) = refl
map_found m k v l (Ok (Free i e)) = refl
map_found m k v l (Ok (Full e)) = ap (λ ws. record { spans = m.spans; words = ws }) (set_out m.words (length m.spans.marks) v (omega arith))
map_found m k v l (Err x) = ap (λ ws. record { spans = m.spans; words = ws }) (set_out m.words (length m.spans.marks) v (omega arith))

module _ (m : ByteMemory values) (k : List ℕ) (v : ℕ) {u : ℕ} (y : Storable m.spans u k) (long : length m.words ≡ length m.spans.marks) {t : Spans} {i a : ℕ} (e : (as_set t ≡ rule sets (as_set m.spans) k tt) × (i ≡ slot_by (length m.spans.marks) (probing m.spans k)) × (a ≡ used_of t)) where
  pub map_store_there : (record { spans = t; words = set m.words i v } ≡ rule maps m k v) × (a ≡ used_of t)
  map_store_there =
      let z : t ≡ (rule maps m k v).spans = ap (λ n. n.spans) (e.0 ∙ sym (rule_keys values m k v)) in
      (rw (z, e.1, probing_short m.spans k (fits m.spans k y) y.short, rule_is values m k v) (map_found m k v long (path_of m.spans k)), e.2)

  pub map_store_none : length m.words ≤ i → (record { spans = t; words = m.words } ≡ rule maps m k v) × (a ≡ used_of t)
  map_store_none h = (ap (λ ws. record { spans = t; words = ws }) (sym (set_out m.words i v h)) ∙ map_store_there.0, e.2)
