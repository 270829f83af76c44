-- The insert rule with no test: for one key by how its probing ended, and for the right's slots one by one.
use Prim.Native.Nat.{ℕ, ◌+◌, ◌≤◌, ◌<◌}
use mathlib.Core.Bool.{true}
use mathlib.Core.List.{List}
use mathlib.Core.Path.{◌≡◌, refl, sym, ◌∙◌, ap}
use native.Mathlib.Numerals.{add-one}
use native.Mathlib.Omega.{arith}
use lib.Dec.{ltb}
use lib.ListN.{length, set, length-set}
use lib.Seq.{set_out}
use Rattle.model.specs.Slots.{Slot, never, freed, damaged, live, pair_of}
use Rattle.model.specs.Path.{Find, hit, miss, damage}
use Rattle.model.specs.Store.{path, slot_at}
use Rattle.model.specs.Calls.{rule_by, rule, store_all}
use Rattle.model.proofs.Cases.{both, by_bool}
use Rattle.answers.specs.declared.Refusal.{Refusal}
use Rattle.kinds.specs.Columns.{Column, values, nothing}
use Rattle.kinds.specs.Calls.{sized_of}
use Rattle.kinds.specs.Probing.{slot_by}
use Rattle.kinds.specs.Stores.{slot_in, slot_stored, all_stored}
use Rattle.kinds.proofs.Columns.{LawfulColumn}
use Rattle.kinds.proofs.Uniting.{rule_of, rule_probed, stored_none, stored_last}
use Rattle.int_slots.specs.Memory.{IntMemory, int_store, memory, fitting}
use Rattle.int_slots.specs.Maps.{maps}
use Rattle.int_slots.specs.Sets.{sets, memory as set_memory}
use Rattle.int_slots.specs.Probing.{probing}
use Rattle.int_slots.proofs.Bridge.{sized_is, probing_path}
use Rattle.int_slots.proofs.MapSizes.{same_long}
use Rattle.std.specs.Prelude.{Result, Ok, Err}
use Rattle.kinds.specs.declared.Probed.{Probed}
use Rattle.kinds.specs.declared.Probed.TheVariants.{Hit, Free, Full}

-- the rule with no test, by what the probing found
rule_found : {W : Type 0} (C : Column W) (m : IntMemory C) (k : ℕ) (v : W) → sized_of (int_store C) m ≡ true → rule (int_store C) m k v ≡ rule_of (int_store C) m k v (probing m.marks m.keys k)
unfolding sized_of
rule_found C m k v f =
    let (a, b) = both (fitting m.marks m.keys) (C.long m.words (length m.marks)) (sym (sized_is C m) ∙ f) in
    rule_probed (int_store C) m k (probing_path C m k a) v

-- a set's, end by end
module _ (marks keys : List ℕ) (k : ℕ) (f : sized_of sets (set_memory marks keys) ≡ true) {r : Result Probed Refusal} (p : r ≡ probing marks keys k) where
  set_found : rule sets (set_memory marks keys) k tt ≡ rule_of sets (set_memory marks keys) k tt r
  set_found = rw p (rule_found nothing (set_memory marks keys) k tt f)

  pub store_hit : {y : Probed} {s e : ℕ} → r ≡ Ok y → y ≡ Hit s e → (set_memory marks keys ≡ rule sets (set_memory marks keys) k tt) × (s ≡ slot_by (length marks) (probing marks keys k))
  unfolding slot_by
  store_hit q h = (rw (set_found, q, h), rw (← p, q, h))

  pub store_free : {y : Probed} {s e : ℕ} → r ≡ Ok y → y ≡ Free s e → (set_memory (set marks s 1) (set keys s k) ≡ rule sets (set_memory marks keys) k tt) × (s ≡ slot_by (length marks) (probing marks keys k))
  unfolding slot_by
  store_free q h = (rw (set_found, q, h), rw (← p, q, h))

  pub store_full : {y : Probed} {e : ℕ} → r ≡ Ok y → y ≡ Full e → (set_memory marks keys ≡ rule sets (set_memory marks keys) k tt) × (length marks ≡ slot_by (length marks) (probing marks keys k))
  unfolding slot_by
  store_full q h = (rw (set_found, q, h), rw (← p, q, h))

  pub store_refused : {x : Refusal} → r ≡ Err x → (set_memory marks keys ≡ rule sets (set_memory marks keys) k tt) × (length marks ≡ slot_by (length marks) (probing marks keys k))
  unfolding slot_by
  store_refused q = (rw (set_found, q), rw (← p, q))

-- a map's is the set's, with the value in the key's slot
map_found : (marks keys vs : List ℕ) (k v : ℕ) → length vs ≡ length marks → (r : Result Probed Refusal) → memory (rule_of sets (set_memory marks keys) k tt r).marks (rule_of sets (set_memory marks keys) k tt r).keys (set vs (slot_by (length marks) r) v) ≡ rule_of maps (memory marks keys vs) k v r
unfolding slot_by
map_found marks keys vs k v l (Ok (Hit s e)) = refl
map_found marks keys vs k v l (Ok (Free s e)) = refl
map_found marks keys vs k v l (Ok (Full e)) = ap (λ ws. memory marks keys ws) (set_out vs (length marks) v (omega arith))
map_found marks keys vs k v l (Err x) = ap (λ ws. memory marks keys ws) (set_out vs (length marks) v (omega arith))

module _ (marks keys vs : List ℕ) (f : sized_of maps (memory marks keys vs) ≡ true) where
  -- the keys alone are of right sizes
  pub keys_sized : sized_of sets (set_memory marks keys) ≡ true
  unfolding sized_of
  keys_sized =
      let (a, b) = both (fitting marks keys) (values.long vs (length marks)) (sym (sized_is values (memory marks keys vs)) ∙ f) in
      sized_is nothing (set_memory marks keys) ∙ (rw a)

  module _ (k v : ℕ) {n : IntMemory nothing} {s : ℕ} (e : (n ≡ rule sets (set_memory marks keys) k tt) × (s ≡ slot_by (length marks) (probing marks keys k))) where
    -- the value goes into the key's slot
    pub map_store_there : memory n.marks n.keys (set vs s v) ≡ rule maps (memory marks keys vs) k v
    map_store_there =
        let l = (same_long (memory marks keys vs) (sym f) refl).1 in
        rw (e.0, e.1, rule_found nothing (set_memory marks keys) k tt keys_sized, rule_found values (memory marks keys vs) k v f) (map_found marks keys vs k v l (probing marks keys k))

    -- or there is none
    pub map_store_none : length vs ≤ s → memory n.marks n.keys vs ≡ rule maps (memory marks keys vs) k v
    map_store_none h = ap (λ ws. memory n.marks n.keys ws) (sym (set_out vs s v h)) ∙ map_store_there

module _ {W : Type 0} (C : Column W) (O : LawfulColumn C) where
  -- the rule leaves the sizes
  rule_sized : (m : IntMemory C) (k : ℕ) (v : W) (x : Find W) → (int_store C).sized (rule_by (int_store C) m k v x) ≡ (int_store C).sized m
  unfolding rule_by
  rule_sized m k v (hit n w) = rw (O.long_write m.words (length m.marks) (slot_at (int_store C) m k n) v)
  rule_sized m k v (miss e f) =
      let i = slot_at (int_store C) m k f in
      by_bool (ltb f (length m.marks))
      (λ t. rw (t, length-set m.marks i 1, length-set m.keys i k, O.long_write m.words (length m.marks) i v))
      (λ t. rw t)
  rule_sized m k v damage = refl

  slot_sized : (m : IntMemory C) (s : Slot ℕ W) → sized_of (int_store C) (slot_stored (int_store C) m s) ≡ sized_of (int_store C) m
  unfolding sized_of slot_stored store_all pair_of rule
  slot_sized m never = refl
  slot_sized m freed = refl
  slot_sized m damaged = refl
  slot_sized m (live k v) = rule_sized m k v (path (int_store C) m k)

-- the loop's state: the pairs of the first i slots are in, the sizes are right, and each list has its length
pub record Storing {W : Type 0} (C : Column W) (l r m : IntMemory C) (i : ℕ) : Type 0 where
  pub within : i ≤ length r.marks
  pub sized : sized_of (int_store C) m ≡ true
  pub marks_long : length m.marks ≡ length l.marks
  pub keys_long : length m.keys ≡ length l.keys
  pub is : m ≡ all_stored (int_store C) l r i

pub store_start : {W : Type 0} (C : Column W) (l r : IntMemory C) → sized_of (int_store C) l ≡ true → Storing C l r l 0
store_start C l r f = record { within = omega arith; sized = f; marks_long = refl; keys_long = refl; is = stored_none (int_store C) l r }

module _ {W : Type 0} {C : Column W} {l r m : IntMemory C} {i : ℕ} (w : Storing C l r m i) where
  -- one slot more: its pair comes last
  pub store_more : LawfulColumn C → {n : IntMemory C} → i < length r.marks → n ≡ slot_stored (int_store C) m ((int_store C).slots r i) → length n.marks ≡ length m.marks → length n.keys ≡ length m.keys → Storing C l r n (i + 1)
  unfolding slot_in
  store_more O b e x y = record {
    within = omega arith;
    sized = ap (sized_of (int_store C)) e ∙ slot_sized C O m ((int_store C).slots r i) ∙ w.sized;
    marks_long = x ∙ w.marks_long;
    keys_long = y ∙ w.keys_long;
    is = rw (add-one, stored_last (int_store C) l r i, ← w.is) e;
  }

  pub store_end : length r.marks ≤ i → m ≡ all_stored (int_store C) l r (length r.marks)
  store_end b = let e : length r.marks ≡ i = omega arith in rw e w.is

-- a map's values keep their length too
pub words_long : {l r m : IntMemory values} {i : ℕ} → Storing values l r m i → sized_of maps l ≡ true → length m.words ≡ length l.words
words_long {l} {r} {m} w f = omega (arith, w.marks_long, (same_long m (sym w.sized) refl).1, (same_long l (sym f) refl).1)
