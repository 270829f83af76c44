-- Where a byte call tells where a key stands, that part of the arena after the call is the key, whatever stands beside the keys and whatever the memory.
use Prim.Native.Nat.{ℕ, ◌+◌, ◌-◌, ◌≤◌}
use mathlib.Core.Bool.{not}
use mathlib.Core.List.{List}
use mathlib.Core.Path.{◌≡◌, sym, ◌∙◌}
use native.Mathlib.Omega.{arith}
use borrow.Author.Tests.{not-true}
use lib.ListN.{length}
use Rattle.model.specs.Slots.{live}
use Rattle.model.specs.Finite.{Finite, mass}
use Rattle.model.specs.Calls.{ok, found, vacant, get, entry, stored_by, after_insert}
use Rattle.model.specs.Walk.{pair}
use Rattle.model.specs.Machine.{stepping}
use Rattle.model.specs.Lawful.{Shows}
use Rattle.model.proofs.Accepted.{need_ok, pass_ok, spot_vacant}
use Rattle.model.proofs.Laws.{step_pair, get_found_there}
use Rattle.model.proofs.Exact.{used_mass}
use Rattle.kinds.specs.Columns.{Column}
use Rattle.kinds.proofs.Columns.{LawfulColumn}
use Rattle.byte_slots.specs.Memory.{ByteMemory, byte_store, part, key_at, used_of, full_damage, filled, offset_of, length_of}
use Rattle.byte_slots.proofs.Arena.{part_pasted_key}
use Rattle.byte_slots.proofs.Held.{live_says, unharmed_says}
use Rattle.byte_slots.proofs.Lawful.{used_is, byte_lawful}

module _ {W : Type 0} (C : Column W) (m : ByteMemory C) where
  -- The bytes of a slot that holds a key are the key's.
  pub slot_bytes : (j : ℕ) (k : List ℕ) (v : W) → (byte_store C).slots m j ≡ live k v → part m.spans.arena (offset_of m.spans j) (length_of m.spans j) ≡ k
  unfolding key_at
  slot_bytes j k v e = (live_says m.spans (C.read m.words) j k v e).2

  -- The part of the arena of a found key's slot is the key.
  pub found_bytes : (k : List ℕ) (v : W) (i e : ℕ) → get (byte_store C) m k ≡ ok (found v i e) → part m.spans.arena (offset_of m.spans i) (length_of m.spans i) ≡ k
  found_bytes k v i e q = slot_bytes i k v (get_found_there (byte_store C) m k v i e q).0

  -- A step passes a live slot that holds the key that it hands out, and the slot's part of the arena is the key.
  pub handed_slot : (a b : ℕ) (k : List ℕ) (v : W) (y e : ℕ) → stepping (byte_store C) m a b ≡ ok (pair k v y e) → ((byte_store C).slots m (y - 1) ≡ live k v) × (part m.spans.arena (offset_of m.spans (y - 1)) (length_of m.spans (y - 1)) ≡ k)
  handed_slot a b k v y e q =
      let (j, l, u, t, c, z, r, o) = step_pair (byte_store C) m a b k v y e q in
      let n : y - 1 ≡ j = omega arith in
      rw n (t, slot_bytes j k v t)

  -- An accepted key's bytes fit behind `used`.
  fresh_fits : (k : List ℕ) (i e : ℕ) → entry (byte_store C) m k ≡ ok (vacant i e) → used_of m.spans + length k ≤ length m.spans.arena
  unfolding entry
  fresh_fits k i e q =
      let a = (need_ok ((byte_store C).sized m) 1 _ (vacant i e) q).1 in
      let b = (pass_ok ((byte_store C).kept k) _ (vacant i e) a).1 in
      let (h, c) = need_ok (not (full_damage m.spans)) 5 _ (vacant i e) b in
      let (f, p, r, l, u) = spot_vacant (byte_store C) m k i e c in
      omega (arith, (unharmed_says m.spans (not-true (full_damage m.spans) h)).0, used_is C m)

  -- A fresh key's bytes stand at the offset that `used` was.
  pub fresh_bytes : (k : List ℕ) (v : W) (i e : ℕ) → entry (byte_store C) m k ≡ ok (vacant i e) → part (after_insert (byte_store C) m k v).spans.arena (used_of m.spans) (length k) ≡ k
  unfolding after_insert stored_by filled
  fresh_bytes k v i e q = rw q (part_pasted_key m.spans.arena (used_of m.spans) k (fresh_fits k i e q))

-- `used` is the sum of the lengths of the map's keys.
pub used_told : {W : Type 0} (C : Column W) (O : LawfulColumn C) (m : ByteMemory C) (f : Finite (List ℕ) W) → Shows (byte_store C) m f → used_of m.spans ≡ mass length f.dom
used_told C O m f s = sym (used_is C m) ∙ used_mass (byte_store C) (byte_lawful C O) m f s
