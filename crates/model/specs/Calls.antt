-- One definition for each call, over any store: what it answers, its tests in the order in which they are made, and what it leaves.
use Rattle.std.specs.Prelude.{ℕ, zero, suc, ◌-◌, Bool, true, false, cond, not, List, [], ◌∷◌, ltb, leb, eqb}
use Rattle.std.proofs.Math.Option.{Option, none, some}
use Rattle.model.specs.Slots.{Slot, never, freed, damaged, live, total, pairs}
use Rattle.model.specs.Path.{Find, hit, miss, damage}
use Rattle.model.specs.Store.{Store, path, slot_at, live_count, used, damaged_slots}

-- An answer, or the number of a refusal.
pub data Or (A : Type 0) : Type 0 where
  no : ℕ → Or A
  ok : A → Or A

-- The refusal n where the test fails, else the answer.
unfoldable pub need : {A : Type 0} → Bool → ℕ → Or A → Or A
need true n a = a
need false n a = no n

-- The refusal n where it is not 0, else the answer.
unfoldable pub pass : {A : Type 0} → ℕ → Or A → Or A
pass zero a = a
pass (suc n) a = no (suc n)

-- The value v in place of an answer.
unfoldable pub give : {A B : Type 0} → B → Or A → Or B
give v (no n) = no n
give v (ok a) = ok v

-- A lookup's answer: found with value, slot and examined number, or absent with examined number.
pub data Seen (W : Type 0) : Type 0 where
  found : W → ℕ → ℕ → Seen W
  absent : ℕ → Seen W

-- What a lookup says of its key, without slot and examined number: its value, or that it has none.
unfoldable pub lookup_of : {W : Type 0} → Or (Seen W) → Or (Option W)
lookup_of (no n) = no n
lookup_of (ok (found v s e)) = ok (some v)
lookup_of (ok (absent e)) = ok none

-- Where a key stands or would go: occupied with slot, value and examined number, or vacant with slot and examined number.
pub data Spot (W : Type 0) : Type 0 where
  occupied : ℕ → W → ℕ → Spot W
  vacant : ℕ → ℕ → Spot W

-- A handle: of an occupied or a vacant slot.
pub data Handle : Type 0 where
  on_occupied : ℕ → Handle
  on_vacant : ℕ → Handle

module _ {K W : Type 0} (M : Store K W) where
  -- What a lookup makes of its path.
  unfoldable pub seen_by : M.State → K → Find W → Or (Seen W)
  seen_by m k (hit n v) = ok (found v (slot_at M m k n) (suc n))
  seen_by m k (miss e f) = ok (absent e)
  seen_by m k damage = no 5

  -- What insert and entry make of their path: an absent key needs a free slot, and its bytes.
  unfoldable pub spot_by : M.State → K → Find W → Or (Spot W)
  spot_by m k (hit n v) = ok (occupied (slot_at M m k n) v (suc n))
  spot_by m k (miss e f) = need (ltb f (M.size m)) 7 (need (leb (M.weight k) (M.bytes m - used M m)) 8 (ok (vacant (slot_at M m k f) e)))
  spot_by m k damage = no 5

  -- get, contains: the path decides.
  unfoldable pub get : M.State → K → Or (Seen W)
  get m k = need (M.sized m) 1 (pass (M.asked k) (seen_by m k (path M m k)))

  -- entry, and insert's answer: occupied (replaced), vacant (fresh), or refused.
  unfoldable pub entry : M.State → K → Or (Spot W)
  entry m k = need (M.sized m) 1 (pass (M.kept k) (need (not (M.damaged_fully m)) 5 (spot_by m k (path M m k))))

  -- insert: key on the path, only its value changes, in that slot; otherwise the first free slot of the path takes it.
  unfoldable pub stored_by : M.State → K → W → Or (Spot W) → M.State
  stored_by m k v (no n) = m
  stored_by m k v (ok (occupied s w e)) = M.over m s v
  stored_by m k v (ok (vacant s e)) = M.fill m s k v

  -- The memory after insert: as its answer says.
  unfoldable pub after_insert : M.State → K → W → M.State
  after_insert m k v = stored_by m k v (entry m k)

  -- A put is insert without the key's test: what a table or an image carries from elsewhere goes in by it.
  unfoldable pub put_spot : M.State → K → Or (Spot W)
  put_spot m k = need (M.sized m) 1 (need (not (M.damaged_fully m)) 5 (spot_by m k (path M m k)))

  -- The memory after a put: as its answer says.
  unfoldable pub after_put : M.State → K → W → M.State
  after_put m k v = stored_by m k v (put_spot m k)

  -- remove: a lookup after the tests of storing calls; the found slot is freed.
  unfoldable pub remove : M.State → K → Or (Seen W)
  remove m k = need (M.sized m) 1 (pass (M.asked k) (need (not (M.damaged_fully m)) 5 (seen_by m k (path M m k))))

  -- What remove leaves: the found slot freed, else all as it was.
  unfoldable pub removed_by : M.State → Or (Seen W) → M.State
  removed_by m (no n) = m
  removed_by m (ok (found v s e)) = M.free m s
  removed_by m (ok (absent e)) = m

  -- The memory after remove.
  unfoldable pub after_remove : M.State → K → M.State
  after_remove m k = removed_by m (remove m k)

  -- What an accepted call writes; a refused one leaves the memory as it was.
  unfoldable pub acted : {A : Type 0} → M.State → Or A → M.State → M.State
  acted m (no n) x = m
  acted m (ok a) x = x

  -- capacity is S; like make and clear it examines no slot.
  unfoldable pub capacity : M.State → Or ℕ
  capacity m = need (M.sized m) 1 (ok (M.size m))

  -- The memory after make and clear: all marks, words and arena bytes 0.
  unfoldable pub after_make : M.State → M.State
  after_make m = acted m (capacity m) (M.wipe m)

  -- length, and so emptiness: the number of live slots, after every slot was examined.
  unfoldable pub length : M.State → Or ℕ
  length m = need (M.sized m) 1 (need (not (damaged_slots M m)) 5 (ok (live_count M m)))

  -- Damage found by examining every slot of a table.
  unfoldable pub any_damage : M.State → Bool
  any_damage m = cond (damaged_slots M m) true (M.damaged_fully m)

  -- reserve n b: room exactly when at least n slots are not live, and at least b arena bytes are not used.
  unfoldable pub reserve : M.State → ℕ → ℕ → Or (Unit {0})
  reserve m n b =
      need (M.sized m) 1 (need (not (any_damage m)) 5
      (need (leb n (M.size m - live_count M m)) 7 (need (leb b (M.bytes m - used M m)) 8 (ok tt))))

  -- copy from n onto m wants right and equal sizes, and examines nothing.
  unfoldable pub copy : M.State → M.State → Or (Unit {0})
  copy m n = need (M.sized m) 1 (need (M.sized n) 1 (need (eqb (M.size m) (M.size n)) 1 (need (eqb (M.bytes m) (M.bytes n)) 1 (ok tt))))

  -- The memory after copy: equal to its source in every slot and byte.
  unfoldable pub after_copy : M.State → M.State → M.State
  after_copy m n = acted m (copy m n) n

  -- The insert rule with no test: what insert does once nothing refuses it.
  unfoldable pub rule_by : M.State → K → W → Find W → M.State
  rule_by m k v (hit n w) = M.over m (slot_at M m k n) v
  rule_by m k v (miss e f) = cond (ltb f (M.size m)) (M.fill m (slot_at M m k f) k v) m
  rule_by m k v damage = m

  -- The insert rule by the key's path.
  unfoldable pub rule : M.State → K → W → M.State
  rule m k v = rule_by m k v (path M m k)

  -- The insert rule for each pair of a list, in its order.
  unfoldable pub store_all : M.State → List (K × W) → M.State
  store_all m [] = m
  store_all m (p ∷ ps) = store_all (rule m p.0 p.1) ps

  -- Whether a path ended without the key.
  unfoldable pub missed : Find W → Bool
  missed (hit n v) = false
  missed (miss e f) = true
  missed damage = true

  -- Whether a key is absent by its path.
  unfoldable pub lacking : M.State → K → Bool
  lacking m k = missed (path M m k)

  -- What union needs: the weights of the right's live slots whose key is absent by its path in the left.
  unfoldable pub needs : (K → ℕ) → M.State → M.State → ℕ
  needs g l r = total (λ k. cond (lacking l k) (g k) 0) (M.slots r) (M.size r)

  -- union examines every slot of both before storing, may refuse a key that the right carries, and needs slots and bytes for the keys that the left lacks.
  unfoldable pub union : M.State → M.State → Or (Unit {0})
  union l r =
      need (M.sized l) 1 (need (M.sized r) 1
      (need (not (any_damage l)) 5 (need (not (any_damage r)) 5
      (pass (M.carried r)
      (need (leb (needs (λ k. 1) l r) (M.size l - live_count M l)) 7
      (need (leb (needs M.weight l r) (M.bytes l - used M l)) 8 (ok tt)))))))

  -- The right's pairs go in by the right's slot order.
  unfoldable pub after_union : M.State → M.State → M.State
  after_union l r = acted l (union l r) (store_all l (pairs (M.slots r) (M.size r)))

  -- An occupied handle is good exactly when its slot is live and holds the key now.
  unfoldable pub held_on : K → Slot K W → Or W
  held_on k never = no 6
  held_on k freed = no 6
  held_on k damaged = no 5
  held_on k (live a v) = need (M.keys.same k a) 6 (ok v)

  -- An occupied handle examines its slot, none if it is S or above.
  unfoldable pub held_at : M.State → ℕ → K → Or W
  held_at m s k = need (ltb s (M.size m)) 6 (held_on k (M.slots m s))

  -- An occupied handle's get, and its set's answer: the value in the slot.
  unfoldable pub occupied_get : M.State → ℕ → K → Or W
  occupied_get m s k = need (M.sized m) 1 (pass (M.asked k) (held_at m s k))

  -- The memory after an occupied handle's set: the value in its slot changed.
  unfoldable pub after_set : M.State → ℕ → K → W → M.State
  after_set m s k v = acted m (occupied_get m s k) (M.over m s v)

  -- An occupied handle's remove: the value that was in the slot.
  unfoldable pub occupied_remove : M.State → ℕ → K → Or W
  occupied_remove m s k = need (M.sized m) 1 (pass (M.asked k) (need (not (M.damaged_fully m)) 5 (held_at m s k)))

  -- The memory after an occupied handle's remove: its slot freed.
  unfoldable pub after_drop : M.State → ℕ → K → M.State
  after_drop m s k = acted m (occupied_remove m s k) (M.free m s)

  -- A vacant handle is good exactly when the key is absent and insert would use that slot without refusing.
  unfoldable pub good_for : ℕ → Or (Spot W) → Or (Unit {0})
  good_for s (no n) = no (cond (eqb n 5) 5 6)
  good_for s (ok (occupied x w e)) = no 6
  good_for s (ok (vacant x e)) = need (eqb s x) 6 (ok tt)

  -- A vacant handle's tests, in order; it examines the path, as insert does.
  unfoldable pub vacancy : M.State → ℕ → K → Or (Unit {0})
  vacancy m s k = need (M.sized m) 1 (pass (M.kept k) (need (not (M.damaged_fully m)) 5 (good_for s (spot_by m k (path M m k)))))

  -- A vacant handle's insert answers the value that is now in the slot.
  unfoldable pub vacant_insert : M.State → ℕ → K → W → Or W
  vacant_insert m s k v = give v (vacancy m s k)

  -- The memory after a vacant handle's insert: its slot taken by the key.
  unfoldable pub after_fill : M.State → ℕ → K → W → M.State
  after_fill m s k v = acted m (vacancy m s k) (M.fill m s k v)

  -- or_insert keeps a present value, and answers the value that is now in the slot.
  unfoldable pub or_insert : M.State → Handle → K → W → Or W
  or_insert m (on_occupied s) k v = occupied_get m s k
  or_insert m (on_vacant s) k v = vacant_insert m s k v

  -- The memory after or_insert.
  unfoldable pub after_or_insert : M.State → Handle → K → W → M.State
  after_or_insert m (on_occupied s) k v = m
  after_or_insert m (on_vacant s) k v = after_fill m s k v

  -- insert_entry replaces a present value, and answers the value that is now in the slot.
  unfoldable pub insert_entry : M.State → Handle → K → W → Or W
  insert_entry m (on_occupied s) k v = give v (occupied_get m s k)
  insert_entry m (on_vacant s) k v = vacant_insert m s k v

  -- The memory after insert_entry.
  unfoldable pub after_insert_entry : M.State → Handle → K → W → M.State
  after_insert_entry m (on_occupied s) k v = after_set m s k v
  after_insert_entry m (on_vacant s) k v = after_fill m s k v
