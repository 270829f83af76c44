-- Plain tables are a lawful store: so demands 2 and 3 hold for them.
use Prim.Native.Nat.{ℕ, ◌≤◌, ◌<◌}
use mathlib.Core.Path.{◌≡◌, refl, ap}
use native.Mathlib.Omega.{arith}
use borrow.Author.Tests.{ltb-true, lt-ltb, le-ltb}
use Rattle.model.specs.Slots.{Slot, never, freed, damaged, live, Table, Keys, put, made, frees, weigh, total}
use Rattle.model.specs.Store.{used}
use Rattle.model.specs.Finite.{mass, len, empty}
use Rattle.model.specs.Calls.{ok, need, found, get, after_insert, acted, capacity, after_make}
use Rattle.model.specs.Lawful.{Wrote, Lawful, Shows}
use Rattle.model.specs.Plain.{Plain, revalued, reslotted, plain}
use Rattle.model.proofs.Cases.{by_lt, clash}
use Rattle.model.proofs.Slots.{total_put}
use Rattle.model.proofs.Finite.{total_dead}
use Rattle.model.specs.Demand2.{EntryOf, is_occupied, is_vacant, is_full, is_tight}
use Rattle.model.proofs.Laws.{make_sound, entry_of, get_after_insert}

-- a value put over a slot that is not live changes nothing
pub revalued_dead : {K W : Type 0} (s : Slot K W) (v : W) → ((a : K) (w : W) → s ≡ live a w → ⊥) → revalued s v ≡ s
unfolding revalued
revalued_dead never v h = refl
revalued_dead freed v h = refl
revalued_dead damaged v h = refl
revalued_dead (live a w) v h = absurd (h a w refl)

module _ {K W : Type 0} (E : Keys K) (weight : K → ℕ) where
  -- new slots that fit are a write
  wrote : (m : Plain K W) (t : Table K W) → total weight t m.size ≤ m.bytes → Wrote (plain {W = W} E weight) (plain {W = W} E weight).good m (reslotted m t) t
  unfolding reslotted
  wrote m t l = record { slots = refl; size = refl; home = refl; bytes = refl; sized = refl; good = l }

  pub plain_lawful : Lawful (plain {W = W} E weight)
  unfolding used frees weigh revalued made reslotted
  plain_lawful = record {
    homes = λ m k e. by_lt (m.home k) m.size (λ l x. rw x l) (λ l x. rw x (ltb-true 0 m.size e));
    unharmed = λ m e g s. le-ltb m.bytes (total weight m.slots m.size) g;
    within = λ m e g. g;
    over_wrote = λ m i k v w e g l q. rw q (wrote m (put m.slots i (live k v)) (omega (arith, total_put weight m.slots i (live k v) m.size l, ap (λ s. weigh weight s) q)));
    fill_wrote = λ m i k v e g l q u. wrote m (put m.slots i (live k v)) (omega (arith, total_put weight m.slots i (live k v) m.size l));
    free_wrote = λ m i k w e g l q. wrote m (put m.slots i freed) (omega (arith, total_put weight m.slots i freed m.size l));
    wipe_wrote = λ m e. wrote m made (omega (arith, total_dead {W = W} weight made m.size (λ i l a v q. clash cc)));
    over_size = λ m i v. refl;
    fill_size = λ m i k v. refl;
    free_size = λ m i. refl;
    wipe_size = λ m. refl;
  }

  -- a made table has the sizes that it had
  made_sizes : (m : Plain K W) → 0 < m.size → ((after_make (plain E weight) m).size ≡ m.size) × ((after_make (plain E weight) m).bytes ≡ m.bytes)
  unfolding after_make capacity need acted reslotted
  made_sizes m l = rw (lt-ltb 0 m.size l) (refl, refl)

  -- the promises are not empty: a made plain table takes any key that fits the arena, and then finds it with its value
  pub plain_takes : (m : Plain K W) (k : K) (v : W) → 0 < m.size → weight k ≤ m.bytes → (i e : ℕ) × (get (plain E weight) (after_insert (plain E weight) (after_make (plain E weight) m) k v) k ≡ ok (found v i e))
  unfolding empty len mass
  plain_takes m k v l u = go (entry_of (plain E weight) plain_lawful made_one empty shown k refl)
    where
      made_one : Plain K W
      made_one = after_make (plain E weight) m

      shown : Shows (plain E weight) made_one empty
      shown = make_sound (plain E weight) plain_lawful m (lt-ltb 0 m.size l)

      go : EntryOf (plain E weight) made_one empty k → (i e : ℕ) × (get (plain E weight) (after_insert (plain E weight) made_one k v) k ≡ ok (found v i e))
      go (is_occupied i w e q r) = clash cc
      go (is_vacant i e c d r) = let (j, g) = get_after_insert (plain E weight) plain_lawful made_one empty shown k v _ r refl in (j, _, g)
      go (is_full e c r) = absurd (omega (arith, made_sizes m l))
      go (is_tight e c d r) = absurd (omega (arith, made_sizes m l))
