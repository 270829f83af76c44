-- Reserve's promise, by what calls tell: on a table whose map is known the inserts go one by one, each by the map as it then is.
use Prim.Native.Nat.{ℕ, ◌+◌, ◌-◌, ◌≤◌}
use mathlib.Core.Bool.{Bool, true, false}
use mathlib.Core.List.{List, [], ◌∷◌}
use mathlib.Core.Option.{none}
use mathlib.Core.Path.{◌≡◌, refl, sym, ◌∙◌, ap, subst}
use native.Mathlib.Omega.{arith}
use borrow.Author.Tests.{leb-true, leb-false}
use lib.Dec.{leb}
use Rattle.model.specs.Finite.{Finite, is_some, member, mass, len, Once, once_more, insert as insert-in}
use Rattle.model.specs.Machine.{World}
use Rattle.model.specs.Store.{Store, live_count, used}
use Rattle.model.specs.Calls.{Or, no, ok, need, Seen, found, absent, Spot, occupied, vacant, get, entry, after_insert, any_damage, reserve}
use Rattle.model.specs.Demand1.{AnyDamage}
use Rattle.model.specs.Lawful.{Lawful, Shows}
use Rattle.model.proofs.Cases.{by_bool, by_same, clash}
use Rattle.model.proofs.Demand1.{ruined_is}
use Rattle.model.proofs.Exact.{len_high, used_high, reserve_is}
use Rattle.model.proofs.Finite.{some_is}
use Rattle.model.proofs.Fresh.{fits_fresh, fresh_mass, fresh_shows}
use Rattle.model.proofs.Laws.{get_absent_map}
use Rattle.answers.specs.Cases.{ROOM, ABSENT, FRESH}
use Rattle.answers.specs.Said.{room_said}
use Rattle.answers.specs.declared.Numbers.{Numbers}
use Rattle.kinds.specs.Owed.{only}
use Rattle.kinds.specs.Published.{Published, Linked, unknown, after_calls}
use Rattle.kinds.specs.Reserving.{RoomTold, KeyCalls, Turn, keys_of, called_at, left_by, Undisturbed, AllFresh, Reserves}
use Rattle.kinds.proofs.Published.{noted_all_right}

-- what the two tests tell
pub room_told : (slots bytes n b : ℕ) → RoomTold slots bytes n b (room_said (need (leb n slots) 7 (need (leb b bytes) 8 (ok (tt {0})))))
unfolding need room_said
room_told slots bytes n b = by_bool (leb n slots)
    (λ s. by_bool (leb b bytes)
    (λ t. rw (s, t) (record {
      room = ((λ e. (leb-true n slots s, leb-true b bytes t)), (λ e. refl));
      no_slots = ((λ e. absurd (omega (arith, ap (λ a. a.refusal) e))), (λ l. absurd (omega (arith, leb-true n slots s))));
      no_bytes = ((λ e. absurd (omega (arith, ap (λ a. a.refusal) e))), (λ l. absurd (omega (arith, l.1, leb-true b bytes t))));
    }))
    (λ t. rw (s, t) (record {
      room = ((λ e. absurd (omega (arith, ap (λ a. a.refusal) e))), (λ l. absurd (omega (arith, l.1, leb-false b bytes t))));
      no_slots = ((λ e. absurd (omega (arith, ap (λ a. a.refusal) e))), (λ l. absurd (omega (arith, leb-true n slots s))));
      no_bytes = ((λ e. (leb-true n slots s, leb-false b bytes t)), (λ l. refl));
    })))
    (λ s. rw s (record {
      room = ((λ e. absurd (omega (arith, ap (λ a. a.refusal) e))), (λ l. absurd (omega (arith, l.0, leb-false n slots s))));
      no_slots = ((λ e. leb-false n slots s), (λ l. refl));
      no_bytes = ((λ e. absurd (omega (arith, ap (λ a. a.refusal) e))), (λ l. absurd (omega (arith, l.0, leb-false n slots s))));
    }))

-- a told room is that case and nothing else
room_only : (o : Or (Unit {0})) → (room_said o).case ≡ ROOM → room_said o ≡ only ROOM
unfolding room_said
room_only (no i) e = absurd (omega arith)
room_only (ok y) e = refl

-- on any memory of right sizes without damage
pub reserve_told : {K W : Type 0} (M : Store K W) (m : M.State) → M.sized m ≡ true → (AnyDamage M m → ⊥) → (n b : ℕ) → RoomTold (M.size m - live_count M m) (M.bytes m - used M m) n b (room_said (reserve M m n b))
unfolding reserve need
reserve_told M m z h n b =
    let d : any_damage M m ≡ false = by_bool (any_damage M m) (λ e. absurd (h (ruined_is M m e))) (λ e. e) in
    rw (z, d) (room_told (M.size m - live_count M m) (M.bytes m - used M m) n b)

-- a told fresh is a vacant slot, for the function that tells a kind's inserts
pub fresh_said : {W : Type 0} (said : Or (Spot W) → Numbers) → ((n : ℕ) → (said (no n)).case ≡ 0) → ((i : ℕ) (v : W) (e : ℕ) → (said (ok (occupied i v e))).case ≡ FRESH → ⊥) → (o : Or (Spot W)) → (said o).case ≡ FRESH → (i : ℕ) × (e : ℕ) × (o ≡ ok (vacant i e))
fresh_said said z h (no n) q = absurd (omega (arith, z n))
fresh_said said z h (ok (occupied i v e)) q = absurd (h i v e q)
fresh_said said z h (ok (vacant i e)) q = (i, e, refl)

-- and a told absent is one, for the function that tells a kind's contains
pub absent_said : {W : Type 0} (said : Or (Seen W) → Numbers) → ((n : ℕ) → (said (no n)).case ≡ 0) → ((v : W) (i e : ℕ) → (said (ok (found v i e))).case ≡ ABSENT → ⊥) → (o : Or (Seen W)) → (said o).case ≡ ABSENT → (e : ℕ) × (o ≡ ok (absent e))
absent_said said z h (no n) q = absurd (omega (arith, z n))
absent_said said z h (ok (found v i e)) q = absurd (h v i e q)
absent_said said z h (ok (absent e)) q = (e, refl)

-- What a kind's insert and contains tell and leave, by the theory.
pub record KeysTold {K W : Type 0} (M : Store K W) (P : Published M) (Q : KeyCalls M P) : Type 0 where
  pub fresh : (w : World M) (x : ℕ) (k : K) (v : W) (i e : ℕ) → entry M (w x) k ≡ ok (vacant i e) → (P.tells w x (Q.insert k v)).case ≡ FRESH
  pub free : (w : World M) (x : ℕ) (k : K) (v : W) → (P.tells w x (Q.insert k v)).case ≡ FRESH → (i : ℕ) × (e : ℕ) × (entry M (w x) k ≡ ok (vacant i e))
  pub leaves : (w : World M) (x : ℕ) (k : K) (v : W) → P.after w x (Q.insert k v) x ≡ after_insert M (w x) k v
  pub gone : (w : World M) (x : ℕ) (k : K) → (P.tells w x (Q.contains k)).case ≡ ABSENT → (e : ℕ) × (get M (w x) k ≡ ok (absent e))

-- one insert of a list, and what is left for the others
module _ {K W : Type 0} (M : Store K W) (P : Published M) (Q : KeyCalls M P) (T : KeysTold M P Q) (L : Lawful M) (x : ℕ) (w : World M) (t : Turn M P) (same : called_at M P Q x w t x ≡ w x) (f : Finite K W) (s : Shows M (w x) f) where
  shows_called : Shows M (called_at M P Q x w t x) f
  shows_called = subst (λ m. Shows M m f) (sym same) s

  left_is : left_by M P Q x w t x ≡ after_insert M (called_at M P Q x w t x) t.key t.value
  left_is = T.leaves (called_at M P Q x w t) x t.key t.value

  module _ (i e : ℕ) (q : entry M (called_at M P Q x w t x) t.key ≡ ok (vacant i e)) where
    shows_left : Shows M (left_by M P Q x w t x) (insert-in M.keys f t.key t.value)
    shows_left = rw left_is (fresh_shows M L (called_at M P Q x w t x) f shows_called t.key i e q t.value).0

    size_left : M.size (left_by M P Q x w t x) ≡ M.size (w x)
    size_left = rw left_is (fresh_shows M L (called_at M P Q x w t x) f shows_called t.key i e q t.value).1 ∙ ap M.size same

    bytes_left : M.bytes (left_by M P Q x w t x) ≡ M.bytes (w x)
    bytes_left = rw left_is (fresh_shows M L (called_at M P Q x w t x) f shows_called t.key i e q t.value).2 ∙ ap M.bytes same

    mass_left : (g : K → ℕ) → mass g (insert-in M.keys f t.key t.value).dom ≡ mass g f.dom + g t.key
    mass_left g = fresh_mass M L (called_at M P Q x w t x) f shows_called t.key i e q t.value g

-- a key of the rest is another than the first, and so is still absent
still_absent : {K W : Type 0} (M : Store K W) (f : Finite K W) (k : K) (v : W) (ks : List K) → member M.keys k ks ≡ false → (a : K) → member M.keys a ks ≡ true → f.look a ≡ none → (insert-in M.keys f k v).look a ≡ none
unfolding insert-in
still_absent M f k v ks n a y h = by_same M.keys a k
    (λ q e. let z : ◌≡◌ {A = Bool} true false = sym y ∙ ap (λ b. member M.keys b ks) q ∙ n in clash cc)
    (λ e. rw e h)

module _ {K W : Type 0} (M : Store K W) (P : Published M) (Q : KeyCalls M P) (T : KeysTold M P Q) (L : Lawful M) (x : ℕ) where
  -- different absent keys that may be stored, and that fit together, go in one after the other
  all_fresh : (ts : List (Turn M P)) (w : World M) (f : Finite K W) → Shows M (w x) f → Once M.keys (keys_of M P ts) → ((k : K) → member M.keys k (keys_of M P ts) ≡ true → (M.kept k ≡ 0) × (f.look k ≡ none)) → len f + mass (λ k. 1) (keys_of M P ts) ≤ M.size (w x) → mass M.weight f.dom + mass M.weight (keys_of M P ts) ≤ M.bytes (w x) → Undisturbed M P Q x w ts → AllFresh M P Q x w ts
  unfolding keys_of mass member len
  all_fresh [] w f s o h a b u = tt
  all_fresh (t ∷ ts) w f s (once_more n o) h a b (same, u) =
      let c = called_at M P Q x w t in
      let (y, z) = h t.key (rw (M.keys.self t.key)) in
      let (i, e, q) = fits_fresh M L (c x) f (shows_called M P Q T L x w t same f s) t.key y z (omega (arith, ap M.size same)) (omega (arith, ap M.bytes same)) in (
        T.fresh c x t.key t.value i e q,
        all_fresh ts (left_by M P Q x w t) (insert-in M.keys f t.key t.value) (shows_left M P Q T L x w t same f s i e q) o
            (λ k r. let (d, g) = h k (rest k r) in (d, still_absent M f t.key t.value (keys_of M P ts) n k r g))
            (omega (arith, size_left M P Q T L x w t same f s i e q, mass_left M P Q T L x w t same f s i e q (λ k. 1)))
            (omega (arith, bytes_left M P Q T L x w t same f s i e q, mass_left M P Q T L x w t same f s i e q M.weight)) u,
      )
    where
      rest : (k : K) → member M.keys k (keys_of M P ts) ≡ true → member M.keys k (t.key ∷ keys_of M P ts) ≡ true
      rest k r = by_bool (M.keys.same k t.key) (λ e. rw e) (λ e. rw e r)

  -- and keys that went in so, fit together
  all_fitted : (ts : List (Turn M P)) (w : World M) (f : Finite K W) → Shows M (w x) f → Undisturbed M P Q x w ts → AllFresh M P Q x w ts → (len f + mass (λ k. 1) (keys_of M P ts) ≤ M.size (w x)) × (mass M.weight f.dom + mass M.weight (keys_of M P ts) ≤ M.bytes (w x))
  unfolding keys_of mass len
  all_fitted [] w f s u r = (omega (arith, len_high M L (w x) f s), omega (arith, used_high M L (w x) f s))
  all_fitted (t ∷ ts) w f s (same, u) (p, r) =
      let (i, e, q) = T.free (called_at M P Q x w t) x t.key t.value p in
      let (a, b) = all_fitted ts (left_by M P Q x w t) (insert-in M.keys f t.key t.value) (shows_left M P Q T L x w t same f s i e q) u r in (
        omega (arith, a, size_left M P Q T L x w t same f s i e q, mass_left M P Q T L x w t same f s i e q (λ k. 1)),
        omega (arith, b, bytes_left M P Q T L x w t same f s i e q, mass_left M P Q T L x w t same f s i e q M.weight),
      )

  -- the promise, where the table's map is known after any published calls on any memory
  pub reserves_told : Linked M P → (cs : List (ℕ × P.Call)) (w : World M) → is_some ((after_calls M P cs w).maps x) ≡ true → (c : P.Call) (n b : ℕ) → P.tells (after_calls M P cs w).world x c ≡ room_said (reserve M ((after_calls M P cs w).world x) n b) → Reserves M P Q x (after_calls M P cs w).world c n b
  unfolding len
  reserves_told N cs w known c n b told =
      let (f, q) = some_is M.keys ((after_calls M P cs w).maps x) known in
      let v = (after_calls M P cs w).world in
      let s = noted_all_right M P N L cs (unknown M P w) (λ y g d. clash cc) x f q in
      let r : RoomTold (M.size (v x) - len f) (M.bytes (v x) - mass M.weight f.dom) n b (P.tells v x c) = rw (told, reserve_is M L (v x) f s n b) (room_told (M.size (v x) - len f) (M.bytes (v x) - mass M.weight f.dom) n b) in
      record {
        goes_in = λ e ts o h l m u.
            let (a, d) = r.room.0 (told ∙ room_only (reserve M (v x) n b) (ap (λ t. t.case) (sym told) ∙ e)) in
            all_fresh ts v f s o (λ k y. let (z, g) = h k y in let (i, j) = T.gone v x k g in (z, get_absent_map M L (v x) f s k i j)) (omega (arith, len_high M L (v x) f s)) (omega (arith, used_high M L (v x) f s)) u;
        went_in = λ ts u h l m.
            let (a, d) = all_fitted ts v f s u h in
            ap (λ t. t.case) (r.room.1 (omega arith, omega arith));
      }
