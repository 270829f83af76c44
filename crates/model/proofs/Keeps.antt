-- On a sound memory each call on one table leaves a sound memory with the map that the call names, or the same memory where it is refused.
use Prim.Native.Nat.{ℕ, ◌<◌}
use mathlib.Core.Bool.{Bool, true, false, cond}
use mathlib.Core.Path.{◌≡◌, refl, sym, ◌∙◌, ap}
use mathlib.Core.Option.{none}
use native.Mathlib.Omega.{arith}
use Rattle.model.specs.Slots.{live}
use Rattle.model.specs.Path.{hit, miss, free_at}
use Rattle.model.specs.Finite.{Finite, Proper, empty, insert, remove}
use Rattle.model.specs.Store.{Store, path, slot_at}
use Rattle.model.specs.Calls.{Or, no, ok, give, Seen, found, absent, Spot, occupied, vacant, on_occupied, on_vacant, spot_by, entry, stored_by, after_insert, put_spot, after_put, removed_by, after_remove, acted, capacity, after_make, occupied_get, after_set, occupied_remove, after_drop, vacancy, vacant_insert, after_fill, or_insert, after_or_insert, insert_entry, after_insert_entry}
use Rattle.model.specs.Calls
use Rattle.model.specs.Machine.{Own, makes, clears, capacities, lens, empties, reserves, gets, contains_keys, removes, entries, inserts, puts, occupied_gets, occupied_removes, occupied_sets, vacant_inserts, or_inserts, insert_entries, Answer, fine, seen, spot, value, report, tells, leaves}
use Rattle.model.specs.Demand2.{refuses, grows, renews}
use Rattle.model.specs.Lawful.{Lawful, Shows}
use Rattle.model.proofs.Cases.{by_same}
use Rattle.model.proofs.Path.{miss_free, hit_at, at_below}
use Rattle.model.proofs.Sound.{sound_gone}
use Rattle.model.proofs.Finite.{remove_proper}
use Rattle.model.proofs.Shows.{home_below, shows_wipe, shows_over, shows_free, shows_fill}
use Rattle.model.proofs.Accepted.{seen_found, seen_absent, spot_occupied, spot_vacant, grip_live, good_vacant, entry_spot, put_taken, remove_seen, occupied_grip, removed_grip, vacancy_good}

module _ {K W : Type 0} (M : Store K W) where
  refuses_give : {A : Type 0} (v : W) (x : Or A) (say : A → Answer K W) → ((a : A) → refuses (say a) ≡ false) → refuses (report {K = K} value (give v x)) ≡ refuses (report say x)
  unfolding give report refuses
  refuses_give v (no n) say e = refl
  refuses_give v (ok a) say e = sym (e a)

  -- a call makes the table anew, or it is none of those that do
  pub by_renews : {A : Type 0} (m : M.State) (c : Own K W) → (renews M c ≡ false → A) → (renews M c ≡ true → leaves M m c ≡ after_make M m → tells M m c ≡ report (λ n. fine) (capacity M m) → A) → A
  unfolding renews leaves tells
  by_renews m makes other anew = anew refl refl refl
  by_renews m clears other anew = anew refl refl refl
  by_renews m capacities other anew = other refl
  by_renews m lens other anew = other refl
  by_renews m empties other anew = other refl
  by_renews m (reserves n b) other anew = other refl
  by_renews m (gets k) other anew = other refl
  by_renews m (contains_keys k) other anew = other refl
  by_renews m (removes k) other anew = other refl
  by_renews m (entries k) other anew = other refl
  by_renews m (inserts k v) other anew = other refl
  by_renews m (puts k v) other anew = other refl
  by_renews m (occupied_gets s k) other anew = other refl
  by_renews m (occupied_removes s k) other anew = other refl
  by_renews m (occupied_sets s k v) other anew = other refl
  by_renews m (vacant_inserts s k v) other anew = other refl
  by_renews m (or_inserts h k v) other anew = other refl
  by_renews m (insert_entries h k v) other anew = other refl

  -- where a key stands, or would go
  pub path_live : (m : M.State) (k : K) (n : ℕ) (v : W) → M.home m k < M.size m → path M m k ≡ hit n v → (slot_at M m k n < M.size m) × (M.slots m (slot_at M m k n) ≡ live k v)
  unfolding path slot_at
  path_live m k n v h e = let (l, q) = hit_at M.keys (M.size m) (M.home m k) (M.slots m) k n v e in (at_below (M.size m) (M.home m k) n h l, q)

  pub path_free : (m : M.State) (k : K) (e f : ℕ) → path M m k ≡ miss e f → f ≡ free_at (M.size m) (M.home m k) (M.slots m)
  unfolding path
  path_free m k e f q = miss_free M.keys (M.size m) (M.home m k) (M.slots m) k e f q

  -- maps that look up alike are shown alike
  pub shows_same : {m : M.State} (f g : Finite K W) → Shows M m f → ((k : K) → f.look k ≡ g.look k) → Proper M.keys g → Shows M m g
  shows_same f g s e p = record { sound_table = s.sound_table; looks = λ k. s.looks k ∙ e k; proper = p }

  module _ (L : Lawful M) (m : M.State) (f : Finite K W) (s : Shows M m f) where
    -- an accepted call's map, the old one where it is refused
    acted_shows : {A : Type 0} (x : Or A) (say : A → Answer K W) (y : M.State) (g : Finite K W) → ((a : A) → refuses (say a) ≡ false) → ((a : A) → x ≡ ok a → Shows M y g) → Shows M (acted M m x y) (cond (refuses (report say x)) f g)
    unfolding acted report refuses
    acted_shows (no n) say y g e h = s
    acted_shows (ok a) say y g e h = rw (e a) (h a refl)

    path_gone : (k : K) (e x : ℕ) → path M m k ≡ miss e x → f.look k ≡ none
    unfolding path
    path_gone k e x q = sym (s.looks k) ∙ sound_gone M.keys (M.size m) (M.home m) (home_below M L m s.sound_table) (M.slots m) s.sound_table.sound k e x q

    pub filled_shows : (i e : ℕ) (k : K) (v : W) → spot_by M m k (path M m k) ≡ ok (vacant i e) → Shows M (M.fill m i k v) (insert M.keys f k v)
    filled_shows i e k v q =
        let (x, p, r, l, u) = spot_vacant M m k i e q in
        let y : x ≡ free_at (M.size m) (M.home m k) (M.slots m) = path_free m k e x p in
        let z : i ≡ slot_at M m k (free_at (M.size m) (M.home m k) (M.slots m)) = r ∙ ap (λ n. slot_at M m k n) y in
        rw z (shows_fill M L m f s k v (path_gone k e x p) (omega arith) (omega (arith, L.within m s.sound_table.sized s.sound_table.good)))

    -- insert's rule, where the path's own answer was accepted
    stored_shows : (k : K) (v : W) (r : Or (Spot W)) → ((x : Spot W) → r ≡ ok x → spot_by M m k (path M m k) ≡ ok x) → Shows M (stored_by M m k v r) (cond (refuses (report {K = K} spot r)) f (insert M.keys f k v))
    unfolding report refuses stored_by
    stored_shows k v (no n) e = s
    stored_shows k v (ok (occupied i w x)) e =
        let (n, p, q, t) = spot_occupied M m k w i x (e (occupied i w x) refl) in
        let (l, c) = path_live m k n w (home_below M L m s.sound_table k) p in
        rw q (shows_over M L m f s (slot_at M m k n) k v w l c)
    stored_shows k v (ok (vacant i x)) e = filled_shows i x k v (e (vacant i x) refl)

    pub insert_shows : (k : K) (v : W) → Shows M (after_insert M m k v) (cond (refuses (report {K = K} spot (entry M m k))) f (insert M.keys f k v))
    unfolding after_insert
    insert_shows k v = stored_shows k v (entry M m k) (entry_spot M m k)

    put_shows : (k : K) (v : W) → Shows M (after_put M m k v) (cond (refuses (report {K = K} spot (put_spot M m k))) f (insert M.keys f k v))
    unfolding after_put
    put_shows k v = stored_shows k v (put_spot M m k) (put_taken M m k)

    pub remove_shows : (k : K) → Shows M (after_remove M m k) (cond (refuses (report {K = K} seen (Calls.remove M m k))) f (remove M.keys f k))
    unfolding after_remove report refuses removed_by Calls.remove remove
    remove_shows k = go (Calls.remove M m k) refl
      where
        go : (r : Or (Seen W)) → Calls.remove M m k ≡ r → Shows M (removed_by M m r) (cond (refuses (report {K = K} seen r)) f (remove M.keys f k))
        go (no n) e = s
        go (ok (found w i x)) e =
            let (n, p, q, t) = seen_found M m k w i x (remove_seen M m k (found w i x) e) in
            let (l, c) = path_live m k n w (home_below M L m s.sound_table k) p in
            rw q (shows_free M L m f s (slot_at M m k n) k w l c)
        go (ok (absent x)) e =
            let (y, p) = seen_absent M m k x (remove_seen M m k (absent x) e) in
            shows_same f (remove M.keys f k) s (λ a. by_same M.keys a k (λ q t. rw (t, q) (path_gone k x y p)) (λ t. rw t)) (remove_proper M.keys f k s.proper)

    pub set_shows : (i : ℕ) (k : K) (v w : W) → occupied_get M m i k ≡ ok w → Shows M (M.over m i v) (insert M.keys f k v)
    set_shows i k v w e = let (l, c) = grip_live M m k i w (occupied_grip M m k i w e) in shows_over M L m f s i k v w l c

    pub drop_shows : (i : ℕ) (k : K) (w : W) → occupied_remove M m i k ≡ ok w → Shows M (M.free m i) (remove M.keys f k)
    drop_shows i k w e = let (l, c) = grip_live M m k i w (removed_grip M m k i w e) in shows_free M L m f s i k w l c

    pub vacancy_shows : (i : ℕ) (k : K) (v : W) (u : Unit {0}) → vacancy M m i k ≡ ok u → Shows M (M.fill m i k v) (insert M.keys f k v)
    vacancy_shows i k v u e = let (x, q) = good_vacant M m k i u (vacancy_good M m k i u e) in filled_shows i x k v q

    fill_shows : (i : ℕ) (k : K) (v : W) → Shows M (after_fill M m i k v) (cond (refuses (report {K = K} value (vacant_insert M m i k v))) f (insert M.keys f k v))
    unfolding after_fill vacant_insert refuses
    fill_shows i k v = rw (refuses_give v (vacancy M m i k) (λ u. fine) (λ a. refl)) (acted_shows (vacancy M m i k) (λ u. fine) (M.fill m i k v) (insert M.keys f k v) (λ a. refl) (λ u e. vacancy_shows i k v u e))

    kept_shows : (b : Bool) → Shows M m (cond b f f)
    kept_shows true = s
    kept_shows false = s

    -- every call on one table leaves the map that it names, unless refused
    pub own_shows : (c : Own K W) → Shows M (leaves M m c) (cond (refuses (tells M m c)) f (grows M c f))
    unfolding leaves tells grows refuses after_make after_set after_drop or_insert after_or_insert insert_entry after_insert_entry
    own_shows makes = acted_shows (capacity M m) (λ n. fine) (M.wipe m) empty (λ a. refl) (λ a e. shows_wipe M L m s.sound_table.sized)
    own_shows clears = acted_shows (capacity M m) (λ n. fine) (M.wipe m) empty (λ a. refl) (λ a e. shows_wipe M L m s.sound_table.sized)
    own_shows capacities = kept_shows (refuses (tells M m capacities))
    own_shows lens = kept_shows (refuses (tells M m lens))
    own_shows empties = kept_shows (refuses (tells M m empties))
    own_shows (reserves n b) = kept_shows (refuses (tells M m (reserves n b)))
    own_shows (gets k) = kept_shows (refuses (tells M m (gets k)))
    own_shows (contains_keys k) = kept_shows (refuses (tells M m (contains_keys k)))
    own_shows (removes k) = remove_shows k
    own_shows (entries k) = kept_shows (refuses (tells M m (entries k)))
    own_shows (inserts k v) = insert_shows k v
    own_shows (puts k v) = put_shows k v
    own_shows (occupied_gets i k) = kept_shows (refuses (tells M m (occupied_gets i k)))
    own_shows (occupied_removes i k) = acted_shows (occupied_remove M m i k) value (M.free m i) (remove M.keys f k) (λ a. refl) (λ a e. drop_shows i k a e)
    own_shows (occupied_sets i k v) = acted_shows (occupied_get M m i k) value (M.over m i v) (insert M.keys f k v) (λ a. refl) (λ a e. set_shows i k v a e)
    own_shows (vacant_inserts i k v) = fill_shows i k v
    own_shows (or_inserts (on_occupied i) k v) = kept_shows (refuses (tells M m (or_inserts (on_occupied i) k v)))
    own_shows (or_inserts (on_vacant i) k v) = fill_shows i k v
    own_shows (insert_entries (on_occupied i) k v) = rw (refuses_give v (occupied_get M m i k) value (λ a. refl)) (acted_shows (occupied_get M m i k) value (M.over m i v) (insert M.keys f k v) (λ a. refl) (λ a e. set_shows i k v a e))
    own_shows (insert_entries (on_vacant i) k v) = fill_shows i k v
