-- Each write keeps a sound memory sound and changes its map as it should; the path of a sound memory is decided by its map.
use Prim.Native.Nat.{ℕ, ◌+◌, ◌≤◌, ◌<◌}
use mathlib.Core.Bool.{true, false}
use mathlib.Core.Path.{◌≡◌, refl, sym, ◌∙◌, ap}
use mathlib.Core.Option.{Option, none, some}
use native.Mathlib.Omega.{arith}
use Rattle.model.specs.Slots.{freed, live, Table, Keys, put, made, holds, total, count, look}
use Rattle.model.specs.Path.{hit, miss, at, free_at}
use Rattle.model.specs.Sound.{SoundSlots}
use Rattle.model.specs.Finite.{Finite, is_some, contains, Proper, mass, empty, insert, remove}
use Rattle.model.specs.Store.{Store, path, slot_at, path_length, live_count, used, damaged_slots}
use Rattle.model.specs.Lawful.{Wrote, Lawful, SoundTable, Shows}
use Rattle.model.proofs.Cases.{by_lt}
use Rattle.model.proofs.Slots.{look_none, count_high, damaged_not}
use Rattle.model.proofs.Path.{at_below, hit_at, free_here}
use Rattle.model.proofs.Sound.{made_sound, sound_found, sound_miss, fresh_sound, replaced_sound, removed_sound, no_free_full, full_no_free}
use Rattle.model.proofs.Change.{fresh_look, replaced_look, removed_look}
use Rattle.model.proofs.Finite.{empty_proper, insert_proper, remove_proper, total_mass}

made_look : {K W : Type 0} (E : Keys K) (S : ℕ) (k : K) → look {W = W} E made S k ≡ none
unfolding made holds
made_look E S k = look_none E k made S (λ i l. refl)

module _ {K W : Type 0} (M : Store K W) (L : Lawful M) where
  pub home_below : (m : M.State) → SoundTable M m → (k : K) → M.home m k < M.size m
  home_below m h k = L.homes m k h.sized

  -- a write that leaves sound slots leaves a sound memory
  wrote_healthy : (m n : M.State) (t : Table K W) → M.sized m ≡ true → Wrote M M.good m n t → SoundSlots (M.size m) (M.home m) t → SoundTable M n
  wrote_healthy m n t z w s = record {
    sized = w.sized ∙ z;
    good = w.good;
    sound = rw (w.slots, w.size, w.home) s;
  }

  wrote_shows : (m n : M.State) (t : Table K W) (f : Finite K W) → M.sized m ≡ true → Wrote M M.good m n t → SoundSlots (M.size m) (M.home m) t → ((k : K) → look M.keys t (M.size m) k ≡ f.look k) → Proper M.keys f → Shows M n f
  wrote_shows m n t f z w s e p = record {
    sound_table = wrote_healthy m n t z w s;
    looks = λ k. rw (w.slots, w.size) (e k);
    proper = p;
  }

  pub shows_wipe : (m : M.State) → M.sized m ≡ true → Shows M (M.wipe m) empty
  unfolding empty
  shows_wipe m z = wrote_shows m (M.wipe m) made empty z (L.wipe_wrote m z) (made_sound (M.size m) (M.home m)) (λ k. made_look M.keys (M.size m) k) (empty_proper M.keys)

  module _ (m : M.State) (f : Finite K W) (s : Shows M m f) where
    -- the weights of the live keys are those of the map's keys
    pub shows_total : (g : K → ℕ) → total g (M.slots m) (M.size m) ≡ mass g f.dom
    unfolding contains
    shows_total g = total_mass g M.keys (M.size m) f.dom (M.slots m) s.sound_table.sound.once s.proper.once (λ k. s.proper.listed k ∙ ap (λ o. is_some o) (sym (s.looks k)))

    pub shows_over : (i : ℕ) (k : K) (v w : W) → i < M.size m → M.slots m i ≡ live k w → Shows M (M.over m i v) (insert M.keys f k v)
    unfolding insert
    shows_over i k v w l e = wrote_shows m (M.over m i v) (put (M.slots m) i (live k v)) (insert M.keys f k v) s.sound_table.sized
        (L.over_wrote m i k v w s.sound_table.sized s.sound_table.good l e)
        (replaced_sound M.keys (M.size m) (M.home m) (home_below m s.sound_table) (M.slots m) s.sound_table.sound k i v w l e)
        (λ a. rw (replaced_look M.keys (M.size m) (M.home m) (home_below m s.sound_table) (M.slots m) s.sound_table.sound k i v w l e a, s.looks a))
        (insert_proper M.keys f k v s.proper)

    pub shows_free : (i : ℕ) (k : K) (w : W) → i < M.size m → M.slots m i ≡ live k w → Shows M (M.free m i) (remove M.keys f k)
    unfolding remove
    shows_free i k w l e = wrote_shows m (M.free m i) (put (M.slots m) i freed) (remove M.keys f k) s.sound_table.sized
        (L.free_wrote m i k w s.sound_table.sized s.sound_table.good l e)
        (removed_sound M.keys (M.size m) (M.home m) (home_below m s.sound_table) (M.slots m) s.sound_table.sound k i l)
        (λ a. rw (removed_look M.keys (M.size m) (M.slots m) s.sound_table.sound.once k i w l e a, s.looks a))
        (remove_proper M.keys f k s.proper)

    pub shows_fill : (k : K) (v : W) → f.look k ≡ none → free_at (M.size m) (M.home m k) (M.slots m) < M.size m → used M m + M.weight k ≤ M.bytes m → Shows M (M.fill m (slot_at M m k (free_at (M.size m) (M.home m k) (M.slots m))) k v) (insert M.keys f k v)
    unfolding insert slot_at
    shows_fill k v e l u =
        let i : ℕ = at (M.size m) (M.home m k) (free_at (M.size m) (M.home m k) (M.slots m)) in
        wrote_shows m (M.fill m i k v) (put (M.slots m) i (live k v)) (insert M.keys f k v) s.sound_table.sized
        (L.fill_wrote m i k v s.sound_table.sized s.sound_table.good (at_below (M.size m) (M.home m k) (free_at (M.size m) (M.home m k) (M.slots m)) (home_below m s.sound_table k) l) (free_here (M.size m) (M.home m k) (M.slots m) l) u)
        (fresh_sound M.keys (M.size m) (M.home m) (home_below m s.sound_table) (M.slots m) s.sound_table.sound k v (s.looks k ∙ e) l)
        (λ a. rw (fresh_look M.keys (M.size m) (M.home m) (home_below m s.sound_table) (M.slots m) s.sound_table.sound k v (s.looks k ∙ e) l a, s.looks a))
        (insert_proper M.keys f k v s.proper)

    -- the path is decided by the map
    pub data PathOf (k : K) : Type 0 where
      here : (n : ℕ) (v : W) → path M m k ≡ hit n v → f.look k ≡ some v → slot_at M m k n < M.size m → M.slots m (slot_at M m k n) ≡ live k v → PathOf k
      gone : path M m k ≡ miss (path_length M m k) (free_at (M.size m) (M.home m k) (M.slots m)) → f.look k ≡ none → PathOf k

    pub path_of_law : (k : K) → PathOf k
    unfolding path slot_at path_length
    path_of_law k = go (f.look k) refl
      where
        go : (o : Option W) → f.look k ≡ o → PathOf k
        go none e = gone (sound_miss M.keys (M.size m) (M.home m) (home_below m s.sound_table) (M.slots m) s.sound_table.sound k (s.looks k ∙ e)) e
        go (some v) e =
            let (n, q) = sound_found M.keys (M.size m) (M.home m) (home_below m s.sound_table) (M.slots m) s.sound_table.sound k v (s.looks k ∙ e) in
            let (l, p) = hit_at M.keys (M.size m) (M.home m k) (M.slots m) k n v q in
            here n v q e (at_below (M.size m) (M.home m k) n (home_below m s.sound_table k) l) p

    -- an absent key has a free slot on its path exactly when some slot is not live
    pub free_room : (k : K) → f.look k ≡ none → free_at (M.size m) (M.home m k) (M.slots m) < M.size m → live_count M m < M.size m
    unfolding live_count
    free_room k e l = by_lt (count (M.slots m) (M.size m)) (M.size m) (λ c x. c)
        (λ c x. let q = full_no_free M.keys (M.size m) (M.home m k) (home_below m s.sound_table k) (M.slots m) k (omega (arith, count_high (M.slots m) (M.size m))) in
        let z : ⊥ = omega arith in absurd z)

    pub room_free : (k : K) → path M m k ≡ miss (path_length M m k) (free_at (M.size m) (M.home m k) (M.slots m)) → live_count M m < M.size m → free_at (M.size m) (M.home m k) (M.slots m) < M.size m
    unfolding path live_count
    room_free k q c = by_lt (free_at (M.size m) (M.home m k) (M.slots m)) (M.size m) (λ l x. l)
        (λ l x. let e = no_free_full M.keys (M.size m) (M.home m k) (home_below m s.sound_table k) (M.slots m) k (path_length M m k) (free_at (M.size m) (M.home m k) (M.slots m)) q l in
        let z : ⊥ = omega arith in absurd z)

    pub shows_unhurt : damaged_slots M m ≡ false
    unfolding damaged_slots
    shows_unhurt = damaged_not (M.slots m) (M.size m) s.sound_table.sound.whole

    pub shows_unharmed : M.damaged_fully m ≡ false
    shows_unharmed = L.unharmed m s.sound_table.sized s.sound_table.good s.sound_table.sound
