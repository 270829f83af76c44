-- What a byte table's slots, spans and `used` are after a key is put into a slot, a slot is freed, and all is wiped.
-- Each write changes one slot and leaves every other live slot its bytes, which it is asked for span by span (`Stays`); then the slots are changed there alone
-- (`changed`), `used` changes by that slot's weight, and sound spans stay sound.
use Rattle.std.proofs.Common.{ℕ, zero, suc, ◌+◌, ◌-◌, ◌≤◌, ◌<◌, true, false, ◌&&◌, List, [], ◌∷◌, ◌≡◌, refl, sym, ◌∙◌, ap, arith, le-leb, eqb, leb, length, get_or, length-set, get_or-set_same, get_or-set_other}
use mathlib.Core.Path.{fun_ext}
use lib.ListN.{length-replicate}
use Rattle.model.specs.Slots.{Slot, freed, live, Table, put, made, weigh, any_damaged}
use Rattle.model.proofs.Cases.{by_bool, by_eq, clash}
use Rattle.model.proofs.Slots.{by_put, total_put, damaged_not, damaged_bad}
use Rattle.model.proofs.Finite.{total_dead}
use Rattle.lists.proofs.Parts.{get_d_zeros}
use Rattle.byte_slots.specs.Memory.{Spans, part, end_at, key_at, spanned, slots_of, bare, used_of, full_damage, closed, fall, fallen, filled, emptied, wiped, Tiled, live_at, offset_of, length_of, SoundSpans}
use Rattle.byte_slots.proofs.Arena.{length_pasted, part_pasted, part_pasted_key, length_closed, part_closed_before, part_closed_behind}
use Rattle.byte_slots.proofs.Tiled.{Side, before, behind, side, Lowered, Extended, new, old, extended_end, close, extend, weighs}
use Rattle.byte_slots.proofs.Held.{live_below, spanned_same, slot_counts, unharmed_whole, unharmed_says, says_unharmed}

-- The lengths of the lent lists stay.
pub record SameSizes (s t : Spans) : Type 0 where
  pub marks : length t.marks ≡ length s.marks
  pub offsets : length t.offsets ≡ length s.offsets
  pub lengths : length t.lengths ≡ length s.lengths
  pub arena : length t.arena ≡ length s.arena

-- The slot j holds what it held.
pub record Stays (s t : Spans) (j : ℕ) : Type 0 where
  pub mark : get_or t.marks j 0 ≡ get_or s.marks j 0
  pub span : live_at s j → (leb (end_at t j) (length t.arena) ≡ leb (end_at s j) (length s.arena)) × (key_at t j ≡ key_at s j)

-- Where all slots but i hold what they held, the slots are changed at i alone.
pub changed : {W : Type 0} (s t : Spans) (read wrote : ℕ → W) (i : ℕ) (c : Slot (List ℕ) W) → slots_of t wrote i ≡ c → ((j : ℕ) → (j ≡ i → ⊥) → Stays s t j) → ((j : ℕ) → (j ≡ i → ⊥) → wrote j ≡ read j) → slots_of t wrote ≡ put (slots_of s read) i c
unfolding slots_of
changed s t read wrote i c here stays same = fun_ext (λ j. by_put (slots_of s read) i c j
    (λ q e. rw (e, q) here)
    (λ q e. rw (e, (stays j q).mark, same j q) (spanned_same (get_or s.marks j 0) (leb (end_at t j) (length t.arena)) (leb (end_at s j) (length s.arena)) (key_at t j) (key_at s j) (read j) (stays j q).span)))

-- `used` changes by the weight of the slot.
pub used_changed : (s t : Spans) (i : ℕ) (c : Slot (List ℕ) (Unit {0})) → bare t ≡ put (bare s) i c → length t.marks ≡ length s.marks → i < length s.marks → used_of t + weigh length (bare s i) ≡ used_of s + weigh length c
unfolding used_of
used_changed s t i c e n l = rw (e, n) (total_put length (bare s) i c (length s.marks) l)

-- A live slot does no damage.
damaged_put : {K W : Type 0} (t : Table K W) (n i : ℕ) (k : K) (v : W) → any_damaged t n ≡ false → any_damaged (put t i (live k v)) n ≡ false
damaged_put t n i k v e = damaged_not (put t i (live k v)) n (λ j l q. by_put t i (live k v) j
    (λ p r. clash cc)
    (λ p r. let y : true ≡ false = sym (damaged_bad t n j l (sym r ∙ q)) ∙ e in clash cc))

module _ (s : Spans) (i : ℕ) (k : List ℕ) (room : used_of s + length k ≤ length s.arena) where
  -- A key put into a slot keeps the sizes.
  pub fill_sizes : SameSizes s (filled s i k)
  unfolding filled
  fill_sizes = record {
    marks = length-set s.marks i 1;
    offsets = length-set s.offsets i (used_of s);
    lengths = length-set s.lengths i (length k);
    arena = length_pasted s.arena (used_of s) k room;
  }

  -- A live span that does not end beyond `used` stays.
  pub fill_stays : (j : ℕ) → (j ≡ i → ⊥) → (live_at s j → end_at s j ≤ used_of s) → Stays s (filled s i k) j
  unfolding filled end_at key_at
  fill_stays j d h = record {
    mark = get_or-set_other s.marks i j 1 0 d;
    span = λ a. rw (get_or-set_other s.offsets i j (used_of s) 0 d, get_or-set_other s.lengths i j (length k) 0 d, length_pasted s.arena (used_of s) k room)
        (refl, part_pasted s.arena (used_of s) k room (offset_of s j) (length_of s j) (h a));
  }

  module _ (a : i < length s.marks) (b : i < length s.offsets) (c : i < length s.lengths) (ends : (j : ℕ) → live_at s j → end_at s j ≤ used_of s) where
    fill_here : {W : Type 0} (wrote : ℕ → W) (v : W) → wrote i ≡ v → slots_of (filled s i k) wrote i ≡ live k v
    unfolding slots_of filled end_at key_at spanned
    fill_here wrote v e = rw (
      get_or-set_same s.marks i 1 0 a,
      get_or-set_same s.offsets i (used_of s) 0 b,
      get_or-set_same s.lengths i (length k) 0 c,
      length_pasted s.arena (used_of s) k room,
      part_pasted_key s.arena (used_of s) k room,
      le-leb (used_of s + length k) (length s.arena) room,
      e,
    )

    -- The slot i is live with the key, and the others stay.
    pub fill_slots : {W : Type 0} (read wrote : ℕ → W) (v : W) → wrote i ≡ v → ((j : ℕ) → (j ≡ i → ⊥) → wrote j ≡ read j) → slots_of (filled s i k) wrote ≡ put (slots_of s read) i (live k v)
    fill_slots read wrote v e same = changed s (filled s i k) read wrote i (live k v) (fill_here wrote v e) (λ j d. fill_stays j d (ends j)) same

    -- A slot that was not live adds the key's length to `used`.
    pub fill_used : (live_at s i → ⊥) → used_of (filled s i k) ≡ used_of s + length k
    unfolding weigh
    fill_used dead =
        omega (arith, used_changed s (filled s i k) i (live k tt) (fill_slots (λ j. tt) (λ j. tt) tt refl (λ j d. refl)) fill_sizes.marks a, (weighs (slot_counts s i (λ e. absurd (dead e)))).1 dead)

    -- a live span is the new one, or stands where it stood
    fill_span : (j : ℕ) → live_at (filled s i k) j → Extended (live_at s) (offset_of s) (length_of s) (offset_of (filled s i k)) (length_of (filled s i k)) (used_of s) (length k) i j
    unfolding filled
    fill_span j e = by_eq j i
        (λ q x. new q (rw q (get_or-set_same s.offsets i (used_of s) 0 b)) (rw q (get_or-set_same s.lengths i (length k) 0 c)))
        (λ q x. old (sym (get_or-set_other s.marks i j 1 0 q) ∙ e) (get_or-set_other s.offsets i j (used_of s) 0 q) (get_or-set_other s.lengths i j (length k) 0 q))

    -- A table that was not harmful is not harmful then.
    pub fill_unharmed : (live_at s i → ⊥) → full_damage s ≡ false → full_damage (filled s i k) ≡ false
    unfolding end_at
    fill_unharmed dead e = says_unharmed (filled s i k)
        (rw (fill_slots (λ j. tt {0}) (λ j. tt {0}) tt refl (λ j d. refl), fill_sizes.marks) (damaged_put (bare s) (length s.marks) i k tt (unharmed_whole s e))) (omega (arith, fill_used dead, fill_sizes.arena)) (λ j l. rw (fill_used dead) (extended_end ends (fill_span j l)))

    -- Sound spans stay sound.
    pub fill_laid : SoundSpans s → (live_at s i → ⊥) → SoundSpans (filled s i k)
    fill_laid L dead = record { tiled = rw (fill_used dead) (extend L.tiled i (length k) fill_span); within = omega (arith, fill_used dead, fill_sizes.arena) }

-- An accepted insert overwrites no live byte, whatever the memory: every other live slot keeps its key.
pub fill_keeps_bytes : (s : Spans) (i : ℕ) (k : List ℕ) → full_damage s ≡ false → length k ≤ length s.arena - used_of s → (j : ℕ) → (j ≡ i → ⊥) → live_at s j → key_at (filled s i k) j ≡ key_at s j
fill_keeps_bytes s i k e room j d a =
    let (u, ends) = unharmed_says s e in
    ((fill_stays s i k (omega arith) j d (ends j)).span a).1

-- The offsets that fell, one by one.
pub length_fallen : (e l : ℕ) (ms os : List ℕ) → length (fallen e l ms os) ≡ length os
unfolding fallen
length_fallen e l [] os = refl
length_fallen e l (m ∷ ms) [] = refl
length_fallen e l (m ∷ ms) (o ∷ os) = ap suc (length_fallen e l ms os)

pub get_d_fallen : (e l : ℕ) (ms os : List ℕ) (j : ℕ) → get_or (fallen e l ms os) j 0 ≡ fall e l (get_or ms j 0) (get_or os j 0)
unfolding fallen fall
get_d_fallen e l [] os j = refl
get_d_fallen e l (m ∷ ms) [] j = by_bool (eqb (get_or (m ∷ ms) j 0) 1 && leb e 0) (λ t. rw t (omega arith)) (λ t. rw t)
get_d_fallen e l (m ∷ ms) (o ∷ os) zero = refl
get_d_fallen e l (m ∷ ms) (o ∷ os) (suc j) = get_d_fallen e l ms os j

-- a span keeps its bytes where the gap is closed
key_lowered : (a : List ℕ) (o l u p n q : ℕ) → o + l ≤ u → u ≤ length a → p + n ≤ u → Side o l p n q → part (closed a o l u) q n ≡ part a p n
key_lowered a o l u p n q below fits h (before e b) = rw e (part_closed_before a o l u below fits p n b)
key_lowered a o l u p n q below fits h (behind e b) = let r : q ≡ p - l = omega arith in rw r (part_closed_behind a o l u below fits p n b h)

module _ (s : Spans) (i : ℕ) (L : SoundSpans s) (a : live_at s i) where
  gap : offset_of s i + length_of s i ≤ used_of s
  gap = L.tiled.ends i a

  -- A freed slot keeps the sizes.
  pub free_sizes : SameSizes s (emptied s i)
  unfolding emptied
  free_sizes = record {
    marks = length-set s.marks i 2;
    offsets = length-set (fallen (end_at s i) (length_of s i) s.marks s.offsets) i 0 ∙ length_fallen (end_at s i) (length_of s i) s.marks s.offsets;
    lengths = length-set s.lengths i 0;
    arena = length_closed s.arena (offset_of s i) (length_of s i) (used_of s) gap L.within;
  }

  -- every other live offset falls as it should
  lowers : (j : ℕ) → (j ≡ i → ⊥) → live_at s j → Lowered (live_at s) (offset_of s) (length_of s) (offset_of (emptied s i)) (length_of (emptied s i)) (offset_of s i) (length_of s i) j
  unfolding emptied end_at
  lowers j d b = record {
    was = b;
    offset = get_or-set_other (fallen (end_at s i) (length_of s i) s.marks s.offsets) i j 0 0 d ∙ get_d_fallen (end_at s i) (length_of s i) s.marks s.offsets j ∙ ap (λ m. fall (offset_of s i + length_of s i) (length_of s i) m (offset_of s j)) b;
    length = get_or-set_other s.lengths i j 0 0 d;
    clear = λ c. L.tiled.apart i j a b (λ q. d (sym q)) c;
  }

  -- the slots that are live after it were live, and i is not one of them
  lives : (j : ℕ) → live_at (emptied s i) j → (j ≡ i → ⊥) × live_at s j
  unfolding emptied
  lives j e = by_eq j i
      (λ q x. absurd (omega (arith, rw q at e, get_or-set_same s.marks i 2 0 (live_below s.marks i a))))
      (λ q x. (q, sym (get_or-set_other s.marks i j 2 0 q) ∙ e))

  free_tiled : Tiled (live_at (emptied s i)) (offset_of (emptied s i)) (length_of (emptied s i)) (used_of s - length_of s i)
  free_tiled = close L.tiled (offset_of s i) (length_of s i) gap (λ j e. lowers j (lives j e).0 (lives j e).1)

  free_mark : (j : ℕ) → (j ≡ i → ⊥) → get_or (emptied s i).marks j 0 ≡ get_or s.marks j 0
  unfolding emptied
  free_mark j d = get_or-set_other s.marks i j 2 0 d

  free_inside : (j : ℕ) → (j ≡ i → ⊥) → live_at s j → leb (end_at (emptied s i) j) (length (emptied s i).arena) ≡ leb (end_at s j) (length s.arena)
  unfolding end_at
  free_inside j d b =
      le-leb (end_at (emptied s i) j) (length (emptied s i).arena) (omega (arith, free_tiled.ends j (free_mark j d ∙ b), free_sizes.arena, L.within))
      ∙ sym (le-leb (end_at s j) (length s.arena) (omega (arith, L.tiled.ends j b, L.within)))

  free_key : (j : ℕ) → (j ≡ i → ⊥) → live_at s j → key_at (emptied s i) j ≡ key_at s j
  unfolding emptied key_at
  free_key j d b =
      let r = lowers j d b in
      rw r.length (key_lowered s.arena (offset_of s i) (length_of s i) (used_of s) (offset_of s j) (length_of s j) (offset_of (emptied s i) j) gap L.within (L.tiled.ends j b)
      (side (offset_of s i) (length_of s i) (offset_of s j) (length_of s j) (offset_of (emptied s i) j) r.offset r.clear))

  -- Every other slot stays.
  pub free_stays : (j : ℕ) → (j ≡ i → ⊥) → Stays s (emptied s i) j
  free_stays j d = record { mark = free_mark j d; span = λ b. (free_inside j d b, free_key j d b) }

  free_here : {W : Type 0} (wrote : ℕ → W) → slots_of (emptied s i) wrote i ≡ freed
  unfolding slots_of emptied spanned
  free_here wrote = rw (get_or-set_same s.marks i 2 0 (live_below s.marks i a))

  -- The slot i is freed, and the others stay.
  pub free_slots : {W : Type 0} (read wrote : ℕ → W) → ((j : ℕ) → (j ≡ i → ⊥) → wrote j ≡ read j) → slots_of (emptied s i) wrote ≡ put (slots_of s read) i freed
  free_slots read wrote same = changed s (emptied s i) read wrote i freed (free_here wrote) free_stays same

  -- `used` falls by the span's length.
  pub free_used : used_of (emptied s i) ≡ used_of s - length_of s i
  unfolding weigh end_at
  free_used = omega (
    arith,
    used_changed s (emptied s i) i freed (free_slots (λ j. tt) (λ j. tt) (λ j d. refl)) free_sizes.marks (live_below s.marks i a),
    (weighs (slot_counts s i (λ e. omega (arith, gap, L.within)))).0 a,
  )

  -- Sound spans stay sound.
  pub free_laid : SoundSpans (emptied s i)
  free_laid = record { tiled = rw free_used free_tiled; within = omega (arith, free_used, free_sizes.arena, L.within) }

module _ (s : Spans) where
  -- Wiping keeps the sizes, leaves no slot used, and sound spans.
  pub wipe_sizes : SameSizes s (wiped s)
  unfolding wiped
  wipe_sizes = record {
    marks = length-replicate {A = ℕ} (length s.marks) 0;
    offsets = length-replicate {A = ℕ} (length s.offsets) 0;
    lengths = length-replicate {A = ℕ} (length s.lengths) 0;
    arena = length-replicate {A = ℕ} (length s.arena) 0;
  }

  pub wipe_slots : {W : Type 0} (read : ℕ → W) → slots_of (wiped s) read ≡ made
  unfolding slots_of wiped spanned made
  wipe_slots read = fun_ext (λ j. rw (get_d_zeros (length s.marks) j))

  pub wipe_used : used_of (wiped s) ≡ 0
  unfolding used_of made
  wipe_used = rw (wipe_slots (λ j. tt {0})) (total_dead {W = Unit {0}} length made (length (wiped s).marks) (λ j l k v e. clash cc))

  pub wipe_laid : SoundSpans (wiped s)
  unfolding wiped
  wipe_laid = record {
    tiled = record { ends = λ j e. absurd (omega (arith, get_d_zeros (length s.marks) j)); apart = λ j k e f d c. absurd (omega (arith, get_d_zeros (length s.marks) j)) };
    within = omega (arith, wipe_used);
  }
