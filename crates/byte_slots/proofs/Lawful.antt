-- Byte tables are a lawful store, for maps and sets alike: each write changes the slots as it should, and keeps the spans sound.
use Rattle.std.proofs.Common.{ℕ, ◌+◌, ◌≤◌, ◌<◌, true, false, ◌&&◌, List, ◌≡◌, refl, sym, ◌∙◌, ap, arith, ltb-true, eqb-true, eqb, ltb, leb, length, length-set}
use Rattle.model.specs.Slots.{freed, live, Table, put, made}
use Rattle.model.specs.Sound.{SoundSlots}
use Rattle.model.specs.Store.{used}
use Rattle.model.specs.Lawful.{Wrote, Lawful}
use Rattle.model.proofs.Cases.{both}
use Rattle.model.proofs.Slots.{damaged_not}
use Rattle.digest.specs.Home.{home_of, slots_fit}
use Rattle.digest.proofs.Bounds.{home_below}
use Rattle.kinds.specs.Columns.{Column}
use Rattle.kinds.proofs.Columns.{LawfulColumn}
use Rattle.byte_slots.specs.Memory.{Spans, arena_limit, end_at, used_of, full_damage, fitting, filled, emptied, ByteMemory, byte_store, live_at, SoundSpans}
use Rattle.byte_slots.proofs.Held.{live_says, says_live, free_says, bare_total, bare_damaged, says_unharmed}
use Rattle.byte_slots.proofs.Writes.{SameSizes, changed, fill_sizes, fill_slots, fill_laid, free_sizes, free_slots, free_laid, wipe_sizes, wipe_slots, wipe_laid}

-- What fitting sizes say of the four lists.
pub fitting_says : (s : Spans) → fitting s ≡ true → (0 < length s.marks) × (length s.offsets ≡ length s.marks) × (length s.lengths ≡ length s.marks)
unfolding fitting
fitting_says s e =
    let n : ℕ = length s.marks in
    let (a, b) = both (slots_fit n) (eqb n (length s.offsets) && (eqb n (length s.lengths) && leb (length s.arena) arena_limit)) e in
    let (c, d) = both (eqb n (length s.offsets)) (eqb n (length s.lengths) && leb (length s.arena) arena_limit) b in
    let (f, g) = both (eqb n (length s.lengths)) (leb (length s.arena) arena_limit) d in
    let (h, i) = both (ltb 0 n) (leb n 4096) a in
    (ltb-true 0 n h, sym (eqb-true n (length s.offsets) c), sym (eqb-true n (length s.lengths) f))

-- Lists of the same sizes fit where those do.
pub fitting_same : (s t : Spans) → SameSizes s t → fitting t ≡ fitting s
unfolding fitting
fitting_same s t z = rw (z.marks, z.offsets, z.lengths, z.arena)

module _ {W : Type 0} (C : Column W) where
  -- What right sizes say.
  pub sizes_say : (m : ByteMemory C) → (byte_store C).sized m ≡ true → (0 < length m.spans.marks) × (length m.spans.offsets ≡ length m.spans.marks) × (length m.spans.lengths ≡ length m.spans.marks) × (C.long m.words (length m.spans.marks) ≡ true)
  sizes_say m e =
      let (f, g) = both (fitting m.spans) (C.long m.words (length m.spans.marks)) e in
      let (a, b, c) = fitting_says m.spans f in
      (a, b, c, g)

  -- `used` is that of the spans.
  pub used_is : (m : ByteMemory C) → used (byte_store C) m ≡ used_of m.spans
  unfolding used used_of
  used_is m = bare_total m.spans (C.read m.words) (length m.spans.marks)

module _ {W : Type 0} (C : Column W) (O : LawfulColumn C) where
  module _ (Good : ByteMemory C → Type 0) where
    -- a write that keeps the sizes and leaves good memory
    wrote : (m n : ByteMemory C) (t : Table (List ℕ) W) → SameSizes m.spans n.spans → ((k : ℕ) → C.long n.words k ≡ C.long m.words k) → (byte_store C).slots n ≡ t → Good n → Wrote (byte_store C) Good m n t
    wrote m n t z long e g = record {
      slots = e;
      size = z.marks;
      home = ap (λ n k. home_of 0 n k) z.marks;
      bytes = z.arena;
      sized = rw (fitting_same m.spans n.spans z, z.marks, long (length m.spans.marks));
      good = g;
    }

    -- A value written over a live slot's changes that slot, whatever the spans.
    pub over_wrote : (m : ByteMemory C) (i : ℕ) (k : List ℕ) (v w : W) → (byte_store C).sized m ≡ true → i < length m.spans.marks → (byte_store C).slots m i ≡ live k w → Good ((byte_store C).over m i v) → Wrote (byte_store C) Good m ((byte_store C).over m i v) (put ((byte_store C).slots m) i (live k v))
    over_wrote m i k v w e l q g =
        let (a, b, c) = live_says m.spans (C.read m.words) i k w q in
        wrote m ((byte_store C).over m i v) (put ((byte_store C).slots m) i (live k v))
        (record { marks = refl; offsets = refl; lengths = refl; arena = refl })
        (λ n. O.long_write m.words n i v)
        (changed m.spans m.spans (C.read m.words) (C.read (C.write m.words i v)) i (live k v)
        (says_live m.spans (C.read (C.write m.words i v)) i a b ∙ rw (c, O.read_same m.words (length m.spans.marks) i v (sizes_say C m e).3 l))
        (λ j d. record { mark = refl; span = λ a. (refl, refl) })
        (λ j d. O.read_other m.words i j v d))
        g

    -- A key put into a slot changes that slot, where no live span ends beyond `used`.
    pub fill_wrote : (m : ByteMemory C) (i : ℕ) (k : List ℕ) (v : W) → (byte_store C).sized m ≡ true → i < length m.spans.marks → used_of m.spans + length k ≤ length m.spans.arena → ((j : ℕ) → live_at m.spans j → end_at m.spans j ≤ used_of m.spans) → Good ((byte_store C).fill m i k v) → Wrote (byte_store C) Good m ((byte_store C).fill m i k v) (put ((byte_store C).slots m) i (live k v))
    fill_wrote m i k v e l room ends g =
        let (a, b, c, d) = sizes_say C m e in
        wrote m ((byte_store C).fill m i k v) (put ((byte_store C).slots m) i (live k v))
        (fill_sizes m.spans i k room)
        (λ n. O.long_write m.words n i v)
        (fill_slots m.spans i k room l (omega arith) (omega arith) ends (C.read m.words) (C.read (C.write m.words i v)) v
        (O.read_same m.words (length m.spans.marks) i v d l) (λ j h. O.read_other m.words i j v h))
        g

  -- sound memory is not harmful
  unharmed : (m : ByteMemory C) → SoundSpans m.spans → SoundSlots ((byte_store C).size m) ((byte_store C).home m) ((byte_store C).slots m) → full_damage m.spans ≡ false
  unfolding end_at
  unharmed m g s =
      let n : ℕ = length m.spans.marks in
      says_unharmed m.spans (sym (bare_damaged m.spans (C.read m.words) n) ∙ damaged_not ((byte_store C).slots m) n s.whole) g.within g.tiled.ends

  -- A byte table pays what a store owes.
  pub byte_lawful : Lawful (byte_store C)
  unfolding end_at filled emptied
  byte_lawful = record {
    homes = λ m k e. home_below 0 (length m.spans.marks) k (sizes_say C m e).0;
    unharmed = λ m e g s. unharmed m g s;
    within = λ m e g. omega (arith, used_is C m, g.within);
    over_wrote = λ m i k v w e g l q. over_wrote (byte_store C).good m i k v w e l q g;
    fill_wrote = λ m i k v e g l q u.
        let (a, b, c, d) = sizes_say C m e in
        let room : used_of m.spans + length k ≤ length m.spans.arena = omega (arith, used_is C m) in
        fill_wrote (byte_store C).good m i k v e l room g.tiled.ends
        (fill_laid m.spans i k room l (omega arith) (omega arith) g.tiled.ends g (free_says m.spans (C.read m.words) i q));
    free_wrote = λ m i k w e g l q.
        let a : live_at m.spans i = (live_says m.spans (C.read m.words) i k w q).0 in
        wrote (byte_store C).good m ((byte_store C).free m i) (put ((byte_store C).slots m) i freed)
        (free_sizes m.spans i g a)
        (λ n. O.long_blank m.words n i)
        (free_slots m.spans i g a (C.read m.words) (C.read (C.blank m.words i)) (λ j h. O.blank_other m.words i j h))
        (free_laid m.spans i g a);
    wipe_wrote = λ m e.
        wrote (byte_store C).good m ((byte_store C).wipe m) made (wipe_sizes m.spans) (λ n. O.long_wipe m.words n) (wipe_slots m.spans (C.read (C.wipe m.words))) (wipe_laid m.spans);
    over_size = λ m i v. refl;
    fill_size = λ m i k v. length-set m.spans.marks i 1;
    free_size = λ m i. length-set m.spans.marks i 2;
    wipe_size = λ m. (wipe_sizes m.spans).marks;
  }
