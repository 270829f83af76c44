-- The lent lists of a byte table as one record, what its slots hold, and the store that they are.
use Rattle.std.specs.Prelude.{ℕ, zero, suc, ◌+◌, ◌-◌, ◌≤◌, ◌<◌, Bool, true, false, cond, ◌&&◌, List, [], ◌∷◌, ◌++◌, ◌≡◌, eqb, ltb, leb, length, get_or, take, drop, set, replicate}
use Rattle.model.specs.Slots.{Slot, never, freed, damaged, live, Table, total, any_damaged}
use Rattle.model.specs.Store.{Store}
use Rattle.answers.specs.declared.Refusal.TheVariants.{LongKey}
use Rattle.answers.specs.Refusals.{number_of}
use Rattle.digest.specs.Home.{home_of, slots_fit, key_fits}
use Rattle.kinds.specs.Columns.{Column}
use Rattle.byte_slots.specs.Keys.{byte_keys}
use Rattle.std.specs.Prelude.{Result, Ok, Err}
use Rattle.answers.specs.declared.Refusal.{Refusal}

-- The most bytes that an arena has.
abbrev pub arena_limit : ℕ
arena_limit = 32768

-- The l bytes of an arena from o on.
unfoldable pub part : List ℕ → ℕ → ℕ → List ℕ
part arena o l = take l (drop o arena)

-- Marks, offsets and lengths, one a slot, and the arena with the keys.
pub record Spans : Type 0 where
  pub marks : List ℕ
  pub offsets : List ℕ
  pub lengths : List ℕ
  pub arena : List ℕ

module _ (s : Spans) where
  -- The end of a slot's span.
  unfoldable pub end_at : ℕ → ℕ
  end_at i = get_or s.offsets i 0 + get_or s.lengths i 0

  -- The bytes of a slot's span.
  unfoldable pub key_at : ℕ → List ℕ
  key_at i = part s.arena (get_or s.offsets i 0) (get_or s.lengths i 0)

-- What a slot with this mark holds: a live span past the arena is damaged.
unfoldable pub spanned : {W : Type 0} → Bool → ℕ → List ℕ → W → Slot (List ℕ) W
spanned inside zero k v = never
spanned inside (suc zero) k v = cond inside (live k v) damaged
spanned inside (suc (suc zero)) k v = freed
spanned inside (suc (suc (suc m))) k v = damaged

-- What the slots hold, with the values that stand beside them.
unfoldable pub slots_of : {W : Type 0} → Spans → (ℕ → W) → Table (List ℕ) W
slots_of s read i = spanned (leb (end_at s i) (length s.arena)) (get_or s.marks i 0) (key_at s i) (read i)

-- The slots alone.
abbrev pub bare : Spans → Table (List ℕ) (Unit {0})
bare s = slots_of s (λ i. tt)

-- `used`: the sum of the live keys' lengths.
unfoldable pub used_of : Spans → ℕ
used_of s = total length (bare s) (length s.marks)

module _ (s : Spans) where
  -- Whether a slot is live, and its span.
  abbrev pub live_at : ℕ → Type 0
  live_at i = get_or s.marks i 0 ≡ 1

  abbrev pub offset_of : ℕ → ℕ
  offset_of i = get_or s.offsets i 0

  abbrev pub length_of : ℕ → ℕ
  length_of i = get_or s.lengths i 0

-- Live spans that end at u at the latest, and of which each that begins before another's end lies before that other.
pub record Tiled (live : ℕ → Type 0) (off len : ℕ → ℕ) (u : ℕ) : Type 0 where
  pub ends : (i : ℕ) → live i → off i + len i ≤ u
  pub apart : (i j : ℕ) → live i → live j → (i ≡ j → ⊥) → off j < off i + len i → off j + len j ≤ off i

-- Sound spans: they tile the used bytes, and these are bytes of the arena.
pub record SoundSpans (s : Spans) : Type 0 where
  pub tiled : Tiled (live_at s) (offset_of s) (length_of s) (used_of s)
  pub within : used_of s ≤ length s.arena

-- Whether a live span of the first n slots ends beyond u.
unfoldable pub beyond : Spans → ℕ → ℕ → Bool
beyond s u zero = false
beyond s u (suc n) = cond (eqb (get_or s.marks n 0) 1 && ltb u (end_at s n)) true (beyond s u n)

-- Full damage: a damaged slot, `used` above the arena, or a live span that ends beyond `used`.
unfoldable pub full_damage : Spans → Bool
full_damage s = cond (any_damaged (bare s) (length s.marks)) true (cond (ltb (length s.arena) (used_of s)) true (beyond s (used_of s) (length s.marks)))

-- Marks, offsets and lengths agree in length, a table may have so many slots, and an arena so many bytes.
unfoldable pub fitting : Spans → Bool
fitting s = slots_fit (length s.marks) && (eqb (length s.marks) (length s.offsets) && (eqb (length s.marks) (length s.lengths) && leb (length s.arena) arena_limit))

-- The arena with a key's bytes from u on.
unfoldable pub pasted : List ℕ → ℕ → List ℕ → List ℕ
pasted arena u k = take u arena ++ (k ++ drop (u + length k) arena)

-- The arena without the span from o of length l: the bytes up to u move down, and the l bytes vacated become 0.
unfoldable pub closed : List ℕ → ℕ → ℕ → ℕ → List ℕ
closed arena o l u = take o arena ++ (part arena (o + l) (u - (o + l)) ++ (replicate l 0 ++ drop u arena))

-- A live offset of at least e falls by l.
unfoldable pub fall : ℕ → ℕ → ℕ → ℕ → ℕ
fall e l mark offset = cond (eqb mark 1 && leb e offset) (offset - l) offset

-- The offsets of all slots after that.
unfoldable pub fallen : ℕ → ℕ → List ℕ → List ℕ → List ℕ
fallen e l [] offsets = offsets
fallen e l (m ∷ ms) [] = []
fallen e l (m ∷ ms) (o ∷ os) = fall e l m o ∷ fallen e l ms os

-- The key goes to the slot i: its bytes to the offset `used`.
unfoldable pub filled : Spans → ℕ → List ℕ → Spans
filled s i k = record {
  marks = set s.marks i 1;
  offsets = set s.offsets i (used_of s);
  lengths = set s.lengths i (length k);
  arena = pasted s.arena (used_of s) k;
}

-- The slot i is freed, and the gap in the arena closed.
unfoldable pub emptied : Spans → ℕ → Spans
emptied s i = record {
  marks = set s.marks i 2;
  offsets = set (fallen (end_at s i) (get_or s.lengths i 0) s.marks s.offsets) i 0;
  lengths = set s.lengths i 0;
  arena = closed s.arena (get_or s.offsets i 0) (get_or s.lengths i 0) (used_of s);
}

-- All marks, words and arena bytes 0.
unfoldable pub wiped : Spans → Spans
wiped s = record {
  marks = replicate (length s.marks) 0;
  offsets = replicate (length s.offsets) 0;
  lengths = replicate (length s.lengths) 0;
  arena = replicate (length s.arena) 0;
}

-- The refusal of a key that is asked for: 2, above the key limit.
unfoldable pub asked_of : List ℕ → ℕ
asked_of k = cond (key_fits (length k)) 0 2

-- Whether a key may be stored, or why not: above the key limit it may not.
abbrev pub keeping : List ℕ → Result (Unit {0}) Refusal
keeping k = cond (key_fits (length k)) (Ok tt) (Err LongKey)

-- The number of that refusal, 0 where there is none.
abbrev pub kept_number : Result (Unit {0}) Refusal → ℕ
kept_number (Ok tt) = 0
kept_number (Err x) = number_of x

-- The refusal of a key that is to be stored.
unfoldable pub kept_of : List ℕ → ℕ
kept_of k = kept_number (keeping k)

-- The lent lists of a byte table with a column beside its keys.
pub record ByteMemory {W : Type 0} (C : Column W) : Type 0 where
  pub spans : Spans
  pub words : C.Words

-- A byte table as a store. A key takes as many arena bytes as it has; a storing call examines every slot.
abbrev pub byte_store : {W : Type 0} (C : Column W) → Store (List ℕ) W
byte_store C = record {
  State = ByteMemory C;
  keys = byte_keys;
  weight = length;
  size = λ m. length m.spans.marks;
  slots = λ m. slots_of m.spans (C.read m.words);
  home = λ m k. home_of 0 (length m.spans.marks) k;
  bytes = λ m. length m.spans.arena;
  sized = λ m. fitting m.spans && C.long m.words (length m.spans.marks);
  asked = asked_of;
  kept = kept_of;
  carried = λ m. 0;
  damaged_fully = λ m. full_damage m.spans;
  good = λ m. SoundSpans m.spans;
  over = λ m i v. record { spans = m.spans; words = C.write m.words i v };
  fill = λ m i k v. record { spans = filled m.spans i k; words = C.write m.words i v };
  free = λ m i. record { spans = emptied m.spans i; words = C.blank m.words i };
  wipe = λ m. record { spans = wiped m.spans; words = C.wipe m.words };
}

-- The lent lists without and with values.
abbrev pub spans_of : List ℕ → List ℕ → List ℕ → List ℕ → Spans
spans_of marks offsets lengths arena = record { marks = marks; offsets = offsets; lengths = lengths; arena = arena }

abbrev pub memory : {W : Type 0} (C : Column W) → List ℕ → List ℕ → List ℕ → List ℕ → C.Words → ByteMemory C
memory C marks offsets lengths arena words = record { spans = spans_of marks offsets lengths arena; words = words }

-- The lent arrays without values, as the contracts name them: at one moment; when a call starts, and when it ends.
abbrev pub spans_now : List ℕ → List ℕ → List ℕ → List ℕ → Spans
spans_now marks offsets lengths arena = spans_of marks offsets lengths arena

abbrev pub spans_before : List ℕ → List ℕ → List ℕ → List ℕ → Spans
spans_before marks offsets lengths arena = spans_now marks offsets lengths arena

abbrev pub spans_after : List ℕ → List ℕ → List ℕ → List ℕ → Spans
spans_after marks offsets lengths arena = spans_now marks offsets lengths arena
