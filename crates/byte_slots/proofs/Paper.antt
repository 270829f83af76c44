-- The store's soundness is the scope's, clause by clause.
use Rattle.std.proofs.Common.{ℕ, ◌+◌, ◌≤◌, ◌<◌, true, List, ◌↔◌, ◌≡◌, refl, sym, ◌∙◌, ap, arith, length, get_or}
use lib.ListN.{get_or-eq_default}
use Rattle.model.specs.Slots.{live}
use Rattle.model.specs.Sound.{SoundSlots}
use Rattle.model.specs.Lawful.{SoundTable}
use Rattle.model.proofs.Cases.{by_lt, by_eq}
use Rattle.digest.specs.Home.{home_of}
use Rattle.kinds.specs.Columns.{Column}
use Rattle.byte_slots.specs.Memory.{Spans, end_at, key_at, slots_of, bare, used_of, ByteMemory, byte_store, live_at, offset_of, length_of, SoundSpans}
use Rattle.byte_slots.specs.Sound.{Covers, SoundAsWorded}
use Rattle.byte_slots.proofs.Tiled.{cover}
use Rattle.byte_slots.proofs.Held.{live_below, live_says, says_live, never_says, says_never, bad_says, says_bad, slot_counts}

module _ {W : Type 0} (s : Spans) (read : ℕ → W) where
  abbrev SoundHere : Type 0
  SoundHere = SoundSlots (length s.marks) (home_of 0 (length s.marks)) (slots_of s read)

  -- Sound spans and slots are sound in the scope's words.
  pub laid_paper : SoundSpans s → SoundHere → SoundAsWorded s
  unfolding end_at used_of
  laid_paper g h = record {
    marks = λ i. by_lt 2 (get_or s.marks i 0) (λ l x. absurd (above i l)) (λ l x. l);
    once = λ i j a b e. h.once i j (key_at s j) (read i) (read j) (live_below s.marks i a) (live_below s.marks j b) (lives i (key_at s j) a e) (lives j (key_at s j) b refl);
    reach = λ k n m l c a q z. h.reach k _ n m l c (lives _ k a q) (says_never s read _ z);
    disjoint = λ i j b x y d p q. omega (arith, g.tiled.apart i j x y d (omega arith));
    covering = λ b. ((λ l. held b l), (λ r. omega (arith, g.tiled.ends r.0 r.1)));
    within = g.within;
    ends = g.tiled.ends;
    empty = λ i j x y e c d. omega (arith, g.tiled.apart j i y x (λ q. omega (arith, ap (offset_of s) q)) (omega arith));
  }
    where
      inside : (i : ℕ) → live_at s i → end_at s i ≤ length s.arena
      inside i a = omega (arith, g.tiled.ends i a, g.within)

      lives : (i : ℕ) (k : List ℕ) → live_at s i → key_at s i ≡ k → slots_of s read i ≡ live k (read i)
      lives i k a e = says_live s read i a (inside i a) ∙ ap (λ x. live x (read i)) e

      above : (i : ℕ) → 2 < get_or s.marks i 0 → ⊥
      above i l = by_lt i (length s.marks) (λ b x. h.whole i b (says_bad s read i l)) (λ b x. omega (arith, get_or-eq_default s.marks 0 b))

      held : (b : ℕ) → b < used_of s → (i : ℕ) × live_at s i × Covers s i b
      held b l =
          let (i, a, c, d) = cover length (bare s) (length s.marks) g.tiled (λ i c. slot_counts s i (inside i)) (live_below s.marks) refl b l in
          (i, a, (c, d))

  -- And what is sound in the scope's words has sound slots, and sound spans.
  pub paper_slots : SoundAsWorded s → SoundHere
  paper_slots p = record {
    whole = λ i l e. let (a, b) = bad_says s read i e (p.marks i) in omega (arith, p.ends i a, p.within);
    once = λ i j k v w l c e f. let (a, b, x) = live_says s read i k v e in let (d, g, y) = live_says s read j k w f in p.once i j a d (x ∙ sym y);
    reach = λ k v n m l c a z. let (x, b, y) = live_says s read _ k v a in p.reach k n m l c x y (never_says s read _ z);
  }

pub paper_laid : (s : Spans) → SoundAsWorded s → SoundSpans s
unfolding end_at
paper_laid s p = record {
  tiled = record {
    ends = p.ends;
    apart = λ i j a b d c. by_lt (offset_of s i) (offset_of s j + length_of s j)
        (λ f x. absurd (by_lt (offset_of s i) (offset_of s j)
        (λ g y. by_eq (length_of s j) 0 (λ q z. p.empty j i b a q g c) (λ q z. p.disjoint i j (offset_of s j) a b d (omega arith, c) (omega arith, omega arith)))
        (λ g y. by_eq (length_of s i) 0 (λ q z. p.empty i j a b q (omega arith) f) (λ q z. p.disjoint i j (offset_of s i) a b d (omega arith, omega arith) (g, f)))))
        (λ f x. f);
  };
  within = p.within;
}

-- A table is sound exactly when its sizes are right and it is sound in the scope's words.
pub paper_sound : {W : Type 0} (C : Column W) (m : ByteMemory C) → SoundTable (byte_store C) m ↔ (((byte_store C).sized m ≡ true) × SoundAsWorded m.spans)
paper_sound C m = (
  (λ h. (h.sized, laid_paper m.spans (C.read m.words) h.good h.sound)),
  (λ p. record { sized = p.0; good = paper_laid m.spans p.1; sound = paper_slots m.spans (C.read m.words) p.1 }),
)
