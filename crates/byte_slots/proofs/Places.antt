-- Byte tables on any memory without damage: a write does no damage, and changes only the places that it names.
use Rattle.std.proofs.Common.{ℕ, ◌+◌, ◌≤◌, ◌<◌, false, ◌&&◌, List, inl, inr, ◌≡◌, refl, ◌∙◌, ap, arith, leb-false, ltb-false, eqb, ltb, leb, length, get_or, get_or-set_other}
use borrow.Author.Tests.{eqb-false}
use Rattle.model.specs.Lawful.{Steady}
use Rattle.model.specs.Places.{Apart}
use Rattle.model.proofs.Cases.{by_bool, neither}
use Rattle.kinds.specs.Columns.{Column}
use Rattle.kinds.proofs.Columns.{LawfulColumn}
use Rattle.byte_slots.specs.Memory.{Spans, end_at, used_of, full_damage, fall, fallen, filled, emptied, ByteMemory, byte_store, live_at, offset_of, length_of}
use Rattle.byte_slots.specs.Places.{Place, mark_at, offset_at, length_at, beside_at, byte_at, word_in, names_over, names_fill, names_free, places}
use Rattle.byte_slots.proofs.Arena.{pasted_before, pasted_after, closed_before, closed_after}
use Rattle.byte_slots.proofs.Held.{live_says, free_says, unharmed_says}
use Rattle.byte_slots.proofs.Writes.{fill_unharmed, get_d_fallen}
use Rattle.byte_slots.proofs.Lawful.{sizes_say, used_is, over_wrote, fill_wrote, byte_lawful}

-- A number that is not from a on below b is below a, or from b on.
outside : {A : Type 0} (a b n : ℕ) → (leb a n && ltb n b) ≡ false → (n < a → A) → (b ≤ n → A) → A
outside a b n e low high = by_bool (leb a n) (λ t. high (ltb-false n b (rw t at e))) (λ t. low (leb-false a n t))

-- An offset that is not to fall stays.
fall_not : (e l mark offset : ℕ) → (eqb mark 1 && leb e offset) ≡ false → fall e l mark offset ≡ offset
unfolding fall
fall_not e l mark offset h = rw h

module _ {W : Type 0} (C : Column W) (O : LawfulColumn C) where
  -- Byte tables are steady: a value written over and a key put into a free slot do no damage.
  pub byte_steady : Steady (byte_store C)
  byte_steady = record {
    homes = (byte_lawful C O).homes;
    room = λ m z h. omega (arith, used_is C m, (unharmed_says m.spans h).0);
    over_steady = λ m i k v w z h l q. over_wrote C O (λ n. full_damage n.spans ≡ false) m i k v w z l q h;
    fill_steady = λ m i k v z h l q u.
        let (a, b, c, d) = sizes_say C m z in
        let room : used_of m.spans + length k ≤ length m.spans.arena = omega (arith, used_is C m) in
        let ends : (j : ℕ) → live_at m.spans j → end_at m.spans j ≤ used_of m.spans = (unharmed_says m.spans h).1 in
        fill_wrote C O (λ n. full_damage n.spans ≡ false) m i k v z l room ends
        (fill_unharmed m.spans i k room l (omega arith) (omega arith) ends (free_says m.spans (C.read m.words) i q) h);
  }

  over_kept : (m : ByteMemory C) (i : ℕ) (v : W) (p : Place) → names_over i p ≡ false → word_in C ((byte_store C).over m i v) p ≡ word_in C m p
  unfolding names_over word_in
  over_kept m i v (mark_at j) e = refl
  over_kept m i v (offset_at j) e = refl
  over_kept m i v (length_at j) e = refl
  over_kept m i v (beside_at j) e = ap inr (O.read_other m.words i j v (eqb-false j i e))
  over_kept m i v (byte_at b) e = refl

  module _ (m : ByteMemory C) (i : ℕ) where
    abbrev s : Spans
    s = m.spans

    fill_kept : (k : List ℕ) (v : W) → used_of s + length k ≤ length s.arena → (p : Place) → names_fill s i k p ≡ false → word_in C ((byte_store C).fill m i k v) p ≡ word_in C m p
    unfolding names_fill word_in filled
    fill_kept k v room (mark_at j) e = ap inl (get_or-set_other s.marks i j 1 0 (eqb-false j i e))
    fill_kept k v room (offset_at j) e = ap inl (get_or-set_other s.offsets i j (used_of s) 0 (eqb-false j i e))
    fill_kept k v room (length_at j) e = ap inl (get_or-set_other s.lengths i j (length k) 0 (eqb-false j i e))
    fill_kept k v room (beside_at j) e = ap inr (O.read_other m.words i j v (eqb-false j i e))
    fill_kept k v room (byte_at b) e = ap inl (outside (used_of s) (used_of s + length k) b e (pasted_before s.arena (used_of s) k room b) (pasted_after s.arena (used_of s) k room b))

    free_kept : end_at s i ≤ used_of s → used_of s ≤ length s.arena → (p : Place) → names_free s i p ≡ false → word_in C ((byte_store C).free m i) p ≡ word_in C m p
    unfolding names_free word_in emptied end_at
    free_kept below fits (mark_at j) e = ap inl (get_or-set_other s.marks i j 2 0 (eqb-false j i e))
    free_kept below fits (offset_at j) e =
        let (d, f) = neither (eqb j i) (eqb (get_or s.marks j 0) 1 && leb (end_at s i) (offset_of s j)) e in
        ap inl (get_or-set_other (fallen (end_at s i) (length_of s i) s.marks s.offsets) i j 0 0 (eqb-false j i d) ∙ get_d_fallen (end_at s i) (length_of s i) s.marks s.offsets j ∙ fall_not (end_at s i) (length_of s i) (get_or s.marks j 0) (offset_of s j) f)
    free_kept below fits (length_at j) e = ap inl (get_or-set_other s.lengths i j 0 0 (eqb-false j i e))
    free_kept below fits (beside_at j) e = ap inr (O.blank_other m.words i j (eqb-false j i e))
    free_kept below fits (byte_at b) e = ap inl (outside (offset_of s i) (used_of s) b e
        (closed_before s.arena (offset_of s i) (length_of s i) (used_of s) below fits b) (closed_after s.arena (offset_of s i) (length_of s i) (used_of s) below fits b))

  -- Each write changes only the places that it names.
  pub byte_apart : Apart (byte_store C) (places C)
  byte_apart = record {
    over_apart = λ m i v p. over_kept m i v p;
    fill_apart = λ m i k v p z h l u. fill_kept m i k v (omega (arith, used_is C m)) p;
    free_apart = λ m i k w p z h l q. let (u, ends) = unharmed_says m.spans h in free_kept m i (ends i (live_says m.spans (C.read m.words) i k w q).0) u p;
  }
