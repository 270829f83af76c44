-- What a slot holds, by its mark and span; the slots alone say as much of damage and weight; what it means that a table is not harmful.
use Rattle.std.proofs.Common.{ℕ, zero, suc, ◌≤◌, ◌<◌, Bool, true, false, ◌&&◌, List, ◌≡◌, refl, sym, ◌∙◌, ap, subst, arith, ltb-false, leb-true, leb-false, le-ltb, eq-eqb, eqb, ltb, leb, length, get_or}
use lib.ListN.{get_or-eq_default}
use Rattle.model.specs.Slots.{never, freed, damaged, live, frees, is_damaged, weigh, total, any_damaged}
use Rattle.model.proofs.Cases.{by_bool, by_lt, by_eq, clash}
use Rattle.lists.proofs.Parts.{length_part}
use Rattle.byte_slots.specs.Memory.{Spans, part, end_at, key_at, spanned, slots_of, bare, used_of, beyond, full_damage, live_at, offset_of, length_of}
use Rattle.byte_slots.proofs.Tiled.{Counted, counts, idle}

-- A live slot is one of the slots.
pub live_below : (marks : List ℕ) (i : ℕ) → get_or marks i 0 ≡ 1 → i < length marks
live_below marks i e = by_lt i (length marks) (λ l x. l) (λ l x. absurd (omega (arith, get_or-eq_default marks 0 l)))

module _ {W : Type 0} where
  spanned_by : {A : Type 0} (b : Bool) (m : ℕ) (k : List ℕ) (v : W) → (m ≡ 0 → spanned b m k v ≡ never → A) → (m ≡ 1 → b ≡ true → spanned b m k v ≡ live k v → A) → (m ≡ 1 → b ≡ false → spanned b m k v ≡ damaged → A) → (m ≡ 2 → spanned b m k v ≡ freed → A) → (2 < m → spanned b m k v ≡ damaged → A) → A
  unfolding spanned
  spanned_by b zero k v p q r f g = p refl refl
  spanned_by true (suc zero) k v p q r f g = q refl refl refl
  spanned_by false (suc zero) k v p q r f g = r refl refl refl
  spanned_by b (suc (suc zero)) k v p q r f g = f refl refl
  spanned_by b (suc (suc (suc m))) k v p q r f g = g (omega arith) refl

  module _ (s : Spans) (read : ℕ → W) (i : ℕ) where
    -- A slot by its mark, and by where its span ends where it is live: never used, live, live past the arena, freed, or damaged.
    pub by_slot : {A : Type 0} → (get_or s.marks i 0 ≡ 0 → slots_of s read i ≡ never → A) → (live_at s i → end_at s i ≤ length s.arena → slots_of s read i ≡ live (key_at s i) (read i) → A) → (live_at s i → length s.arena < end_at s i → slots_of s read i ≡ damaged → A) → (get_or s.marks i 0 ≡ 2 → slots_of s read i ≡ freed → A) → (2 < get_or s.marks i 0 → slots_of s read i ≡ damaged → A) → A
    unfolding slots_of
    by_slot p q r f g = spanned_by (leb (end_at s i) (length s.arena)) (get_or s.marks i 0) (key_at s i) (read i) p
        (λ a b e. q a (leb-true (end_at s i) (length s.arena) b) e) (λ a b e. r a (leb-false (end_at s i) (length s.arena) b) e) f g

    -- What each kind of slot says.
    pub live_says : (k : List ℕ) (v : W) → slots_of s read i ≡ live k v → live_at s i × (end_at s i ≤ length s.arena) × (key_at s i ≡ k)
    live_says k v e = by_slot (λ a q. clash (cc)) (λ a l q. (a, l, cc)) (λ a l q. clash (cc)) (λ a q. clash (cc)) (λ a q. clash (cc))

    pub free_says : frees (slots_of s read i) ≡ true → live_at s i → ⊥
    unfolding frees
    free_says e c = by_slot (λ a q. omega arith) (λ a l q. clash (cc)) (λ a l q. clash (cc)) (λ a q. omega arith) (λ a q. omega arith)

    pub never_says : slots_of s read i ≡ never → get_or s.marks i 0 ≡ 0
    never_says e = by_slot (λ a q. a) (λ a l q. clash (cc)) (λ a l q. clash (cc)) (λ a q. clash (cc)) (λ a q. clash (cc))

    pub bad_says : slots_of s read i ≡ damaged → get_or s.marks i 0 ≤ 2 → live_at s i × (length s.arena < end_at s i)
    bad_says e c = by_slot (λ a q. clash (cc)) (λ a l q. clash (cc)) (λ a l q. (a, l)) (λ a q. clash (cc)) (λ a q. absurd (omega arith))

    -- And what says which kind.
    pub says_live : live_at s i → end_at s i ≤ length s.arena → slots_of s read i ≡ live (key_at s i) (read i)
    says_live b c = by_slot (λ a q. absurd (omega arith)) (λ a l q. q) (λ a l q. absurd (omega arith)) (λ a q. absurd (omega arith)) (λ a q. absurd (omega arith))

    pub says_never : get_or s.marks i 0 ≡ 0 → slots_of s read i ≡ never
    says_never b = by_slot (λ a q. q) (λ a l q. absurd (omega arith)) (λ a l q. absurd (omega arith)) (λ a q. absurd (omega arith)) (λ a q. absurd (omega arith))

    pub says_bad : 2 < get_or s.marks i 0 → slots_of s read i ≡ damaged
    says_bad b = by_slot (λ a q. absurd (omega arith)) (λ a l q. absurd (omega arith)) (λ a l q. q) (λ a q. absurd (omega arith)) (λ a q. q)

  -- The span counts for a live slot alone.
  pub spanned_same : (m : ℕ) (b c : Bool) (k l : List ℕ) (v : W) → (m ≡ 1 → (b ≡ c) × (k ≡ l)) → spanned b m k v ≡ spanned c m l v
  unfolding spanned
  spanned_same zero b c k l v h = refl
  spanned_same (suc zero) b c k l v h = let (p, q) = h refl in rw (p, q)
  spanned_same (suc (suc zero)) b c k l v h = refl
  spanned_same (suc (suc (suc m))) b c k l v h = refl

  -- the value is not weighed, and does no harm
  spanned_bare : (b : Bool) (m : ℕ) (k : List ℕ) (v : W) → (weigh length (spanned b m k v) ≡ weigh length (spanned b m k (tt {0}))) × (is_damaged (spanned b m k v) ≡ is_damaged (spanned b m k (tt {0})))
  unfolding spanned weigh is_damaged
  spanned_bare b zero k v = (refl, refl)
  spanned_bare true (suc zero) k v = (refl, refl)
  spanned_bare false (suc zero) k v = (refl, refl)
  spanned_bare b (suc (suc zero)) k v = (refl, refl)
  spanned_bare b (suc (suc (suc m))) k v = (refl, refl)

  module _ (s : Spans) (read : ℕ → W) where
    bare_slot : (i : ℕ) → (weigh length (slots_of s read i) ≡ weigh length (bare s i)) × (is_damaged (slots_of s read i) ≡ is_damaged (bare s i))
    unfolding slots_of
    bare_slot i = spanned_bare (leb (end_at s i) (length s.arena)) (get_or s.marks i 0) (key_at s i) (read i)

    -- `used` is the same without the values.
    pub bare_total : (n : ℕ) → total length (slots_of s read) n ≡ total length (bare s) n
    unfolding total
    bare_total zero = refl
    bare_total (suc n) = omega (arith, bare_total n, (bare_slot n).0)

    -- And so is damage.
    pub bare_damaged : (n : ℕ) → any_damaged (slots_of s read) n ≡ any_damaged (bare s) n
    unfolding any_damaged
    bare_damaged zero = refl
    bare_damaged (suc n) = rw ((bare_slot n).1, bare_damaged n)

module _ (s : Spans) where
  -- A span inside the arena has as many bytes as its length says.
  pub key_length : (i : ℕ) → end_at s i ≤ length s.arena → length (key_at s i) ≡ length_of s i
  unfolding end_at key_at part
  key_length i l = length_part s.arena (offset_of s i) (length_of s i) l

  -- So much a slot adds to `used`, where live spans lie inside the arena.
  pub slot_counts : (i : ℕ) → (live_at s i → end_at s i ≤ length s.arena) → Counted (live_at s i) (weigh length (bare s i)) (length_of s i)
  unfolding weigh
  slot_counts i h = by_slot {W = Unit {0}} s (λ j. tt) i
      (λ a q. idle (λ b. omega arith) (ap (weigh length) q)) (λ a l q. counts a (ap (weigh length) q ∙ key_length i l)) (λ a l q. absurd (omega (arith, h a)))
      (λ a q. idle (λ b. omega arith) (ap (weigh length) q)) (λ a q. idle (λ b. omega arith) (ap (weigh length) q))

  -- No live span ends beyond u exactly when the test fails.
  pub beyond_not : (u n : ℕ) → ((i : ℕ) → i < n → live_at s i → end_at s i ≤ u) → beyond s u n ≡ false
  unfolding beyond
  beyond_not u zero h = refl
  beyond_not u (suc n) h = by_eq (get_or s.marks n 0) 1
      (λ q e. rw (e, le-ltb u (end_at s n) (h n (omega arith) q)) (beyond_not u n (λ i l. h i (omega arith))))
      (λ q e. rw e (beyond_not u n (λ i l. h i (omega arith))))

  pub beyond_none : (u n : ℕ) → beyond s u n ≡ false → (i : ℕ) → i < n → live_at s i → end_at s i ≤ u
  unfolding beyond
  beyond_none u zero e i l a = absurd (omega arith)
  beyond_none u (suc n) e i l a = by_bool (eqb (get_or s.marks n 0) 1 && ltb u (end_at s n))
      (λ t. clash (let z : true ≡ false = rw t at e in cc))
      (λ t. by_lt i n (λ b x. beyond_none u n (rw t at e) i b a)
      (λ b x. let q : i ≡ n = omega arith in subst (λ j. end_at s j ≤ u) (sym q) (ltb-false u (end_at s n) (rw (eq-eqb (get_or s.marks n 0) 1 (rw q at a)) at t))))

  -- What a table that is not harmful says: no slot is damaged, `used` is at most the arena, and no live span ends beyond `used`.
  pub unharmed_whole : full_damage s ≡ false → any_damaged (bare s) (length s.marks) ≡ false
  unfolding full_damage
  unharmed_whole e = by_bool (any_damaged (bare s) (length s.marks)) (λ t. clash (let z : true ≡ false = rw t at e in cc)) (λ t. t)

  pub unharmed_says : full_damage s ≡ false → (used_of s ≤ length s.arena) × ((i : ℕ) → live_at s i → end_at s i ≤ used_of s)
  unfolding full_damage
  unharmed_says e = by_lt (length s.arena) (used_of s)
      (λ l x. clash (let z : true ≡ false = rw (unharmed_whole e, x) at e in cc))
      (λ l x. (l, λ i a. beyond_none (used_of s) (length s.marks) (rw (unharmed_whole e, x) at e) i (live_below s.marks i a) a))

  -- And the three say that it is not harmful.
  pub says_unharmed : any_damaged (bare s) (length s.marks) ≡ false → used_of s ≤ length s.arena → ((i : ℕ) → live_at s i → end_at s i ≤ used_of s) → full_damage s ≡ false
  unfolding full_damage
  says_unharmed e u ends = rw (e, le-ltb (length s.arena) (used_of s) u) (beyond_not (used_of s) (length s.marks) (λ i l. ends i))
