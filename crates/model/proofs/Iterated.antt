-- A walk with no call in between hands out the table's pairs in slot order, which are upstream's iter, keys and values.
use Prim.Native.Nat.{ℕ, zero, suc, ◌≤◌, ◌<◌}
use mathlib.Core.Bool.{true, false}
use mathlib.Core.List.Memᴰ
use mathlib.Core.List.{List, [], ◌∷◌, ◌++◌, append_assoc, append-nil, Memᴰ}
use mathlib.Core.Option.{some}
use mathlib.Core.Path.{◌≡◌, refl, sym, ◌∙◌, ap, subst}
use mathlib.Core.Logic.{⊎_elim}
use native.Mathlib.Omega.{arith}
use lib.ListN.{length, length-append}
use Rattle.model.specs.Slots.{Slot, never, freed, damaged, live, Table, Keys, weigh, total, count, pair_of, pairs, look}
use Rattle.model.specs.Finite.{Finite, is_some, firsts, contains, len, finite_of}
use Rattle.model.specs.Calls.{Or, no, ok}
use Rattle.model.specs.Walk.{StepAnswer, halts, step, moved_by}
use Rattle.model.specs.Demand3.{Machine, pair_from, look_in, has, walk_after, times, handed, stays, lasts, Walked, LawfulMachine}
use Rattle.model.specs.Iterated.{only_steps, seconds, Iterated}
use Rattle.model.proofs.Cases.{by_lt, clash}
use Rattle.model.proofs.Slots.{look_some}
use Rattle.model.proofs.Sound.{once_look}
use Rattle.model.proofs.Walk.{Strode, strode_pair, strode_nothing, strode_done, strode}
use Rattle.model.proofs.Tables.{finite_proper}

module _ {K W : Type 0} where
  idle_pair : (s : Slot K W) → halts s ≡ false → pair_of s ≡ []
  unfolding halts pair_of
  idle_pair never e = refl
  idle_pair freed e = refl
  idle_pair damaged e = refl
  idle_pair (live a v) e = clash cc

  -- slots that are not live add no pair
  pairs_gap : (t : Table K W) (w j : ℕ) → w ≤ j → ((i : ℕ) → w ≤ i → i < j → halts (t i) ≡ false) → pairs t j ≡ pairs t w
  unfolding pairs
  pairs_gap t w zero l h = let e : w ≡ 0 = omega arith in rw e
  pairs_gap t w (suc j) l h = by_lt w (suc j)
      (λ c x. rw (idle_pair (t j) (h j (omega arith) (omega arith))) (append-nil (pairs t j) ∙ pairs_gap t w j (omega arith) (λ i a b. h i a (omega arith))))
      (λ c x. let e : w ≡ suc j = omega arith in rw e)

  live_pair : (s : Slot K W) (k : K) (v : W) → s ≡ live k v → pair_of s ≡ (k, v) ∷ []
  unfolding pair_of
  live_pair s k v e = rw e

  passed : (t : Table K W) (w j : ℕ) (k : K) (v : W) → w ≤ j → t j ≡ live k v → ((i : ℕ) → w ≤ i → i < j → halts (t i) ≡ false) → pairs t (suc j) ≡ pairs t w ++ ((k, v) ∷ [])
  unfolding pairs
  passed t w j k v l q c = rw (live_pair (t j) k v q, pairs_gap t w j l c)

  -- a step hands out the pairs of the slots that it passed
  step_pairs : (S : ℕ) (t : Table K W) (bar w b : ℕ) → pairs t (moved_by w (step S t bar w b)) ≡ pairs t w ++ pair_from (step S t bar w b)
  unfolding moved_by pair_from
  step_pairs S t bar w b = go (step S t bar w b) refl
    where
      told : (a : StepAnswer K W) → Strode S t w b a → pairs t (moved_by w (ok a)) ≡ pairs t w ++ pair_from (ok a)
      told a (strode_pair j k v lo hi u q c r) = rw r (passed t w j k v lo q c)
      told a (strode_nothing x lo hi u c r) = rw r (pairs_gap t w x (omega arith) c ∙ sym (append-nil (pairs t w)))
      told a (strode_done q r) = rw (r, ← q) (sym (append-nil (pairs t w)))

      go : (a : Or (StepAnswer K W)) → step S t bar w b ≡ a → pairs t (moved_by w a) ≡ pairs t w ++ pair_from a
      go (no n) p = sym (append-nil (pairs t w))
      go (ok a) p = told a (strode S t w bar b a p)

  pair_length : (s : Slot K W) → length (pair_of s) ≡ weigh (λ k. 1) s
  unfolding pair_of weigh
  pair_length never = refl
  pair_length freed = refl
  pair_length damaged = refl
  pair_length (live a v) = refl

  only_slot : (s : Slot K W) (k : K) (v : W) → Memᴰ (k, v) (pair_of s) → s ≡ live k v
  unfolding pair_of
  only_slot never k v m = absurd (Memᴰ.not-nil m)
  only_slot freed k v m = absurd (Memᴰ.not-nil m)
  only_slot damaged k v m = absurd (Memᴰ.not-nil m)
  only_slot (live a x) k v m = let e = Memᴰ.eq_of_singleton m in ap (λ p. live p.0 p.1) (sym e)

  pairs_length : (t : Table K W) (n : ℕ) → length (pairs t n) ≡ count t n
  unfolding pairs total
  pairs_length t zero = refl
  pairs_length t (suc n) = omega (arith, length-append (pairs t n) (pair_of (t n)), pairs_length t n, pair_length (t n))

  firsts_length : (ps : List (K × W)) → length (firsts ps) ≡ length ps
  unfolding firsts
  firsts_length [] = refl
  firsts_length (p ∷ ps) = ap suc (firsts_length ps)

  seconds_length : (ps : List (K × W)) → length (seconds ps) ≡ length ps
  unfolding seconds
  seconds_length [] = refl
  seconds_length (p ∷ ps) = ap suc (seconds_length ps)

  -- a pair among a table's pairs stands in a live slot, and each live slot's pair is there
  pair_slot : (t : Table K W) (n : ℕ) (k : K) (v : W) → Memᴰ (k, v) (pairs t n) → (i : ℕ) × (i < n) × (t i ≡ live k v)
  unfolding pairs
  pair_slot t zero k v m = absurd (Memᴰ.not-nil m)
  pair_slot t (suc n) k v m = ⊎_elim
      (λ a. let (i, l, e) = pair_slot t n k v a in (i, omega arith, e))
      (λ a. (n, omega arith, only_slot (t n) k v a))
      (Memᴰ.append_cases (pairs t n) m)

  slot_pair : (t : Table K W) (n i : ℕ) (k : K) (v : W) → i < n → t i ≡ live k v → Memᴰ (k, v) (pairs t n)
  unfolding pairs
  slot_pair t zero i k v l e = let z : ⊥ = omega arith in absurd z
  slot_pair t (suc n) i k v l e = by_lt i n
      (λ c x. Memᴰ.append_left (pair_of (t n)) (slot_pair t n i k v c e))
      (λ c x. let q : i ≡ n = omega arith in Memᴰ.append_right (pairs t n) (rw (live_pair (t n) k v (rw q at e)) (Memᴰ.head refl)))

  second_of : (k : K) (v : W) (ps : List (K × W)) → Memᴰ (k, v) ps → Memᴰ v (seconds ps)
  unfolding seconds
  second_of k v [] m = absurd (Memᴰ.not-nil m)
  second_of k v (p ∷ ps) (Memᴰ.head e) = Memᴰ.head (ap (λ x. x.1) e)
  second_of k v (p ∷ ps) (Memᴰ.tail m) = Memᴰ.tail (second_of k v ps m)

  of_second : (v : W) (ps : List (K × W)) → Memᴰ v (seconds ps) → (k : K) × Memᴰ (k, v) ps
  unfolding seconds
  of_second v [] m = absurd (Memᴰ.not-nil m)
  of_second v (p ∷ ps) (Memᴰ.head e) = (p.0, Memᴰ.head (ap (λ x. (p.0, x)) e))
  of_second v (p ∷ ps) (Memᴰ.tail m) = let (k, q) = of_second v ps m in (k, Memᴰ.tail q)

  -- the pairs of a table whose live keys stand once, and whose map is f, are upstream's iter, keys and values of f
  pub pairs_iterated : (E : Keys K) (S : ℕ) (t : Table K W) (f : Finite K W) → ((i j : ℕ) (k : K) (v w : W) → i < S → j < S → t i ≡ live k v → t j ≡ live k w → i ≡ j) → ((k : K) → look E t S k ≡ f.look k) → count t S ≡ len f → Iterated E f (pairs t S)
  unfolding finite_of contains
  pairs_iterated E S t f once looks counts = record {
    all = pairs_length t S ∙ counts;
    right = λ k v m. let (i, l, e) = pair_slot t S k v m in sym (looks k) ∙ once_look E S t once k i v l e;
    there = λ k v e. let (i, l, q) = look_some E k t S v (looks k ∙ e) in slot_pair t S i k v l q;
    once = (finite_proper E S t once).once;
    keys = λ k. (finite_proper E S t once).listed k ∙ ap (λ o. is_some o) (looks k);
    keys_all = firsts_length (pairs t S) ∙ pairs_length t S ∙ counts;
    values = λ v m. let (k, p) = of_second v (pairs t S) m in let (i, l, e) = pair_slot t S k v p in (k, sym (looks k) ∙ once_look E S t once k i v l e);
    values_there = λ k v e. let (i, l, q) = look_some E k t S v (looks k ∙ e) in second_of k v (pairs t S) (slot_pair t S i k v l q);
    values_all = seconds_length (pairs t S) ∙ pairs_length t S ∙ counts;
  }

module _ {K W : Type 0} (M : Machine K W) where
  stepped_pairs : (O : LawfulMachine M) (x : M.State) → O.SoundState x → (q : M.Ticket) (w : ℕ) (b : M.Step) → pairs (O.table x) (moved_by w (M.answers x q w b)) ≡ pairs (O.table x) w ++ pair_from (M.answers x q w b)
  stepped_pairs O x f q w b = rw (O.paces x f q w b) (step_pairs M.size (O.table x) (M.bar x q) w (M.budget b))

  -- steps with nothing between them hand out the pairs of the slots that they passed
  handed_pairs : (O : LawfulMachine M) (bs : List M.Step) (x : M.State) → O.SoundState x → (q : M.Ticket) (w : ℕ) → pairs (O.table x) (walk_after M x q w (only_steps bs)) ≡ pairs (O.table x) w ++ handed M x q w (only_steps bs)
  unfolding walk_after handed only_steps
  handed_pairs O [] x f q w = sym (append-nil (pairs (O.table x) w))
  handed_pairs O (b ∷ bs) x f q w =
      handed_pairs O bs x f q (moved_by w (M.answers x q w b))
      ∙ ap (λ ps. ps ++ handed M x q (moved_by w (M.answers x q w b)) (only_steps bs)) (stepped_pairs O x f q w b)
      ∙ append_assoc (pairs (O.table x) w) (pair_from (M.answers x q w b)) (handed M x q (moved_by w (M.answers x q w b)) (only_steps bs))

  -- a whole walk with no call in between: upstream's clauses for iter, keys and values
  pub walk_iterated : (O : LawfulMachine M) (x : M.State) → O.SoundState x → (f : Finite K W) → M.map x ≡ some f → (bs : List M.Step) → walk_after M x (M.ticket x) 0 (only_steps bs) ≡ M.size → Iterated M.keys f (handed M x (M.ticket x) 0 (only_steps bs))
  unfolding pairs look_in
  walk_iterated O x o f m bs e =
      let p : pairs (O.table x) M.size ≡ handed M x (M.ticket x) 0 (only_steps bs) = ap (λ n. pairs (O.table x) n) (sym e) ∙ handed_pairs O bs x o (M.ticket x) 0 in
      subst (λ ps. Iterated M.keys f ps) p (pairs_iterated M.keys M.size (O.table x) f (O.once x o) (λ k. O.shows x o k ∙ ap (λ g. look_in g k) m) (O.counts x o f m))

  -- every key stays, and the map stays known, where no call comes between
  unmoved : (k : K) (x : M.State) (bs : List M.Step) → has M x k ≡ true → stays M k x (only_steps bs) ≡ true
  unfolding stays only_steps
  unmoved k x [] h = h
  unmoved k x (b ∷ bs) h = rw h (unmoved k x bs h)

  unasked : (x : M.State) (bs : List M.Step) → lasts M x (only_steps bs) ≡ true
  unfolding lasts only_steps
  unasked x [] = refl
  unasked x (b ∷ bs) = unasked x bs

  -- so that demand 3 hands out each key of the map once
  pub walk_once : (x : M.State) → Walked M x → (k : K) (bs : List M.Step) → has M x k ≡ true → walk_after M x (M.ticket x) 0 (only_steps bs) ≡ M.size → times M k x (M.ticket x) 0 (only_steps bs) ≡ 1
  walk_once x p k bs h e = p.staying k (only_steps bs) (unasked x bs) (unmoved k x bs h) e
