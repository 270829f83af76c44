-- Demand 3 over any orderly machine: by one telescoping lemma, how often a staying key was handed out and whether its slot was passed change together.
use Prim.Native.Nat.{ℕ, suc, ◌+◌, ◌≤◌, ◌<◌}
use mathlib.Core.Bool.{true, false, cond, not, ◌&&◌}
use mathlib.Core.List.{[], ◌∷◌}
use mathlib.Core.Path.{◌≡◌, refl, sym, ◌∙◌, ap}
use mathlib.Core.Option.{some}
use native.Mathlib.Omega.{arith}
use borrow.Author.Tests.{lt-ltb, le-ltb, le-leb, ne_eqb, not-true}
use lib.Dec.{ltb, eqb}
use Rattle.model.specs.Slots.{Slot, never, freed, damaged, live, Table, Keys}
use Rattle.model.specs.Path.{from}
use Rattle.model.specs.Finite.{is_some}
use Rattle.model.specs.Calls.{Or, no, ok, need, pass}
use Rattle.model.specs.Walk.{StepAnswer, pair, halts, halted, reach_of, step_within, pace, step, moved_by}
use Rattle.model.specs.Demand3.{Machine, steps, calls, hands_out, unrefused, look_in, Run, has, state_after, walk_after, good, times, stays, lasts, Walked, LawfulMachine}
use Rattle.model.proofs.Cases.{by_bool, by_lt, by_eq, by_same, both, clash}
use Rattle.model.proofs.Slots.{look_some}
use Rattle.model.proofs.Finite.{some_is}
use Rattle.model.proofs.Sound.{once_look}
use Rattle.model.proofs.Walk.{Strode, strode_pair, strode_nothing, strode_done, strode, reach_high}

-- 1 where the slot i lies before w
past : ℕ → ℕ → ℕ
past i w = cond (ltb i w) 1 0

past_one : (i w : ℕ) → i < w → past i w ≡ 1
unfolding past
past_one i w l = rw (lt-ltb i w l)

past_none : (i w : ℕ) → w ≤ i → past i w ≡ 0
unfolding past
past_none i w l = rw (le-ltb i w l)

-- a slot on one side of both is passed by both or by none
past_same : (i w x : ℕ) → (i < w → i < x) → (w ≤ i → x ≤ i) → 0 + past i w ≡ past i x
past_same i w x a b = by_lt i w (λ l e. omega (arith, past_one i w l, past_one i x (a l))) (λ l e. omega (arith, past_none i w l, past_none i x (b l)))

halts_live : {K W : Type 0} (s : Slot K W) (k : K) (v : W) → s ≡ live k v → halts s ≡ true
unfolding halts
halts_live s k v e = rw e

-- a slot that does not halt a step is not live
pub not_between : {K W : Type 0} (t : Table K W) (i : ℕ) (k : K) (v : W) → t i ≡ live k v → halts (t i) ≡ false → ⊥
not_between t i k v e h = let q : true ≡ false = sym (halts_live (t i) k v e) ∙ h in clash cc

module _ {K W : Type 0} (E : Keys K) (S : ℕ) (t : Table K W) (once : (i j : ℕ) (k : K) (v w : W) → i < S → j < S → t i ≡ live k v → t j ≡ live k w → i ≡ j) where
  -- one step: the key at slot i is handed out exactly when the step passes i
  step_past : (bar w b i : ℕ) (k : K) (v : W) → i < S → t i ≡ live k v → hands_out E k (step S t bar w b) + past i w ≡ past i (moved_by w (step S t bar w b))
  unfolding hands_out moved_by
  step_past bar w b i k v l e = go (step S t bar w b) refl
    where
      told : (a : StepAnswer K W) → Strode S t w b a → hands_out E k (ok a) + past i w ≡ past i (moved_by w (ok a))
      told a (strode_pair j k' v' lo hi u q none_between r) = rw r (by_same E k k'
          (λ s x. let d : i ≡ j = once i j k v v' l hi e (q ∙ ap (λ y. live y v') (sym s)) in
          rw x (omega (arith, past_none i w (omega arith), past_one i (suc j) (omega arith))))
          (λ x. rw x (past_same i w (suc j) (λ y. omega arith)
          (λ y. by_lt i j
          (λ z o. absurd (not_between t i k v e (none_between i y z)))
          (λ z o. by_eq i j
          (λ d p. let m : live k v ≡ live k' v' = sym e ∙ ap t d ∙ q in
          let c : k ≡ k' = cc in
          let f : true ≡ false = sym (E.self k) ∙ ap (λ a. E.same k a) c ∙ x in
          clash cc)
          (λ d p. omega arith))))))
      told a (strode_nothing x lo hi u none_between r) = rw r (past_same i w x (λ y. omega arith) (λ y. by_lt i x (λ z o. absurd (not_between t i k v e (none_between i y z))) (λ z o. z)))
      told a (strode_done q r) = rw (r, q) (omega arith)

      go : (a : Or (StepAnswer K W)) → step S t bar w b ≡ a → hands_out E k a + past i w ≡ past i (moved_by w a)
      go (no n) p = omega arith
      go (ok a) p = told a (strode S t w bar b a p)

module _ {K W : Type 0} (S : ℕ) (t : Table K W) where
  pub step_high : (bar w b : ℕ) → w ≤ S → moved_by w (step S t bar w b) ≤ S
  unfolding moved_by
  step_high bar w b l = go (step S t bar w b) refl
    where
      told : (a : StepAnswer K W) → Strode S t w b a → moved_by w (ok a) ≤ S
      told a (strode_pair j k v lo hi u q c r) = rw r hi
      told a (strode_nothing x lo hi u c r) = rw r hi
      told a (strode_done q r) = rw r (omega arith)

      go : (a : Or (StepAnswer K W)) → step S t bar w b ≡ a → moved_by w a ≤ S
      go (no n) p = l
      go (ok a) p = told a (strode S t w bar b a p)

  step_moves : (bar w b r : ℕ) → w ≤ S → S ≤ unrefused (step S t bar w b) + r + w → S ≤ r + moved_by w (step S t bar w b)
  unfolding moved_by unrefused
  step_moves bar w b r l h = go (step S t bar w b) refl h
    where
      told : (a : StepAnswer K W) → Strode S t w b a → S ≤ 1 + r + w → S ≤ r + moved_by w (ok a)
      told a (strode_pair j k v lo hi u q c p) h = rw p (omega arith)
      told a (strode_nothing x lo hi u c p) h = rw p (omega arith)
      told a (strode_done q p) h = rw p (omega arith)

      go : (a : Or (StepAnswer K W)) → step S t bar w b ≡ a → S ≤ unrefused a + r + w → S ≤ r + moved_by w a
      go (no n) p h = omega arith
      go (ok a) p h = told a (strode S t w bar b a p) h

  step_pair : (bar w b : ℕ) (k : K) (v : W) (y n : ℕ) → step S t bar w b ≡ ok (pair k v y n) → (j : ℕ) × (w ≤ j) × (j < S) × (t j ≡ live k v) × (y ≡ suc j)
  step_pair bar w b k v y n e = go (strode S t w bar b (pair k v y n) e)
    where
      go : Strode S t w b (pair k v y n) → (j : ℕ) × (w ≤ j) × (j < S) × (t j ≡ live k v) × (y ≡ suc j)
      go (strode_pair j a x lo hi u q c p) = (j, lo, hi, q ∙ ap (λ z. live z x) (cc) ∙ ap (λ z. live k z) (cc), cc)
      go (strode_nothing x lo hi u c p) = clash cc
      go (strode_done q p) = clash cc

  halted_unrefused : (w j : ℕ) (s : Slot K W) → (s ≡ damaged → ⊥) → unrefused (halted w j s) ≡ 1
  unfolding halted unrefused
  halted_unrefused w j never h = refl
  halted_unrefused w j freed h = refl
  halted_unrefused w j damaged h = absurd (h refl)
  halted_unrefused w j (live a v) h = refl

  pub step_going : (w b : ℕ) → ((i : ℕ) → i < S → t i ≡ damaged → ⊥) → 0 < b → w ≤ S → unrefused (step S t 0 w b) ≡ 1
  unfolding step pace step_within need pass unrefused
  step_going w b whole l h = rw (ne_eqb b 0 (omega arith), le-leb w S h) (by_bool (eqb w S) (λ e. rw e)
      (λ e. rw e (by_lt (from (λ i. halts (t i)) (reach_of S w b) w) (w + reach_of S w b)
      (λ c p. rw p (halted_unrefused w (from (λ i. halts (t i)) (reach_of S w b) w) (t (from (λ i. halts (t i)) (reach_of S w b) w)) (whole (from (λ i. halts (t i)) (reach_of S w b) w) (omega (arith, reach_high S w b)))))
      (λ c p. rw p))))

module _ {K W : Type 0} (M : Machine K W) (O : LawfulMachine M) where
  -- a key that stays is in the map now
  stay_now : (es : Run M) (x : M.State) (k : K) → stays M k x es ≡ true → (v : W) × (look_in (M.map x) k ≡ some v)
  unfolding stays has
  stay_now [] x k s = some_is M.keys (look_in (M.map x) k) s
  stay_now (steps b ∷ es) x k s = some_is M.keys (look_in (M.map x) k) (both (has M x k) (stays M k x es) s).0
  stay_now (calls c ∷ es) x k s = some_is M.keys (look_in (M.map x) k) (both (has M x k) (not (M.drops x c k) && stays M k (M.after x c) es) s).0

  -- what comes after a call of a run along which the map is known: it is known, the rest lasts, the key was not removed, and it is there with a value
  onwards : (c : M.Call) (es : Run M) (x : M.State) (k : K) → lasts M x (calls c ∷ es) ≡ true → stays M k x (calls c ∷ es) ≡ true → (is_some (M.map (M.after x c)) ≡ true) × (lasts M (M.after x c) es ≡ true) × (M.drops x c k ≡ false) × (stays M k (M.after x c) es ≡ true) × ((w : W) × (look_in (M.map (M.after x c)) k ≡ some w))
  unfolding stays lasts
  onwards c es x k z s =
      let (g, y) = both (is_some (M.map (M.after x c))) (lasts M (M.after x c) es) z in
      let a = (both (has M x k) (not (M.drops x c k) && stays M k (M.after x c) es) s).1 in
      let (n, r) = both (not (M.drops x c k)) (stays M k (M.after x c) es) a in
      (g, y, not-true (M.drops x c k) n, r, stay_now es (M.after x c) k r)

  -- a key that stays, stays in its slot; and it is handed out exactly when the walk passes that slot
  stay_slot : (es : Run M) (x : M.State) → O.SoundState x → lasts M x es ≡ true → (k : K) (i : ℕ) (v : W) → i < M.size → O.table x i ≡ live k v → stays M k x es ≡ true → (w : W) × (O.table (state_after M x es) i ≡ live k w)
  unfolding stays state_after lasts
  stay_slot [] x f z k i v l e s = (v, e)
  stay_slot (steps b ∷ es) x f z k i v l e s = stay_slot es x f z k i v l e (both (has M x k) (stays M k x es) s).1
  stay_slot (calls c ∷ es) x f z k i v l e s =
      let (g, y, n, r, (w, p)) = onwards c es x k z s in
      stay_slot es (M.after x c) (O.after_sound x c f g) y k i w l (O.stands x c f g i k v w n l e p) r

  stepped_past : (x : M.State) (q : M.Ticket) (w : ℕ) (b : M.Step) → O.SoundState x → (k : K) (i : ℕ) (v : W) → i < M.size → O.table x i ≡ live k v → hands_out M.keys k (M.answers x q w b) + past i w ≡ past i (moved_by w (M.answers x q w b))
  stepped_past x q w b f k i v l e = rw (O.paces x f q w b) (step_past M.keys M.size (O.table x) (O.once x f) (M.bar x q) w (M.budget b) i k v l e)

  times_past : (es : Run M) (x : M.State) (q : M.Ticket) (w : ℕ) → O.SoundState x → lasts M x es ≡ true → (k : K) (i : ℕ) (v : W) → i < M.size → O.table x i ≡ live k v → stays M k x es ≡ true → times M k x q w es + past i w ≡ past i (walk_after M x q w es)
  unfolding stays times walk_after lasts
  times_past [] x q w f z k i v l e s = omega arith
  times_past (steps b ∷ es) x q w f z k i v l e s =
      let one = stepped_past x q w b f k i v l e in
      let rest = times_past es x q (moved_by w (M.answers x q w b)) f z k i v l e (both (has M x k) (stays M k x es) s).1 in
      omega (arith, one, rest)
  times_past (calls c ∷ es) x q w f z k i v l e s =
      let (g, y, n, r, (u, p)) = onwards c es x k z s in
      times_past es (M.after x c) q w (O.after_sound x c f g) y k i u l (O.stands x c f g i k v u n l e p) r

  fine_after : (es : Run M) (x : M.State) → O.SoundState x → lasts M x es ≡ true → O.SoundState (state_after M x es)
  unfolding state_after lasts
  fine_after [] x f z = f
  fine_after (steps b ∷ es) x f z = fine_after es x f z
  fine_after (calls c ∷ es) x f z = let (g, y) = both (is_some (M.map (M.after x c))) (lasts M (M.after x c) es) z in fine_after es (M.after x c) (O.after_sound x c f g) y

  -- a step leaves the walk within the slots, and an unrefused one moves it on
  stepped_high : (x : M.State) (q : M.Ticket) (w : ℕ) (b : M.Step) → O.SoundState x → w ≤ M.size → moved_by w (M.answers x q w b) ≤ M.size
  stepped_high x q w b f l = rw (O.paces x f q w b) (step_high M.size (O.table x) (M.bar x q) w (M.budget b) l)

  walk_high : (es : Run M) (x : M.State) (q : M.Ticket) (w : ℕ) → O.SoundState x → lasts M x es ≡ true → w ≤ M.size → walk_after M x q w es ≤ M.size
  unfolding walk_after lasts
  walk_high [] x q w f z l = l
  walk_high (steps b ∷ es) x q w f z l = walk_high es x q (moved_by w (M.answers x q w b)) f z (stepped_high x q w b f l)
  walk_high (calls c ∷ es) x q w f z l = let (g, y) = both (is_some (M.map (M.after x c))) (lasts M (M.after x c) es) z in walk_high es (M.after x c) q w (O.after_sound x c f g) y l

  stepped_moves : (x : M.State) (q : M.Ticket) (w : ℕ) (b : M.Step) (r : ℕ) → O.SoundState x → w ≤ M.size → M.size ≤ unrefused (M.answers x q w b) + r + w → M.size ≤ r + moved_by w (M.answers x q w b)
  stepped_moves x q w b r f l h = rw (O.paces x f q w b) (step_moves M.size (O.table x) (M.bar x q) w (M.budget b) r l (rw (O.paces x f q w b) at h))

  good_ends : (es : Run M) (x : M.State) (q : M.Ticket) (w : ℕ) → O.SoundState x → lasts M x es ≡ true → w ≤ M.size → M.size ≤ good M x q w es + w → walk_after M x q w es ≡ M.size
  unfolding walk_after good lasts
  good_ends [] x q w f z l h = omega arith
  good_ends (steps b ∷ es) x q w f z l h = good_ends es x q (moved_by w (M.answers x q w b)) f z (stepped_high x q w b f l) (stepped_moves x q w b (good M x q (moved_by w (M.answers x q w b)) es) f l h)
  good_ends (calls c ∷ es) x q w f z l h = let (g, y) = both (is_some (M.map (M.after x c))) (lasts M (M.after x c) es) z in good_ends es (M.after x c) q w (O.after_sound x c f g) y l h

  going_on : (x : M.State) (q : M.Ticket) (w : ℕ) (b : M.Step) → O.SoundState x → 0 < M.budget b → w ≤ M.size → M.bar x q ≡ 0 → unrefused (M.answers x q w b) ≡ 1
  going_on x q w b f l h e = rw (O.paces x f q w b, e) (step_going M.size (O.table x) w (M.budget b) (O.whole x f) l h)

  -- a step that hands out a pair stopped at its live slot
  stepped_pair : (x : M.State) (q : M.Ticket) (w : ℕ) (b : M.Step) → O.SoundState x → (k : K) (v : W) (y n : ℕ) → M.answers x q w b ≡ ok (pair k v y n) → (j : ℕ) × (w ≤ j) × (j < M.size) × (O.table x j ≡ live k v) × (y ≡ suc j)
  stepped_pair x q w b f k v y n e = step_pair M.size (O.table x) (M.bar x q) w (M.budget b) k v y n (sym (O.paces x f q w b) ∙ e)

  -- demand 3
  pub demand_3 : (x : M.State) → O.SoundState x → Walked M x
  demand_3 x f = record {
    ending = λ es t h. good_ends es x (M.ticket x) 0 f t (omega arith) (omega arith);
    going = λ es b t l e. going_on (state_after M x es) (M.ticket x) (walk_after M x (M.ticket x) 0 es) b (fine_after es x f t) l (walk_high es x (M.ticket x) 0 f t (omega arith)) e;
    staying = λ k es t s h.
        let (v, p) = stay_now es x k s in
        let (i, l, e) = look_some M.keys k (O.table x) M.size v (O.shows x f k ∙ p) in
        omega (arith, times_past es x (M.ticket x) 0 f t k i v l e s, past_none i 0 (omega arith), past_one i (walk_after M x (M.ticket x) 0 es) (omega arith));
    present = λ es b k v y n t e.
        let (j, a, l, q, z) = stepped_pair (state_after M x es) (M.ticket x) (walk_after M x (M.ticket x) 0 es) b (fine_after es x f t) k v y n e in
        sym (O.shows (state_after M x es) (fine_after es x f t) k) ∙ once_look M.keys M.size (O.table (state_after M x es)) (O.once (state_after M x es) (fine_after es x f t)) k j v l q;
    apart = λ es fs b c k v u y n z i ta tb e g. by_bool (stays M k (state_after M x es) fs)
        (λ s.
        let f' = fine_after es x f ta in
        let (j, a, l, q, d) = stepped_pair (state_after M x es) (M.ticket x) (walk_after M x (M.ticket x) 0 es) b f' k v y n e in
        let f'' = fine_after fs (state_after M x es) f' tb in
        let (j', a', l', q', d') = stepped_pair (state_after M (state_after M x es) fs) (M.ticket x) (walk_after M (state_after M x es) (M.ticket x) y fs) c f'' k u z i g in
        let (o, p) = stay_slot fs (state_after M x es) f' tb k j v l q s in
        let t = times_past fs (state_after M x es) (M.ticket x) y f' tb k j v l q s in
        let h : j ≡ j' = O.once (state_after M (state_after M x es) fs) f'' j j' k o u l l' p q' in
        absurd (omega (arith, past_one j y (omega arith), past_none j (walk_after M (state_after M x es) (M.ticket x) y fs) (omega arith))))
        (λ s. s);
  }
