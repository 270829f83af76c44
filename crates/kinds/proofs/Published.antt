-- The three demands for the published calls of any kind: the theory's theorems, through the calls that they carry out and the numbers that they tell.
use Prim.Native.Nat.{ℕ, suc}
use mathlib.Core.Bool.{true, false}
use mathlib.Core.List.{List, [], ◌∷◌}
use mathlib.Core.Option.{some}
use mathlib.Core.Path.{◌≡◌, refl, sym, ◌∙◌, ap, subst}
use native.Mathlib.Omega.{arith}
use borrow.Author.Tests.{ne_eqb}
use Rattle.model.specs.Slots.{live}
use Rattle.model.specs.Finite.{Finite, is_some, empty, insert, remove}
use Rattle.model.specs.Store.{Store}
use Rattle.model.specs.Calls.{Or, no, ok}
use Rattle.model.specs.Walk.{StepAnswer, pair, nothing, done}
use Rattle.model.specs.Machine as model
use Rattle.model.specs.Machine.{Own, inserts, removes, own, Answer, report, World}
use Rattle.model.specs.Lawful.{Lawful, Steady}
use Rattle.model.specs.Demand1.{Least, Rising, refusal, number_in}
use Rattle.model.specs.Demand2.{becomes, next, renews, grows, mapped, Book}
use Rattle.model.specs.Demand3.{walk_after, handed, Walked, LawfulMachine}
use Rattle.model.specs.Tables.{Sure}
use Rattle.model.specs.Runs.{run, booked_all, CopiesKnown}
use Rattle.model.specs.Iterated.{only_steps, Iterated}
use Rattle.model.specs.Places.{Places, Apart, run_names}
use Rattle.model.proofs.Cases.{clash}
use Rattle.model.proofs.Least.{lowest}
use Rattle.model.proofs.Places.{run_named}
use Rattle.model.proofs.Numbered.{Numbered, numbered_no, numbered_ok}
use Rattle.model.proofs.Tables.{sure_healthy, sure_looks, sure_counts, sure_paces}
use Rattle.model.proofs.Runs.{placed_here, booked_world, booked_all_shows, booked_all_sure, booked_all_stands, known_stays}
use Rattle.model.proofs.Demand3.{demand_3}
use Rattle.model.proofs.Iterated.{walk_iterated}
use Rattle.answers.specs.Cases.{PAIR}
use Rattle.answers.specs.declared.Numbers.{Numbers}
use Rattle.answers.specs.Said.{step_said}
use Rattle.kinds.specs.Told.{told}
use Rattle.kinds.specs.Owed.{refusing}
use Rattle.kinds.specs.Published.{Published, Linked, noted, noted_all, unknown, Right, Duty, told_and_left, ToldInStep, told_end, told_call, Step, by_value, lent, budget_of, left_walk, step_told, walks, after_calls, walk_of, heard_as}

module _ {K W : Type 0} where
  -- a step's numbers, heard, are the step: where no refusal is 0, and a pair's numbers tell its key and value
  pub heard_step : (key : Numbers → K) (val : Numbers → W) (hand : K → W → ℕ → ℕ → Numbers) (a : ℕ) (o : Or (StepAnswer K W)) → Numbered o → ((k : K) (v : W) (x e : ℕ) → o ≡ ok (pair k v x e) → ((hand k v x e).refusal ≡ 0) × ((hand k v x e).case ≡ PAIR) × (key (hand k v x e) ≡ k) × (val (hand k v x e) ≡ v) × ((hand k v x e).walk ≡ x) × ((hand k v x e).examined ≡ e)) → heard_as key val (step_said hand a o) ≡ o
  unfolding heard_as step_said
  heard_step key val hand a o (numbered_no n) h = rw (ne_eqb (suc n) 0 (λ e. omega arith))
  heard_step key val hand a o (numbered_ok (pair k v x e)) h = let (p, c, q, r, w, d) = h k v x e refl in rw (q, r, w, d, p, c)
  heard_step key val hand a o (numbered_ok (nothing x e)) h = refl
  heard_step key val hand a o (numbered_ok (done x)) h = refl

  -- what a report's refusal is: the number of what it reports
  pub reported : {A : Type 0} (f : A → Answer K W) → ((a : A) → refusal (f a) ≡ 0) → (a : Or A) → refusal (report f a) ≡ number_in a
  unfolding report refusal number_in
  reported f z (no n) = refl
  reported f z (ok a) = z a

module _ {K W : Type 0} (M : Store K W) (P : Published M) (N : Linked M P) where
  -- Demand 1: where the numbers of a call's rows rise, the first that applies is the lowest.
  pub lowest_told : (w : World M) (x : ℕ) (c : P.Call) → Rising 0 (P.rows w x c) → Least (P.rows w x c) (P.tells w x c).refusal
  lowest_told w x c r = lowest (P.rows w x c) (P.tells w x c).refusal r (N.first w x c)

  -- A refused call leaves every lent place of every table as it was.
  pub refused_same : (w : World M) (x : ℕ) (c : P.Call) → P.amends c ≡ false → ((P.tells w x c).refusal ≡ 0 → ⊥) → P.after w x c ≡ w
  unfolding run
  refused_same w x c a h = N.memory w x c ∙ ap (run M w) (N.still w x c a h)

  -- A call changes no lent place that none of the calls that it carries out names.
  pub named_only : Steady M → (Q : Places M) → Apart M Q → (w : World M) (x : ℕ) (c : P.Call) (y : ℕ) (p : Q.Place) → run_names M Q p y w (P.meant w x c) ≡ false → Q.word (P.after w x c y) p ≡ Q.word (w y) p
  named_only T Q A w x c y p e = rw (N.memory w x c) (run_named M Q A T (P.meant w x c) w y p e)

  -- The tables and their maps after a published call are as after the calls of the theory that it carries out.
  pub noted_booked : (s : Book M) (x : ℕ) (c : P.Call) → noted M P s x c ≡ booked_all M s (P.meant s.world x c)
  noted_booked s x c = let e = N.memory s.world x c ∙ sym (booked_world M (P.meant s.world x c) s) in λ i. record { world = e i; maps = (booked_all M s (P.meant s.world x c)).maps }

  pub noted_right : Lawful M → (s : Book M) → Right M P s → (x : ℕ) (c : P.Call) → Right M P (noted M P s x c)
  noted_right L s h x c = subst (λ t. Right M P t) (sym (noted_booked s x c)) (booked_all_shows M L (P.meant s.world x c) s h (N.accepted s.world x c))

  pub noted_all_right : Lawful M → (cs : List (ℕ × P.Call)) (s : Book M) → Right M P s → Right M P (noted_all M P s cs)
  unfolding noted_all
  noted_all_right L [] s h = h
  noted_all_right L (c ∷ cs) s h = noted_all_right L cs (noted M P s c.0 c.1) (noted_right L s h c.0 c.1)

  -- A call that carries out one call of the theory leaves its table known as the bookkeeping says.
  pub one_known : (s : Book M) (x : ℕ) (c : P.Call) (d : model.Call K W) → P.meant s.world x c ≡ (x, d) ∷ [] → (noted M P s x c).maps x ≡ next M s.world s.maps x d
  unfolding booked_all becomes
  one_known s x c d e = ap (λ cs. (booked_all M s cs).maps x) e ∙ placed_here s.maps x (next M s.world s.maps x d)

  -- A make or a clear makes its table known, as empty, whatever its memory.
  pub made_known : (s : Book M) (x : ℕ) (c : P.Call) (o : Own K W) → P.meant s.world x c ≡ (x, own o) ∷ [] → renews M o ≡ true → (noted M P s x c).maps x ≡ some empty
  unfolding next
  made_known s x c o p q = one_known s x c (own o) p ∙ rw q

  -- After an insert or a remove on a known table the map is known with the key, or without it.
  pub inserted_known : (s : Book M) (x : ℕ) (c : P.Call) (k : K) (v : W) (f : Finite K W) → P.meant s.world x c ≡ (x, own (inserts k v)) ∷ [] → s.maps x ≡ some f → (noted M P s x c).maps x ≡ some (insert M.keys f k v)
  unfolding next renews mapped grows
  inserted_known s x c k v f p e = one_known s x c (own (inserts k v)) p ∙ rw e

  pub removed_known : (s : Book M) (x : ℕ) (c : P.Call) (k : K) (f : Finite K W) → P.meant s.world x c ≡ (x, own (removes k)) ∷ [] → s.maps x ≡ some f → (noted M P s x c).maps x ≡ some (remove M.keys f k)
  unfolding next renews mapped grows
  removed_known s x c k f p e = one_known s x c (own (removes k)) p ∙ rw e

  -- A known table stays known after every call that carries out no copy onto it from a table that is not.
  pub stays_known : (s : Book M) (x : ℕ) → is_some (s.maps x) ≡ true → (z : ℕ) (c : P.Call) → CopiesKnown M x s (P.meant s.world z c) → is_some ((noted M P s z c).maps x) ≡ true
  stays_known s x k z c h = known_stays M x (P.meant s.world z c) s k h

  -- Demand 2: any list of published calls over any number of tables, on any memory.
  pub told_in_step : Lawful M → (D : Duty M P) → ((s : Book M) → Right M P s → (x : ℕ) (c : P.Call) (f : Finite K W) → s.maps x ≡ some f → D s x f c (told_and_left M P s.world x c)) → (cs : List (ℕ × P.Call)) (s : Book M) → Right M P s → ToldInStep M P D cs s
  told_in_step L D owed [] s h = told_end h
  told_in_step L D owed (c ∷ cs) s h = told_call h (owed s h c.0 c.1) (told_in_step L D owed cs (noted M P s c.0 c.1) (noted_right L s h c.0 c.1))

  -- Read off a list that runs in step: what is known at its start is so, its first call tells what it owes, and the rest runs in step.
  pub told_right : (D : Duty M P) (cs : List (ℕ × P.Call)) (s : Book M) → ToldInStep M P D cs s → Right M P s
  told_right D cs s (told_end h) = h
  told_right D cs s (told_call h o r) = h

  pub told_owed : (D : Duty M P) (x : ℕ) (c : P.Call) (cs : List (ℕ × P.Call)) (s : Book M) → ToldInStep M P D ((x, c) ∷ cs) s → (f : Finite K W) → s.maps x ≡ some f → D s x f c (told_and_left M P s.world x c)
  told_owed D x c cs s (told_call h o r) = o

  pub told_rest : (D : Duty M P) (x : ℕ) (c : P.Call) (cs : List (ℕ × P.Call)) (s : Book M) → ToldInStep M P D ((x, c) ∷ cs) s → ToldInStep M P D cs (noted M P s x c)
  told_rest D x c cs s (told_call h o r) = r

  -- A refused lent step tells its number and zeros elsewhere, and leaves the walk as it came.
  pub lent_zeros : (w : World M) (x a b : ℕ) → (P.tells w x (P.step a b) ≡ refusing (P.tells w x (P.step a b)).refusal a) → P.lent_by w x a b ≡ told (refusing (P.lent_by w x a b).numbers.refusal a) a
  lent_zeros w x a b z = rw (N.lends w x a b) (λ i. told (z i) (ap (λ n. n.walk) z i))

  -- A step tells the same, by value or lent.
  step_either : (w : World M) (x a : ℕ) (b : Step) → step_told M P w x a b ≡ P.tells w x (P.step a (budget_of b))
  unfolding step_told left_walk budget_of
  step_either w x a (by_value b) = refl
  step_either w x a (lent b) = rw (N.lends w x a b)

  -- a table that is still known after a published call is sound, of as many slots
  after_sure : Lawful M → (x S : ℕ) (s : Book M) (y : ℕ) (c : P.Call) → Sure M x S s → is_some ((noted M P s y c).maps x) ≡ true → Sure M x S (noted M P s y c)
  after_sure L x S s y c f a = subst (λ t. Sure M x S t) (sym (noted_booked s y c)) (booked_all_sure M L (P.meant s.world y c) x S s f (N.accepted s.world y c) a)

  -- Demand 3: a walk by its published steps, heard by what they tell.
  pub walks_lawful : Lawful M → (x S : ℕ) → LawfulMachine (walks M P x S)
  walks_lawful L x S = record {
    SoundState = λ s. Sure M x S s;
    table = λ s. M.slots (s.world x);
    shows = λ s f k. sure_looks M L x S s f k;
    counts = λ s f g e. sure_counts M L x S s f g e;
    whole = λ s f i l e. (sure_healthy M L x S s f).sound.whole i (rw f.sized l) e;
    once = λ s f i j k v u a b p q. (sure_healthy M L x S s f).sound.once i j k v u (rw f.sized a) (rw f.sized b) p q;
    after_sound = λ s c f a. after_sure L x S s c.0 c.1 f a;
    stands = λ s c f a i k v u d l p q. subst (λ t. M.slots (t.world x) i ≡ live k u) (sym (noted_booked s c.0 c.1)) (booked_all_stands M L (P.meant s.world c.0 c.1) x S s f (N.accepted s.world c.0 c.1) i k v u d l p q);
    paces = λ s f q a b. ap (P.heard (s.world x)) (step_either s.world x a b) ∙ N.hears s.world x a (budget_of b) ∙ sure_paces M L x S s f a (budget_of b);
  }

  -- a table whose map is known after any calls on any memory
  sure_after : Lawful M → (cs : List (ℕ × P.Call)) (w : World M) (x : ℕ) → is_some ((after_calls M P cs w).maps x) ≡ true → Sure M x (M.size ((after_calls M P cs w).world x)) (after_calls M P cs w)
  sure_after L cs w x k = record { shows = noted_all_right L cs (unknown M P w) (λ y f q. clash cc); known = k; sized = refl }

  pub walk_told : Lawful M → (cs : List (ℕ × P.Call)) (w : World M) (x : ℕ) → is_some ((after_calls M P cs w).maps x) ≡ true → Walked (walk_of M P cs w x) (after_calls M P cs w)
  unfolding walks_lawful
  walk_told L cs w x k =
      let s : Book M = after_calls M P cs w in
      demand_3 (walks M P x (M.size (s.world x))) (walks_lawful L x (M.size (s.world x))) s (sure_after L cs w x k)

  -- With no call in between: upstream's clauses for iter, keys and values.
  pub iterated_told : Lawful M → (cs : List (ℕ × P.Call)) (w : World M) (x : ℕ) (f : Finite K W) → (after_calls M P cs w).maps x ≡ some f → (bs : List Step) → walk_after (walk_of M P cs w x) (after_calls M P cs w) tt 0 (only_steps bs) ≡ M.size ((after_calls M P cs w).world x) → Iterated M.keys f (handed (walk_of M P cs w x) (after_calls M P cs w) tt 0 (only_steps bs))
  unfolding walks_lawful is_some
  iterated_told L cs w x f k bs e =
      let s : Book M = after_calls M P cs w in
      walk_iterated (walks M P x (M.size (s.world x))) (walks_lawful L x (M.size (s.world x))) s (sure_after L cs w x (ap (λ o. is_some o) k)) f k bs e
