-- What the probing of a key says of the union's needs and of its insert rule, and what slots that are not live hold, at any store.
use Prim.Native.Nat.{ℕ, zero, suc}
use mathlib.Core.List.{List, [], ◌∷◌, ◌++◌}
use mathlib.Core.Path.{◌≡◌, refl}
use lib.Dec.{ltb}
use Rattle.model.specs.Slots.{weigh, pair_of, pairs}
use Rattle.model.specs.Path.{Find, hit, miss, damage}
use Rattle.model.specs.Store.{Store, path, slot_at}
use Rattle.model.specs.Calls.{missed, lacking, rule_by, rule, store_all}
use Rattle.model.proofs.Cases.{by_bool}
use Rattle.kinds.specs.Marks.{cell}
use Rattle.kinds.specs.Probing.{along, missed_of}
use Rattle.kinds.specs.Stores.{slot_in, slot_stored, all_stored}
use Rattle.std.specs.Prelude.{Result, Ok, Err}
use Rattle.answers.specs.declared.Refusal.{Refusal}
use Rattle.kinds.specs.declared.Probed.{Probed}
use Rattle.kinds.specs.declared.Probed.TheVariants.{Hit, Free, Full}

-- What the rule leaves where the probing of the key ended so.
abbrev pub rule_of : {K W : Type 0} (M : Store K W) → M.State → K → W → Result Probed Refusal → M.State
rule_of M m k v (Ok (Hit s e)) = M.over m s v
rule_of M m k v (Ok (Free s e)) = M.fill m s k v
rule_of M m k v (Ok (Full e)) = m
rule_of M m k v (Err r) = m

module _ {K W : Type 0} (M : Store K W) (m : M.State) (k : K) where
  missed_along : (S h : ℕ) (x : Find W) → missed M x ≡ missed_of (along S h x)
  unfolding missed along
  missed_along S h (hit n v) = refl
  missed_along S h (miss e f) = by_bool (ltb f S) (λ t. rw t) (λ t. rw t)
  missed_along S h damage = refl

  rule_along : (v : W) (x : Find W) → rule_by M m k v x ≡ rule_of M m k v (along (M.size m) (M.home m k) x)
  unfolding rule_by along slot_at
  rule_along v (hit n w) = refl
  rule_along v (miss e f) = by_bool (ltb f (M.size m)) (λ t. rw t) (λ t. rw t)
  rule_along v damage = refl

  -- where the probing answered the key's path, in slots
  module _ {r : Result Probed Refusal} (p : r ≡ along (M.size m) (M.home m k) (path M m k)) where
    pub lacking_probed : lacking M m k ≡ missed_of r
    unfolding lacking
    lacking_probed = rw p (missed_along (M.size m) (M.home m k) (path M m k))

    pub rule_probed : (v : W) → rule M m k v ≡ rule_of M m k v r
    unfolding rule
    rule_probed v = rw p (rule_along v (path M m k))

-- two lists of pairs, one after the other
store_append : {K W : Type 0} (M : Store K W) (ps qs : List (K × W)) (m : M.State) → store_all M m (ps ++ qs) ≡ store_all M (store_all M m ps) qs
unfolding store_all
store_append M [] qs m = refl
store_append M (p ∷ ps) qs m = store_append M ps qs (rule M m p.0 p.1)

module _ {K W : Type 0} where
  -- a slot that is not live weighs nothing
  pub weigh_idle : (g : K → ℕ) (mark : ℕ) (k : K) (v : W) → (mark ≡ 1 → ⊥) → weigh g (cell mark k v) ≡ 0
  unfolding weigh cell
  weigh_idle g zero k v h = refl
  weigh_idle g (suc zero) k v h = absurd (h refl)
  weigh_idle g (suc (suc zero)) k v h = refl
  weigh_idle g (suc (suc (suc m))) k v h = refl

  -- and has no pair
  pair_idle : (mark : ℕ) (k : K) (v : W) → (mark ≡ 1 → ⊥) → pair_of (cell mark k v) ≡ []
  unfolding pair_of cell
  pair_idle zero k v h = refl
  pair_idle (suc zero) k v h = absurd (h refl)
  pair_idle (suc (suc zero)) k v h = refl
  pair_idle (suc (suc (suc m))) k v h = refl

module _ {K W : Type 0} (M : Store K W) (l : M.State) where
  module _ (mark : ℕ) (k : K) (v : W) where
    -- a live slot's pair goes in by the rule
    pub slot_live : {m : M.State} → mark ≡ 1 → m ≡ rule M l k v → m ≡ slot_stored M l (cell mark k v)
    unfolding slot_stored store_all pair_of cell
    slot_live e p = rw e p

    -- another slot stores nothing
    pub slot_idle : (mark ≡ 1 → ⊥) → l ≡ slot_stored M l (cell mark k v)
    unfolding slot_stored store_all
    slot_idle h = rw (pair_idle mark k v h)

  module _ (r : M.State) where
    -- of no slot nothing is stored
    pub stored_none : l ≡ all_stored M l r 0
    unfolding all_stored store_all pairs
    stored_none = refl

    -- the pair of the last slot goes in last
    pub stored_last : (i : ℕ) → all_stored M l r (suc i) ≡ slot_stored M (all_stored M l r i) (slot_in M r i)
    unfolding all_stored slot_stored slot_in pairs
    stored_last i = store_append M (pairs (M.slots r) i) (pair_of (M.slots r i)) l
