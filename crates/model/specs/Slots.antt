-- What a slot holds, tables of slots, and what is counted over them.
use Rattle.std.specs.Prelude.{ℕ, zero, suc, ◌+◌, Bool, true, false, cond, List, [], ◌∷◌, ◌++◌, ◌≡◌, eqb}
use Rattle.std.proofs.Math.Option.{Option, none, some}

-- A slot was never used, was freed, is damaged, or is live with a key and a value.
pub data Slot (K W : Type 0) : Type 0 where
  never freed damaged : Slot K W
  live : K → W → Slot K W

-- A table gives each slot number its slot.
abbrev pub Table : Type 0 → Type 0 → Type 0
Table K W = ℕ → Slot K W

-- Keys whose equality is decided by a test.
pub record Keys (K : Type 0) : Type 0 where
  pub same : K → K → Bool
  pub right : (a b : K) → same a b ≡ true → a ≡ b
  pub self : (a : K) → same a a ≡ true

-- The table with the slot s at i.
unfoldable pub put : {K W : Type 0} → Table K W → ℕ → Slot K W → Table K W
put t i s j = cond (eqb j i) s (t j)

-- The made table: no slot was ever used.
unfoldable pub made : {K W : Type 0} → Table K W
made i = never

-- A slot that an insert may take: mark 0 or 2.
unfoldable pub frees : {K W : Type 0} → Slot K W → Bool
frees never = true
frees freed = true
frees damaged = false
frees (live a v) = false

-- A slot with a mark above 2, or live with a span past the arena.
unfoldable pub is_damaged : {K W : Type 0} → Slot K W → Bool
is_damaged never = false
is_damaged freed = false
is_damaged damaged = true
is_damaged (live a v) = false

-- A slot that is live and holds the key.
unfoldable pub holds : {K W : Type 0} → Keys K → K → Slot K W → Bool
holds E k never = false
holds E k freed = false
holds E k damaged = false
holds E k (live a v) = E.same k a

-- The weight of a slot's key where it is live.
unfoldable pub weigh : {K W : Type 0} → (K → ℕ) → Slot K W → ℕ
weigh g never = 0
weigh g freed = 0
weigh g damaged = 0
weigh g (live a v) = g a

-- The weights of the live keys of the first n slots: with weight 1 the length, with the keys' lengths `used`.
unfoldable pub total : {K W : Type 0} → (K → ℕ) → Table K W → ℕ → ℕ
total g t zero = 0
total g t (suc n) = total g t n + weigh g (t n)

-- How many of the first n slots are live.
abbrev pub count : {K W : Type 0} → Table K W → ℕ → ℕ
count t n = total (λ k. 1) t n

-- Whether one of the first n slots is damaged.
unfoldable pub any_damaged : {K W : Type 0} → Table K W → ℕ → Bool
any_damaged t zero = false
any_damaged t (suc n) = cond (is_damaged (t n)) true (any_damaged t n)

-- A live slot's pair.
unfoldable pub pair_of : {K W : Type 0} → Slot K W → List (K × W)
pair_of never = []
pair_of freed = []
pair_of damaged = []
pair_of (live a v) = (a, v) ∷ []

-- The live pairs of the first n slots, in slot order.
unfoldable pub pairs : {K W : Type 0} → Table K W → ℕ → List (K × W)
pairs t zero = []
pairs t (suc n) = pairs t n ++ pair_of (t n)

-- The value of a live slot that holds the key, else the other answer.
unfoldable pub value_in : {K W : Type 0} → Keys K → K → Slot K W → Option W → Option W
value_in E k never o = o
value_in E k freed o = o
value_in E k damaged o = o
value_in E k (live a v) o = cond (E.same k a) (some v) o

-- The finite map of a table, over its live slots: the value in the last of the first n slots that holds the key.
unfoldable pub look : {K W : Type 0} → Keys K → Table K W → ℕ → K → Option W
look E t zero k = none
look E t (suc n) k = value_in E k (t n) (look E t n k)
