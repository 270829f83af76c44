-- The path of a key: which slots are examined, where it ends, and what it found.
use Rattle.std.specs.Prelude.{ℕ, zero, suc, ◌+◌, ◌-◌, Bool, true, false, cond, ltb}
use Rattle.model.specs.Slots.{Slot, never, freed, damaged, live, Table, Keys, frees}

-- The first of the g numbers from n on that passes the test, else the number after them.
unfoldable pub from : (ℕ → Bool) → ℕ → ℕ → ℕ
from f zero n = n
from f (suc g) n = cond (f n) n (from f g (suc n))

-- The slot n places up from the home slot h, wrapping at S.
unfoldable pub at : ℕ → ℕ → ℕ → ℕ
at S h n = cond (ltb (h + n) S) (h + n) (h + n - S)

-- The path of k ends at a slot that holds it live, was never used, or is damaged.
unfoldable pub stops : {K W : Type 0} → Keys K → K → Slot K W → Bool
stops E k never = true
stops E k freed = false
stops E k damaged = true
stops E k (live a v) = E.same k a

-- What a path found: the key n places from home; its absence, the examined number and the place of the first free slot (S: none); or damage.
pub data Find (W : Type 0) : Type 0 where
  hit : ℕ → W → Find W
  miss : ℕ → ℕ → Find W
  damage : Find W

-- What the slot at place n, where the path ended, says.
unfoldable pub ends : {K W : Type 0} → ℕ → ℕ → Slot K W → Find W
ends n f never = miss (suc n) f
ends n f freed = miss (suc n) f
ends n f damaged = damage
ends n f (live a v) = hit n v

-- The place where the path of k ends, S where S slots were examined.
unfoldable pub stop_at : {K W : Type 0} → Keys K → ℕ → ℕ → Table K W → K → ℕ
stop_at E S h t k = from (λ n. stops E k (t (at S h n))) S 0

-- The place of the first slot with mark 0 or 2, S where there is none.
unfoldable pub free_at : {K W : Type 0} → ℕ → ℕ → Table K W → ℕ
free_at S h t = from (λ n. frees (t (at S h n))) S 0

-- The path from the home slot h, in a table of S slots.
unfoldable pub find : {K W : Type 0} → Keys K → ℕ → ℕ → Table K W → K → Find W
find E S h t k =
    cond (ltb (stop_at E S h t k) S)
    (ends (stop_at E S h t k) (free_at S h t) (t (at S h (stop_at E S h t k))))
    (miss S (free_at S h t))

-- The first free place so far: f where one is known, else n.
unfoldable pub first_free : ℕ → ℕ → ℕ → ℕ
first_free S f n = cond (ltb f S) f n

-- One slot of the path, at place n with first free place f: an answer, or the rest of the path.
unfoldable pub on_slot : {K W : Type 0} → Keys K → ℕ → K → ℕ → ℕ → Slot K W → (ℕ → Find W) → Find W
on_slot E S k n f never rest = miss (suc n) (first_free S f n)
on_slot E S k n f freed rest = rest (first_free S f n)
on_slot E S k n f damaged rest = damage
on_slot E S k n f (live a v) rest = cond (E.same k a) (hit n v) (rest f)

-- The same path slot by slot: g slots are left, n were examined, f is the first free place so far.
unfoldable pub probe : {K W : Type 0} → Keys K → ℕ → ℕ → Table K W → K → ℕ → ℕ → ℕ → Find W
probe E S h t k zero n f = miss n f
probe E S h t k (suc g) n f = on_slot E S k n f (t (at S h n)) (λ r. probe E S h t k g (suc n) r)

-- The examined number of the path: the slots up to where it ended.
unfoldable pub examined : {K W : Type 0} → Keys K → ℕ → ℕ → Table K W → K → ℕ
examined E S h t k = cond (ltb (stop_at E S h t k) S) (suc (stop_at E S h t k)) S
