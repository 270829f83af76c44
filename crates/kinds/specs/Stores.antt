-- What the insert rule with no test stores of another table, the right.
use Rattle.std.specs.Prelude.{ℕ}
use Rattle.model.specs.Slots.{Slot, pair_of, pairs}
use Rattle.model.specs.Store.{Store}
use Rattle.model.specs.Calls.{store_all}

module _ {K W : Type 0} (M : Store K W) where
  -- The slot i of a table.
  unfoldable pub slot_in : M.State → ℕ → Slot K W
  slot_in r i = M.slots r i

  -- The pair of one slot, where it is live.
  unfoldable pub slot_stored : M.State → Slot K W → M.State
  slot_stored l s = store_all M l (pair_of s)

  -- The pairs of the first n slots of the right.
  unfoldable pub all_stored : M.State → M.State → ℕ → M.State
  all_stored l r n = store_all M l (pairs (M.slots r) n)
