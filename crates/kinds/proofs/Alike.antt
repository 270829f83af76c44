-- Two tables of the same marks and keys, whatever stands beside them, have the same damage, length and weight.
use Prim.Native.Nat.{ℕ, zero, suc}
use mathlib.Core.Path.{◌≡◌, refl}
use Rattle.model.specs.Slots.{is_damaged, weigh, total, any_damaged}
use Rattle.model.specs.Store.{Store, live_count, used, damaged_slots}
use Rattle.kinds.specs.Marks.{cell, cells_of}
use Rattle.kinds.proofs.Beside.{Beside}

module _ {K W U : Type 0} where
  hurts_alike : (m : ℕ) (k : K) (x : W) (y : U) → is_damaged (cell m k x) ≡ is_damaged (cell m k y)
  unfolding is_damaged cell
  hurts_alike zero k x y = refl
  hurts_alike (suc zero) k x y = refl
  hurts_alike (suc (suc zero)) k x y = refl
  hurts_alike (suc (suc (suc m))) k x y = refl

  weigh_alike : (w : K → ℕ) (m : ℕ) (k : K) (x : W) (y : U) → weigh w (cell m k x) ≡ weigh w (cell m k y)
  unfolding weigh cell
  weigh_alike w zero k x y = refl
  weigh_alike w (suc zero) k x y = refl
  weigh_alike w (suc (suc zero)) k x y = refl
  weigh_alike w (suc (suc (suc m))) k x y = refl

  module _ (mark : ℕ → ℕ) (key : ℕ → K) (v : ℕ → W) (u : ℕ → U) where
    damaged_alike : (n : ℕ) → any_damaged (cells_of mark key v) n ≡ any_damaged (cells_of mark key u) n
    unfolding any_damaged
    damaged_alike zero = refl
    damaged_alike (suc n) = rw (hurts_alike (mark n) (key n) (v n) (u n), damaged_alike n)

    pub total_alike : (w : K → ℕ) (n : ℕ) → total w (cells_of mark key v) n ≡ total w (cells_of mark key u) n
    unfolding total
    total_alike w zero = refl
    total_alike w (suc n) = rw (weigh_alike w (mark n) (key n) (v n) (u n), total_alike w n)

    -- such tables of one size stand beside each other
    pub stand_beside : (M : Store K W) (N : Store K U) {m : M.State} {n : N.State} → M.slots m ≡ cells_of mark key v → N.slots n ≡ cells_of mark key u → M.sized m ≡ N.sized n → M.size m ≡ N.size n → M.bytes m ≡ N.bytes n → M.damaged_fully m ≡ N.damaged_fully n → M.weight ≡ N.weight → Beside M N m n
    unfolding damaged_slots live_count used
    stand_beside M N {m} {n} p q s z b h w = record {
      sized = s;
      size = z;
      damage = rw (p, q, z) (damaged_alike (N.size n));
      lives = rw (p, q, z) (total_alike (λ k. 1) (N.size n));
      bytes = b;
      full_damage = h;
      weighs = rw (p, q, z, w) (total_alike N.weight (N.size n));
    }
