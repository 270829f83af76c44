-- A map is a set with a column: where the values are as many as the marks, a call that tells no value tells what it tells of the keys alone.
use Prim.Native.Nat.{ℕ}
use mathlib.Core.Path.{◌≡◌, refl}
use Rattle.model.specs.Calls.{capacity, length, any_damage, reserve, get}
use Rattle.model.specs.Store.{Store, live_count, used, damaged_slots}
use Rattle.answers.specs.Said.{contained_said}
use Rattle.kinds.specs.Calls.{capacity_of, len_of, is_empty_of, reserve_of, contains_of}
use Rattle.kinds.proofs.Bridge.{seen_of}
use Rattle.std.specs.Prelude.{Result, Ok, Err}
use Rattle.answers.specs.declared.Refusal.{Refusal}
use Rattle.kinds.specs.declared.Probed.{Probed}
use Rattle.kinds.specs.declared.Probed.TheVariants.{Hit, Free, Full}

-- Two tables of the same marks and keys, whatever stands beside them: equal sizes, damage, length and weight.
pub record Beside {K W U : Type 0} (M : Store K W) (N : Store K U) (m : M.State) (n : N.State) : Type 0 where
  pub sized : M.sized m ≡ N.sized n
  pub size : M.size m ≡ N.size n
  pub damage : damaged_slots M m ≡ damaged_slots N n
  pub lives : live_count M m ≡ live_count N n
  pub bytes : M.bytes m ≡ N.bytes n
  pub full_damage : M.damaged_fully m ≡ N.damaged_fully n
  pub weighs : used M m ≡ used N n

module _ {K W U : Type 0} (M : Store K W) (N : Store K U) {m : M.State} {n : N.State} (b : Beside M N m n) where
  pub capacity_beside : capacity_of N n ≡ capacity_of M m
  unfolding capacity_of capacity
  capacity_beside = rw (b.sized, b.size)

  pub len_beside : len_of N n ≡ len_of M m
  unfolding len_of length
  len_beside = rw (b.sized, b.damage, b.lives)

  pub empty_beside : is_empty_of N n ≡ is_empty_of M m
  unfolding is_empty_of length
  empty_beside = rw (b.sized, b.damage, b.lives)

  pub reserve_beside : (k w : ℕ) → reserve_of N n k w ≡ reserve_of M m k w
  unfolding reserve_of reserve any_damage
  reserve_beside k w = rw (b.sized, b.size, b.damage, b.lives, b.bytes, b.full_damage, b.weighs)

-- contains, by what one probing found in both
contained_alike : {W U : Type 0} (v : ℕ → W) (u : ℕ → U) (x : Result Probed Refusal) → contained_said (seen_of u x) ≡ contained_said (seen_of v x)
unfolding contained_said
contained_alike v u (Ok (Hit s e)) = refl
contained_alike v u (Ok (Free s e)) = refl
contained_alike v u (Ok (Full e)) = refl
contained_alike v u (Err x) = refl

pub contains_beside : {K W U : Type 0} (M : Store K W) (N : Store K U) (m : M.State) (n : N.State) (k : K) (v : ℕ → W) (u : ℕ → U) (x : Result Probed Refusal) → get M m k ≡ seen_of v x → get N n k ≡ seen_of u x → contains_of N n k ≡ contains_of M m k
unfolding contains_of
contains_beside M N m n k v u x p q = rw (p, q) (contained_alike v u x)
