-- A byte key is refused 2 before any slot is looked at, or not at all.
use Rattle.std.proofs.Common.{ℕ, List, inl, inr, refl, length}
use Rattle.model.proofs.Cases.{by_bool}
use Rattle.model.specs.Demand1.{KeyBar}
use Rattle.digest.specs.Home.{key_fits}
use Rattle.byte_slots.specs.Memory.{asked_of, kept_of}

pub asked_bar : (k : List ℕ) → KeyBar (asked_of k)
unfolding asked_of
asked_bar k = by_bool (key_fits (length k)) (λ e. rw e (inl refl)) (λ e. rw e (inr refl))

pub kept_bar : (k : List ℕ) → KeyBar (kept_of k)
unfolding kept_of
kept_bar k = by_bool (key_fits (length k)) (λ e. rw e (inl refl)) (λ e. rw e (inr refl))
