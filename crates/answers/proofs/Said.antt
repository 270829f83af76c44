-- What a call of the theory says has the number of its refusal, and 0 where it is accepted.
use Prim.Native.Nat.{ℕ}
use mathlib.Core.Path.{◌≡◌, refl}
use lib.Dec.{eqb}
use Rattle.model.specs.Calls.{Or, no, ok, Seen, found, absent, Spot, occupied, vacant}
use Rattle.model.specs.Walk.{StepAnswer, pair, nothing, done}
use Rattle.model.specs.Demand1.{number_in}
use Rattle.model.proofs.Cases.{by_bool}
use Rattle.answers.specs.declared.Numbers.{Numbers}
use Rattle.answers.specs.Said.{done_said, count_said, empty_said, room_said, got_said, member_said, contained_said, inserted_said, added_said, removed_said, dropped_said, step_said, entered_said, held_said, swapped_said, taken_said, taken_entry_said, in_slot_said, stored_said, joined_said, spanned_said}

pub done_said_refusal : {A : Type 0} (a : Or A) → (done_said a).refusal ≡ number_in a
unfolding done_said number_in
done_said_refusal (no n) = refl
done_said_refusal (ok x) = refl

pub count_said_refusal : (a : Or ℕ) → (count_said a).refusal ≡ number_in a
unfolding count_said number_in
count_said_refusal (no n) = refl
count_said_refusal (ok x) = refl

pub empty_said_refusal : (a : Or ℕ) → (empty_said a).refusal ≡ number_in a
unfolding empty_said number_in
empty_said_refusal (no n) = refl
empty_said_refusal (ok x) = by_bool (eqb x 0) (λ e. rw e) (λ e. rw e)

pub room_said_refusal : {A : Type 0} (a : Or A) → (room_said a).refusal ≡ number_in a
unfolding room_said number_in
room_said_refusal (no n) = refl
room_said_refusal (ok x) = refl

pub got_said_refusal : (a : Or (Seen ℕ)) → (got_said a).refusal ≡ number_in a
unfolding got_said number_in
got_said_refusal (no n) = refl
got_said_refusal (ok (found v i e)) = refl
got_said_refusal (ok (absent e)) = refl

pub member_said_refusal : {W : Type 0} (s : ℕ) (a : Or (Seen W)) → (member_said s a).refusal ≡ number_in a
unfolding member_said number_in
member_said_refusal s (no n) = refl
member_said_refusal s (ok (found v i e)) = refl
member_said_refusal s (ok (absent e)) = refl

pub contained_said_refusal : {W : Type 0} (a : Or (Seen W)) → (contained_said a).refusal ≡ number_in a
unfolding contained_said number_in
contained_said_refusal (no n) = refl
contained_said_refusal (ok (found v i e)) = refl
contained_said_refusal (ok (absent e)) = refl

pub inserted_said_refusal : (a : Or (Spot ℕ)) → (inserted_said a).refusal ≡ number_in a
unfolding inserted_said number_in
inserted_said_refusal (no n) = refl
inserted_said_refusal (ok (occupied i v e)) = refl
inserted_said_refusal (ok (vacant i e)) = refl

pub added_said_refusal : {W : Type 0} (a : Or (Spot W)) → (added_said a).refusal ≡ number_in a
unfolding added_said number_in
added_said_refusal (no n) = refl
added_said_refusal (ok (occupied i v e)) = refl
added_said_refusal (ok (vacant i e)) = refl

pub removed_said_refusal : (a : Or (Seen ℕ)) → (removed_said a).refusal ≡ number_in a
unfolding removed_said number_in
removed_said_refusal (no n) = refl
removed_said_refusal (ok (found v i e)) = refl
removed_said_refusal (ok (absent e)) = refl

pub dropped_said_refusal : {W : Type 0} (a : Or (Seen W)) → (dropped_said a).refusal ≡ number_in a
unfolding dropped_said number_in
dropped_said_refusal (no n) = refl
dropped_said_refusal (ok (found v i e)) = refl
dropped_said_refusal (ok (absent e)) = refl

pub step_said_refusal : {K W : Type 0} (hand : K → W → ℕ → ℕ → Numbers) → ((k : K) (v : W) (x e : ℕ) → (hand k v x e).refusal ≡ 0) → (w : ℕ) (a : Or (StepAnswer K W)) → (step_said hand w a).refusal ≡ number_in a
unfolding step_said number_in
step_said_refusal hand h w (no n) = refl
step_said_refusal hand h w (ok (pair k v x e)) = h k v x e
step_said_refusal hand h w (ok (nothing x e)) = refl
step_said_refusal hand h w (ok (done x)) = refl

pub entered_said_refusal : (a : Or (Spot ℕ)) → (entered_said a).refusal ≡ number_in a
unfolding entered_said number_in
entered_said_refusal (no n) = refl
entered_said_refusal (ok (occupied i v e)) = refl
entered_said_refusal (ok (vacant i e)) = refl

pub held_said_refusal : (s : ℕ) (a : Or ℕ) → (held_said s a).refusal ≡ number_in a
unfolding held_said number_in
held_said_refusal s (no n) = refl
held_said_refusal s (ok x) = refl

pub swapped_said_refusal : (s : ℕ) (a : Or ℕ) → (swapped_said s a).refusal ≡ number_in a
unfolding swapped_said number_in
swapped_said_refusal s (no n) = refl
swapped_said_refusal s (ok x) = refl

pub taken_said_refusal : (a : Or ℕ) → (taken_said a).refusal ≡ number_in a
unfolding taken_said number_in
taken_said_refusal (no n) = refl
taken_said_refusal (ok x) = refl

pub taken_entry_said_refusal : (s : ℕ) (a : Or ℕ) → (taken_entry_said s a).refusal ≡ number_in a
unfolding taken_entry_said number_in
taken_entry_said_refusal s (no n) = refl
taken_entry_said_refusal s (ok x) = refl

pub in_slot_said_refusal : (s : ℕ) (a : Or ℕ) → (in_slot_said s a).refusal ≡ number_in a
unfolding in_slot_said number_in
in_slot_said_refusal s (no n) = refl
in_slot_said_refusal s (ok x) = refl

pub stored_said_refusal : (o : ℕ) (a : Or (Spot ℕ)) → (stored_said o a).refusal ≡ number_in a
unfolding stored_said number_in
stored_said_refusal o (no n) = refl
stored_said_refusal o (ok (occupied i v e)) = refl
stored_said_refusal o (ok (vacant i e)) = refl

pub joined_said_refusal : {W : Type 0} (o : ℕ) (a : Or (Spot W)) → (joined_said o a).refusal ≡ number_in a
unfolding joined_said number_in
joined_said_refusal o (no n) = refl
joined_said_refusal o (ok (occupied i v e)) = refl
joined_said_refusal o (ok (vacant i e)) = refl

pub spanned_said_refusal : {W : Type 0} (offset length : ℕ → ℕ) (a : Or (Seen W)) → (spanned_said offset length a).refusal ≡ number_in a
unfolding spanned_said number_in
spanned_said_refusal offset length (no n) = refl
spanned_said_refusal offset length (ok (found v i e)) = refl
spanned_said_refusal offset length (ok (absent e)) = refl
