-- What the probing of a byte map says, by the test of its values.
use Rattle.std.proofs.Common.{ℕ, true, false, List, ◌≡◌, ◌∙◌, eqb-true, eqb, length, Err}
use Rattle.model.specs.Calls.{no, pass, seen_by, get}
use Rattle.model.specs.Store.{path}
use Rattle.model.proofs.Cases.{by_bool}
use Rattle.answers.specs.declared.Refusal.TheVariants.{Sizes}
use Rattle.kinds.specs.Columns.{values}
use Rattle.kinds.proofs.Bridge.{seen_of}
use Rattle.byte_slots.specs.Memory.{ByteMemory}
use Rattle.byte_slots.specs.Kinds.{maps}
use Rattle.byte_slots.specs.Probing.{probing}
use Rattle.byte_slots.proofs.Bridge.{short_refused, get_probing}
use Rattle.byte_slots.specs.Seeking.{where_long, probing_map}

module _ (m : ByteMemory values) where
  -- an answer where the values are as many as the marks, and where they are not
  module _ {A : Type 0} (a n : A) where
    pub by_long : {B : Type 0} (f : A → B) (x : B) → (eqb (length m.spans.marks) (length m.words) ≡ true → x ≡ f a) → (eqb (length m.spans.marks) (length m.words) ≡ false → x ≡ f n) → x ≡ f (where_long m a n)
    unfolding where_long
    by_long f x long short = by_bool (eqb (length m.spans.marks) (length m.words)) (λ e. rw e (long e)) (λ e. rw e (short e))

    -- an answer that is not the refusal
    pub long_only : {r : A} → r ≡ where_long m a n → (r ≡ n → ⊥) → (r ≡ a) × (length m.spans.marks ≡ length m.words)
    unfolding where_long
    long_only p h = by_bool (eqb (length m.spans.marks) (length m.words)) (λ e. (p ∙ (rw e), eqb-true (length m.spans.marks) (length m.words) e)) (λ e. absurd (h (p ∙ (rw e))))

  module _ (k : List ℕ) where
    -- get by what the probing found
    get_short : eqb (length m.spans.marks) (length m.words) ≡ false → get maps m k ≡ no 1
    unfolding get
    get_short e = short_refused values m (pass (maps.asked k) (seen_by maps m k (path maps m k))) e

    pub get_probed : get maps m k ≡ seen_of (values.read m.words) (probing_map m k)
    unfolding probing_map
    get_probed = by_long (probing m.spans k) (Err Sizes) (seen_of (values.read m.words)) (get maps m k) (get_probing values m k) get_short
