-- What a slot says to the path of a byte key, and what its probing loop yields.
use Rattle.std.specs.Prelude.{ℕ, cond, List, eqb, length}
use Rattle.model.specs.Path.{find}
use Rattle.answers.specs.declared.Refusal.TheVariants as refusal
use Rattle.digest.specs.Home.{home_of}
use Rattle.kinds.specs.Marks.{keys_only}
use Rattle.kinds.specs.Probing.{look_of, along}
use Rattle.byte_slots.specs.Keys.{byte_keys}
use Rattle.byte_slots.specs.Memory.{Spans, key_at, fitting, asked_of}
use Rattle.byte_slots.specs.Marks.{mark_of}
use Rattle.std.specs.Prelude.{Result, Err}
use Rattle.answers.specs.declared.Refusal.{Refusal}
use Rattle.kinds.specs.declared.Probed.{Probed}
use Rattle.kinds.specs.declared.Sight.{Sight}

-- What the slot i says to the path of the key k.
unfoldable pub sight_at : Spans → List ℕ → ℕ → Result Sight Refusal
sight_at s k i = look_of byte_keys k (mark_of s i) (key_at s i)

-- What the path of k from the slot h found, in slots.
unfoldable pub path_from : Spans → ℕ → List ℕ → Result Probed Refusal
path_from s h k = along (length s.marks) h (find byte_keys (length s.marks) h (keys_only (mark_of s) (key_at s)) k)

-- The same from the key's home slot.
unfoldable pub path_of : Spans → List ℕ → Result Probed Refusal
path_of s k = path_from s (home_of 0 (length s.marks) k) k

-- The probing loop's answer: refusal 1, then refusal 2, else the path's.
unfoldable pub probing : Spans → List ℕ → Result Probed Refusal
probing s k =
    cond (fitting s)
    (cond (eqb (asked_of k) 0) (path_of s k) (Err refusal.LongKey))
    (Err refusal.Sizes)
