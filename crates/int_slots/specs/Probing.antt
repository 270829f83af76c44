-- What the probing loop over marks and keys yields.
use Rattle.std.specs.Prelude.{ℕ, ◌+◌, ◌-◌, cond, ltb, List, length}
use Rattle.model.specs.Slots.{Table}
use Rattle.model.specs.Path.{find}
use Rattle.answers.specs.declared.Refusal.TheVariants as refusal
use Rattle.digest.specs.Home.{home_of_word}
use Rattle.kinds.specs.Marks.{keys_only, words_of}
use Rattle.kinds.specs.Probing.{along}
use Rattle.int_slots.specs.Memory.{integers, fitting}
use Rattle.std.specs.Prelude.{Result, Err}
use Rattle.answers.specs.declared.Refusal.{Refusal}
use Rattle.kinds.specs.declared.Probed.{Probed}

-- The slots of marks and keys alone.
abbrev pub slots_in : List ℕ → List ℕ → Table ℕ (Unit {0})
slots_in marks keys = keys_only (words_of marks) (words_of keys)

-- The probing loop's answer: refusal 1, else the path's.
unfoldable pub probing : List ℕ → List ℕ → ℕ → Result Probed Refusal
probing marks keys k =
    cond (fitting marks keys)
    (along (length marks) (home_of_word 0 (length marks) k) (find integers (length marks) (home_of_word 0 (length marks) k) (slots_in marks keys) k))
    (Err refusal.Sizes)

-- How far a slot stands behind the home slot along a path.
unfoldable pub walked : ℕ → ℕ → ℕ → ℕ
walked S h s = cond (ltb s h) (s + (S - h)) (s - h)
