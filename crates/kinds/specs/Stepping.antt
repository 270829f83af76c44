-- What a step of a walk comes upon, by the marks: its tests in order, then the first live or damaged slot within its reach.
use Rattle.std.specs.Prelude.{ℕ, suc, ◌+◌, ◌-◌, Bool, cond, leb, eqb}
use Rattle.model.specs.Calls.{Or, no, ok}
use Rattle.model.specs.Walk.{StepAnswer, pair, nothing, done, reach_of}
use Rattle.answers.specs.Refusals.{number_of}
use Rattle.answers.specs.declared.Refusal.TheVariants as refusal
use Rattle.kinds.specs.Scanning.{nexting_of}
use Rattle.std.specs.Prelude.{Result, Option, Ok, Err, Some, None}
use Rattle.answers.specs.declared.Refusal.{Refusal}
use Rattle.kinds.specs.declared.Ahead.{Ahead}
use Rattle.kinds.specs.declared.Ahead.TheVariants.{Live, Nothing, Done}

-- How far a step from w with the budget b may look among S slots: refusal 3, refusal 4, done, else up to the end of its reach.
unfoldable pub way_of : ℕ → ℕ → ℕ → Result (Option ℕ) Refusal
way_of S w b =
    cond (eqb b 0) (Err refusal.NoBudget)
    (cond (leb w S) (cond (eqb w S) (Ok None) (Ok (Some (w + reach_of S w b)))) (Err refusal.WalkBeyond))

-- What a step that looks up to e comes upon, by what stands first.
unfoldable pub ahead_by : ℕ → Result (Option ℕ) Refusal → Result Ahead Refusal
ahead_by e (Ok (Some j)) = Ok (Live j)
ahead_by e (Ok None) = Ok (Nothing e)
ahead_by e (Err r) = Err r

-- What a step from w comes upon in its stretch.
unfoldable pub ahead_on : (ℕ → ℕ) → ℕ → Result (Option ℕ) Refusal → Result Ahead Refusal
ahead_on mark w (Ok (Some e)) = ahead_by e (nexting_of mark w e)
ahead_on mark w (Ok None) = Ok Done
ahead_on mark w (Err x) = Err x

-- The whole step among S slots with these marks: refusal 1 where the sizes are wrong, else by its stretch.
unfoldable pub ahead_of : Bool → (ℕ → ℕ) → ℕ → ℕ → ℕ → Result Ahead Refusal
ahead_of sized mark S w b = cond sized (ahead_on mark w (way_of S w b)) (Err refusal.Sizes)

-- What a step from w answers that came upon this; `key` and `read` give the key and the value at a slot.
unfoldable pub stepped_by : {K W : Type 0} → (ℕ → K) → (ℕ → W) → ℕ → Result Ahead Refusal → Or (StepAnswer K W)
stepped_by key read w (Ok (Live j)) = ok (pair (key j) (read j) (suc j) (suc j - w))
stepped_by key read w (Ok (Nothing x)) = ok (nothing x (x - w))
stepped_by key read w (Ok Done) = ok (done w)
stepped_by key read w (Err x) = no (number_of x)
