-- `moss_int_set_walk_on` meets its contract: its answer is that of the callee, whose walk is stored.
use mathlib.Core.Path.{refl}
use Rattle.kinds.proofs.Moved.{moved}
use Rattle.mosspillow.proofs.int_sets.moss_int_set_walk_on.Goals as goal

pub returns : goal.returns
returns c = moved c.moss_int_set_step-r.ensures refl
