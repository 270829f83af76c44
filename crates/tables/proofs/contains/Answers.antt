-- `tables::contains` meets its contract: by what the path found.
use Rattle.std.specs.Prelude.{Ok}
use Rattle.std.proofs.Common.{◌∙◌, ap}
use Rattle.std.proofs.lemmas.Result.{err_from_is_err_and}
use Rattle.tables.proofs.Calls.{contained_hit, contained_absent, contained_bad}
use Rattle.tables.proofs.contains.Goals as goal

pub returns-in_err-examined : goal.returns-in_err-examined
returns-in_err-examined g c =
    let p = err_from_is_err_and c.from_residual.result c.from_residual.ensures.1 in
    rw (p.1, p.2) (contained_bad _ _ c.probe.ensures.sized _ c.requires c.probe.ensures.found c.in_err-examined.was)

pub returns-in-Hit : goal.returns-in-Hit
returns-in-Hit g c = contained_hit _ _ c.probe.ensures.sized _ c.requires c.probe.ensures.found (c.in_ok-examined.was ∙ ap Ok c.in-Hit.is)

pub returns-in-Free : goal.returns-in-Free
returns-in-Free g c = contained_absent _ _ c.probe.ensures.sized _ c.requires c.probe.ensures.found c.in_ok-examined.was c.in-Free.is

pub returns-in-Free-2 : goal.returns-in-Free-2
returns-in-Free-2 g c = contained_absent _ _ c.probe.ensures.sized _ c.requires c.probe.ensures.found c.in_ok-examined.was c.in-Free.is
