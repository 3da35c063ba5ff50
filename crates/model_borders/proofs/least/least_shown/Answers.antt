use Rattle.std.proofs.Common.{sym, subst}
use Rattle.model_borders.specs.Least.{ShowTheLeast}
use Rattle.model_borders.proofs.Leasts.{show_least}
use Rattle.model_borders.proofs.least.least_shown.Goals as goal

pub returns : goal.returns
returns c =
    subst (ShowTheLeast c.args.script.now c.args.part.now) (sym c.in_ok-spans.ensures)
    (show_least c.args.script.now c.args.part.now)
