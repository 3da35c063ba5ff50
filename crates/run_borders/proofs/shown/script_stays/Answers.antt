use Rattle.std.proofs.Common.{subst}
use Rattle.run_step.specs.{InputLaws.script_keeps, Quiet.AllKeep}
use Rattle.run_borders.proofs.shown.script_stays.Goals as goal

pub returns-clause-keeps : goal.returns-clause-keeps
returns-clause-keeps c =
    script_keeps c.args.script.now.spans.items c.args.t c.all_stay.result
    (subst (AllKeep c.args.t c.all_stay.result) c.as_slice.ensures.value c.all_stay.ensures.keep)
