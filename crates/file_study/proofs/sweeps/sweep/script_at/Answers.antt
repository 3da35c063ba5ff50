use Rattle.std.proofs.Common.{◌∙◌, ap, length}
use Rattle.file_study.specs.sweeps.Choices.{ChoiceValues}
use Rattle.file_study.proofs.sweeps_lemmas.Sweeping.{length_lasts}
use Rattle.file_study.proofs.sweeps.sweep.script_at.Goals as goal

pub script-requires-clause-stages : goal.script-requires-clause-stages
script-requires-clause-stages c =
    ap (λ (v : ChoiceValues). length v.lasts) c.in_ok-choice.ensures
    ∙ length_lasts c.args.fault.now.stages.items _
