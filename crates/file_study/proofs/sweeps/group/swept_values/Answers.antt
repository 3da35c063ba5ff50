use Rattle.std.proofs.Common.{◌∙◌, ap, length}
use Rattle.file_study.specs.study.Faults.{fault_values}
use Rattle.file_study.specs.sweeps.Choices.{ChoiceValues}
use Rattle.file_study.specs.sweeps.Groups.{of_swept, values_in}
use Rattle.file_study.specs.sweeps.Sweeps.{times_of}
use Rattle.file_study.proofs.{sweeps_lemmas.GroupLaws.swept_more, sweeps_lemmas.Sweeping.length_lasts}
use Rattle.file_study.proofs.sweeps.group.swept_values.Goals as goal

pub swept-requires : goal.swept-requires
swept-requires c =
    ap (λ (v : ChoiceValues). length v.lasts) c.in_ok-choice.ensures
    ∙ length_lasts c.args.fault.now.stages.items _

pub loop-k-preserved : goal.loop-k-preserved
loop-k-preserved c =
    let f = fault_values c.args.fault.now in
    let is = c.in_ok-values.ensures
    ∙ ap (λ (v : ChoiceValues). of_swept (times_of f) (values_in v)) c.in_ok-choice.ensures in
    rw c.in_ok-push.ensures.items
    (swept_more (λ w. w.items) f c.args.n c.loop-k.k c.loop-k.all.items c.in_ok-values.values _
    c.loop-k-test.true is c.loop-k.invariant)
