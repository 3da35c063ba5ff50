use Rattle.std.proofs.Common.{◌∙◌}
use Rattle.file_study.proofs.sweeps_lemmas.Greatest.{greatest_more}
use Rattle.file_study.proofs.sweeps.needed.greatest.Goals as goal

pub loop-value-preserved : goal.loop-value-preserved
loop-value-preserved c =
    greatest_more c.loop-value.most c.larger-most.result c.loop-value.value-index
    c.args.time.now c.loop-value-test.true c.larger-most.ensures
    ∙ c.loop-value.invariant
