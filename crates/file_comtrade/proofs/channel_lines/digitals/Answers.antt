use Rattle.std.proofs.Common.{[]}
use Rattle.std.proofs.lemmas.Result.{err_from_is_err_and}
use Rattle.file_comtrade.specs.Config.{digital_after}
use Rattle.file_comtrade.specs.{Views.texts}
use Rattle.file_comtrade.proofs.Steps.{steps_fail}
use Rattle.file_comtrade.proofs.channel_lines.digitals.Goals as goal

pub returns-in_err-ids-clause-said : goal.returns-in_err-ids-clause-said
returns-in_err-ids-clause-said c =
    let told = err_from_is_err_and c.from_residual.result c.from_residual.ensures.1 in
    rw (told.1, told.2) (steps_fail (digital_after (texts c.args.lines.now) c.args.at) [] c.in_err-ids.field-0.0
    c.loop-k.k c.args.count (texts c.loop-k.ids.items) c.loop-k-test.true c.loop-k.invariant.said c.in_err-ids.ensures.said)
