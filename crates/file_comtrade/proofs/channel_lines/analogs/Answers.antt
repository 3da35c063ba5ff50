use Rattle.std.proofs.lemmas.Result.{err_from_is_err_and}
use Rattle.file_comtrade.specs.Config.{analog_after}
use Rattle.file_comtrade.specs.{Views.texts}
use Rattle.file_comtrade.proofs.Steps.{steps_fail}
use Rattle.file_comtrade.proofs.channel_lines.analogs.Goals as goal

pub returns-in_err-analog_after : goal.returns-in_err-analog_after
returns-in_err-analog_after c =
    let told = err_from_is_err_and c.from_residual.result c.from_residual.ensures.1 in
    rw (told.1, told.2) (steps_fail (analog_after (texts c.args.lines.now) c.args.at) (tt {0}) c.in_err-analog_after.field-0.0
    c.loop-k.k c.args.count (tt {0}) c.loop-k-test.true c.loop-k.invariant c.in_err-analog_after.ensures)
