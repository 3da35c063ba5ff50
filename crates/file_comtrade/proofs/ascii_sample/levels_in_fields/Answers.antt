use Rattle.std.proofs.Common.{[]}
use Rattle.std.proofs.lemmas.Result.{err_from_is_err_and}
use Rattle.std.specs.Prelude.{length}
use Rattle.file_comtrade.specs.RawSample.{level_after}
use Rattle.file_comtrade.specs.{Views.texts}
use Rattle.file_comtrade.proofs.Steps.{steps_fail}
use Rattle.file_comtrade.proofs.ascii_sample.levels_in_fields.Goals as goal

pub returns-in_err-levels : goal.returns-in_err-levels
returns-in_err-levels c =
    let told = err_from_is_err_and c.from_residual.result c.from_residual.ensures.1 in
    rw (told.1, told.2) (steps_fail (level_after c.args.shape c.args.chosen.now
    (texts c.args.fields.now) c.args.k) [] c.in_err-levels.field-0.0
    c.loop-j.j (length c.args.chosen.now) c.loop-j.levels.items c.loop-j-test.true
    c.loop-j.invariant c.in_err-levels.ensures)
