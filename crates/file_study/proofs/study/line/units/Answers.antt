use Rattle.std.proofs.Common.{refl}
use Rattle.std.proofs.lemmas.Result.{err_from_is_err_and}
use Rattle.file_study.specs.study.LineTables.{units_of}
use Rattle.file_study.proofs.study.line.units.Goals as goal

pub returns-in_err-hertz-clause-units : goal.returns-in_err-hertz-clause-units
unfolding units_of
returns-in_err-hertz-clause-units c =
    let told = err_from_is_err_and c.from_residual-in_err-hertz.result
    c.from_residual-in_err-hertz.ensures.1 in
    let first = rw c.root.ensures at c.in_ok-tick_us.ensures.value in
    let second = rw (c.find.ensures, c.key-path.ensures, c.root-2.ensures)
    at c.in_err-hertz.ensures in
    rw (told.1, told.2) (rw (← first, ← second) refl)
