use Rattle.std.proofs.lemmas.List.{length-map}
use Rattle.std.proofs.lemmas.Result.{err_from_is_err_and}
use Rattle.call_files.proofs.Refused.{line_refused, scripts_refused}
use Rattle.call_files.proofs.study.read_study.Goals as goal

pub returns-in_err-line : goal.returns-in_err-line
returns-in_err-line c =
    let p = err_from_is_err_and c.from_residual.result c.from_residual.ensures.1 in
    rw (p.1, p.2) (line_refused c.args.line.now c.args.scripts.now c.in_err-line.field-0.0
    c.in_err-line.ensures)

pub returns-in_err-scripts : goal.returns-in_err-scripts
returns-in_err-scripts c =
    let p = err_from_is_err_and c.from_residual-in_err-scripts.result
    c.from_residual-in_err-scripts.ensures.1 in
    rw (p.1, p.2) (scripts_refused c.args.line.now c.args.scripts.now c.in_ok-line.line
    c.in_err-scripts.field-0.0 c.in_ok-line.ensures c.in_err-scripts.ensures.said)

pub returns : goal.returns
returns c = (
  record {
    fit = c.in_ok-scripts.ensures.fits;
    few = simp length-map at c.in_ok-scripts.ensures.one_file.few;
  },
  record { line_is = c.in_ok-line.ensures; scripts_are = c.in_ok-scripts.ensures.said },
)
