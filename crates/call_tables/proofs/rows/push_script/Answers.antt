use Rattle.std.proofs.Common.{◌≡◌, List, Some, refl, arith}
use Rattle.std.proofs.lemmas.Option.{slice_get_read}
use Rattle.std.proofs.lemmas.Result.{IfOk-weaker}
use Rattle.std.specs.Prelude.{slice_get}
use Rattle.model_line.specs.{declared.line.Line.Line, declared.script.Script.Script}
use Rattle.call_tables.proofs.rows.push_script.Goals as goal

pub push_rows-requires : goal.push_rows-requires
push_rows-requires c =
    let line : Line = c.args.study.now.line in
    let count = c.in_ok-settled.ensures.count in
    omega (arith, count, line.two_or_three.1)

pub returns : goal.returns
returns c =
    let line : Line = c.args.study.now.line in
    let scripts : List Script = c.args.study.now.scripts.items in
    let script : Script = c.index-script.result.now in
    let at : slice_get scripts c.args.i ≡ Some script =
    slice_get_read scripts _ c.args.i script refl c.requires.exists c.index-script.ensures in
    IfOk-weaker c.push_rows.result _ _
    (λ done rows. rows line scripts script at c.in_ok-settled.ensures c.requires.before)
    c.push_rows.ensures
