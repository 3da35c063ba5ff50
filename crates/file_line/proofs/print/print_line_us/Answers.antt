use Rattle.std.proofs.Common.{refl}
use Rattle.std.proofs.lemmas.Result.{IfOk-weaker}
use Rattle.file_line.proofs.LineBack.{file_back}
use Rattle.file_line.proofs.print.print_line_us.Goals as goal

pub returns-clause-reads_back : goal.returns-clause-reads_back
returns-clause-reads_back c =
    let range = c.args.line.now.tick_in_range in
    IfOk-weaker c.print.result _ _
    (λ v is.
    file_back c.line_laws.ensures 2 c.args.line.now.tick_us c.args.line.now v.items is refl refl range.0)
    c.print.ensures.table
