use Rattle.std.proofs.Common.{refl, arith}
use Rattle.std.proofs.lemmas.Result.{IfOk-weaker}
use Rattle.file_line.proofs.LineBack.{file_back}
use Rattle.file_line.proofs.print.print_line.Goals as goal

pub returns-clause-reads_back : goal.returns-clause-reads_back
returns-clause-reads_back c =
    IfOk-weaker c.print.result _ _
    (λ v is. file_back c.line_laws.ensures 1 1 c.args.line.now v.items is refl refl (omega arith))
    c.print.ensures.table
