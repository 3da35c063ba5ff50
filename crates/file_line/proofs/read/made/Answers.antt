use Rattle.std.proofs.Common.{ap, sym}
use Rattle.file_line.specs.Lines.{LineValues, values_of}
use Rattle.file_line.proofs.{LineLaws.made_values, Binds.ok_of}
use Rattle.file_line.proofs.read.made.Goals as goal

pub returns : goal.returns
returns c =
    let is = rw c.deref.ensures.value at c.in_ok-line.ensures in
    ap (λ (v : LineValues). ok_of v)
    (sym (made_values (values_of c.args.draft) c.in_ok-line.line is))
