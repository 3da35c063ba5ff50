use Rattle.std.proofs.Common.{sym}
use Rattle.file_line.proofs.TimesSteps.{ends_not_two}
use Rattle.file_line.proofs.times.ends.Goals as goal

pub returns-then-items-ne2 : goal.returns-then-items-ne2
returns-then-items-ne2 c =
    sym (ends_not_two c.args.path c.args.unit c.args.fewest c.args.items.now c.if-items-ne2.true)
