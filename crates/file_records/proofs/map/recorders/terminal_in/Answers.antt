use Rattle.std.proofs.Common.{sym}
use Rattle.std.specs.Str.{bytes_eq}
use Rattle.base_records.specs.ListLaws.{position_within}
use Rattle.file_records.proofs.map.recorders.terminal_in.Goals as goal

pub returns-in-Some-clause-within : goal.returns-in-Some-clause-within
returns-in-Some-clause-within c =
    position_within (λ t. bytes_eq t.name c.args.name.now) c.args.line.now.terminals.items c.in-Some.k
    (sym c.in-Some.ensures)
