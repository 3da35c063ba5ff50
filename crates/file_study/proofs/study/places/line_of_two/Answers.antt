use Rattle.std.proofs.Common.{codes}
use Rattle.toml.specs.View.{table_view}
use Rattle.file_study.specs.study.LineTables.{owner_places}
use Rattle.file_study.proofs.study_lemmas.Owners.{two_named}
use Rattle.file_study.proofs.study.places.line_of_two.Goals as goal

pub returns : goal.returns
returns c =
    let own = owner_places (codes "terminal") (table_view c.args.top.now) in
    rw (
      two_named own c.args.terminals.now c.requires.count,
      c.requires.count,
      ← c.of_terminal-one.ensures,
      ← c.of_terminal-other.ensures,
      ← c.of_channel-there.ensures,
      ← c.of_channel-back.ensures,
    ) c.line_of_table.ensures
