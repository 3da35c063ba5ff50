use Rattle.std.proofs.Common.{codes}
use Rattle.toml.specs.View.{table_view}
use Rattle.file_study.specs.study.LineTables.{owner_places}
use Rattle.file_study.proofs.study_lemmas.Owners.{three_named}
use Rattle.file_study.proofs.study.places.line_of_three.Goals as goal

pub returns : goal.returns
returns c =
    let own = owner_places (codes "terminal") (table_view c.args.top.now) in
    rw (
      three_named own c.args.terminals.now c.requires.count,
      c.requires.count,
      ← c.of_terminal-first.ensures,
      ← c.of_terminal-second.ensures,
      ← c.of_terminal-third.ensures,
      ← c.of_channel.ensures,
      ← c.of_channel-2.ensures,
      ← c.of_channel-3.ensures,
      ← c.of_channel-4.ensures,
      ← c.of_channel-5.ensures,
      ← c.of_channel-6.ensures,
    ) c.line_of_table.ensures
