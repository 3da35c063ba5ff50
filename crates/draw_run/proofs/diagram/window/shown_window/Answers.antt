use Rattle.std.proofs.Common.{arith}
use Rattle.std.proofs.lemmas.List.Elements.{All-weaker}
use Rattle.draw_run.specs.diagram.Windows.{IsShown}
use Rattle.draw_run.proofs.diagram_lemmas.WindowLaws.{row_still_shown}
use Rattle.draw_run.proofs.diagram.window.shown_window.Goals as goal

pub padded-requires-clause-within : goal.padded-requires-clause-within
padded-requires-clause-within c =
    let horizon = c.args.horizon in
    let one = c.with_mark.ensures.below horizon (omega arith) c.requires.inception in
    let both = c.with_mark-marked.ensures.below horizon one c.requires.deadline in
    c.with_rows.ensures.below horizon both c.requires.changes

pub returns-clause-rows : goal.returns-clause-rows
returns-clause-rows c =
    All-weaker (IsShown c.with_rows.result) (IsShown c.padded.result)
    (row_still_shown c.with_rows.result c.padded.result c.padded.ensures.wider)
    c.args.rows.now c.with_rows.ensures.shown
