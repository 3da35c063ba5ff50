use Rattle.draw_run.proofs.layout_lemmas.Apart.{apart, on_bases}
use Rattle.draw_run.proofs.layout.laws.rows_lie_apart.Goals as goal

pub returns-clause-bases : goal.returns-clause-bases
returns-clause-bases c = on_bases

pub returns-clause-apart : goal.returns-clause-apart
returns-clause-apart c = apart
