-- What most commands are over.
use Rattle.std.specs.Prelude.{◌≤◌, ◌<◌, ◌^◌, length}
use Rattle.std.specs.List.{All}
use Rattle.model_line.specs.Fits.{Fits}
use Rattle.call_answer.specs.declared.study.Study.{Study}

-- the scripts fit the line, at most 64 of them
pub record IsStudy (study : Study) : Type 0 where
  pub fit : All (Fits study.line) study.scripts.items
  pub few : length study.scripts.items ≤ 64

-- the scripts fit the line, as many as there are
pub record IsAnyStudy (study : Study) : Type 0 where
  pub fit : All (Fits study.line) study.scripts.items
  pub counted : length study.scripts.items < 2 ^ 32
