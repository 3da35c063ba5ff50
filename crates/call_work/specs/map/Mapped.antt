-- What a map is over.
use Rattle.std.specs.Prelude.{◌≤◌, length}
use Rattle.std.specs.List.{All}
use Rattle.model_line.specs.Fits.{Fits}
use Rattle.call_answer.specs.declared.study.Study.{Study}

-- the scripts fit the line, at most 4,096 of them
pub record IsMapped (study : Study) : Type 0 where
  pub fit : All (Fits study.line) study.scripts.items
  pub few : length study.scripts.items ≤ 4096
