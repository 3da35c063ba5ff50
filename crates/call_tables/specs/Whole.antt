-- What margins, trees and their recheck are over: a whole study, as a file of faults can have it.
use Rattle.std.specs.Prelude.{◌≤◌, length}
use Rattle.std.specs.List.{All}
use Rattle.model_line.specs.Fits.{Fits}
use Rattle.call_answer.specs.declared.study.Study.{Study}

-- the scripts fit the line, at most 4,096 of them
pub record IsWhole (study : Study) : Type 0 where
  pub fit : All (Fits study.line) study.scripts.items
  pub few : length study.scripts.items ≤ 4096
