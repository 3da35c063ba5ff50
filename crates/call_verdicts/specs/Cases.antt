-- What the table of verdicts is over.
use Rattle.std.specs.Prelude.{◌<◌, ◌^◌, length}
use Rattle.std.specs.List.{All}
use Rattle.model_line.specs.Fits.{Fits}
use Rattle.call_verdicts.specs.declared.cases.Cases.{Cases}

-- the scripts fit the line
pub record IsCases (cases : Cases) : Type 0 where
  pub fit : All (Fits cases.compiled.line.now) cases.scripts.now
  pub few : length cases.scripts.now < 2 ^ 32
