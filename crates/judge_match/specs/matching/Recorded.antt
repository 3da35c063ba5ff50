-- What the records of a file are to a line and its scripts.
use Rattle.std.specs.Prelude.{◌≡◌, ◌<◌, ℕ, List, length}
use Rattle.model_history.specs.Rails.{both}
use Rattle.model_line.specs.{declared.line.Line.Line, declared.script.Script.Script}
use Rattle.model_line.specs.Parameters.{terminal_count}
use Rattle.model_logic.specs.Histories.{History}
use Rattle.run_waves.specs.waves.Waves.{AreWaves}
use Rattle.run_waves.specs.derived.Claims.{pairs_of}
use Rattle.judge_match.specs.matching.Waves.{SeenValues}

-- what was recorded, as a history
abbrev pub recorded : SeenValues → History
recorded values = record {
  key = λ k t. (pairs_of values.keys k t).must;
  trip = λ k t. (pairs_of values.trips k t).must;
}

-- the record is of one of the scripts, and has a key wave and a trip wave for each terminal, each of
-- the horizon's length, and known at every tick
pub record IsRecordOf (line : Line) (scripts : List Script) (values : SeenValues) : Type 0 where
  pub script : values.script < length scripts
  pub keys : AreWaves (terminal_count line) line.horizon values.keys
  pub trips : AreWaves (terminal_count line) line.horizon values.trips
  pub known_keys : (k t : ℕ) → k < terminal_count line → t < line.horizon
      → pairs_of values.keys k t ≡ both ((recorded values).key k t)
  pub known_trips : (k t : ℕ) → k < terminal_count line → t < line.horizon
      → pairs_of values.trips k t ≡ both ((recorded values).trip k t)
