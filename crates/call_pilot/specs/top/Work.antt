-- A command, over what its files say.
use Rattle.std.specs.Prelude.{ℕ, List}
use Rattle.model_line.specs.{declared.line.Line.Line, declared.script.Script.Script}
use Rattle.model_timing.specs.NamedValues.{NamedValues}
use Rattle.judge_match.specs.matching.Waves.{SeenValues}

pub data Work : Type 0 where
  net : Line → Work
  line : Line → Work
  migrate : Line → Work
  certify : Line → List Script → Work
  report : Line → List Script → Work
  play : Line → List Script → List NamedValues → Work
  -- with the bytes of a certificate
  check : Line → List Script → List ℕ → Work
  -- with the bytes of split trees
  recheck : Line → List Script → List ℕ → Work
  -- with records of the field
  matching : Line → List Script → List SeenValues → Work
  -- with the number of a parameter
  margin : Line → List Script → ℕ → Work
  -- with a number of splits
  split : Line → List Script → ℕ → Work
  bench : ℕ → Work
