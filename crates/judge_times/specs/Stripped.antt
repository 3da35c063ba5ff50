-- What a part comes to strip by strip, and what is left of it.
use Rattle.std.specs.Prelude.{◌⊎◌, ℕ, List}
use Rattle.std.specs.List.{All}
use Rattle.model_history.specs.Rails.{Ends}
use Rattle.model_borders.specs.Borders.{AreLengthsIn}
use Rattle.judge_times.specs.declared.{fault.Uncertain.Uncertain, part.Part.Part}
use Rattle.judge_times.specs.Answers.{IsAnswer, SomeHas}

-- each is an answer, and all times of the whole are times of one of them or of what is left
pub record AreStrips (of : Uncertain) (whole rest : List Ends) (parts : List Part) : Type 0 where
  pub each : All (IsAnswer of whole) parts
  pub cover : (n : ℕ) (x : ℕ → ℕ) → AreLengthsIn n whole x
      → SomeHas n x parts ⊎ AreLengthsIn n rest x
