-- The first ticks of a trip, over all choices.
use Rattle.std.specs.Prelude.{◌≡◌, ℕ, Option}
use Rattle.model_line.specs.{declared.line.Line.Line, declared.script.Script.Script}
use Rattle.model_logic.specs.{Choice.declared_box, Histories.IsPairHistory, Histories.PairHistory}
use Rattle.run_waves.specs.waves.FirstTick.{first_on}

-- the first tick at which some choice may trip, in the script's interval history, of which there is
-- one
abbrev pub IsFirstMay : Line → Script → ℕ → Option ℕ → Type 0
IsFirstMay line script k first = (w : PairHistory)
    → IsPairHistory line script (declared_box line) w
    → first ≡ first_on (λ t. (w.trip k t).may) line.horizon

-- and at which the trip must have come
abbrev pub IsFirstMust : Line → Script → ℕ → Option ℕ → Type 0
IsFirstMust line script k first = (w : PairHistory)
    → IsPairHistory line script (declared_box line) w
    → first ≡ first_on (λ t. (w.trip k t).must) line.horizon
