-- What was sent so many ticks ago.
use Rattle.std.specs.Prelude.{ℕ, Bool, List, length}
use Rattle.model_history.specs.{Elements.delayed, Rails.rails_at}
use Rattle.run_signal.specs.Lanes.{in_lane}
use Rattle.judge_verdict.specs.{declared.boxes.terns.Terns64.Terns64, boxes.Terns.terns_rails}

-- whether it must have been on in a lane, c ticks before the tick after these
abbrev pub must_before : List Terns64 → ℕ → ℕ → Bool
must_before sent lane c =
    delayed (λ r. (rails_at (in_lane terns_rails lane sent) r).must) c (length sent)

-- whether it may have been on
abbrev pub may_before : List Terns64 → ℕ → ℕ → Bool
may_before sent lane c =
    delayed (λ r. (rails_at (in_lane terns_rails lane sent) r).may) c (length sent)
