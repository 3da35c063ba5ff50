-- The rails of what was sent.
use Rattle.std.specs.Prelude.{ℕ, Bool, List}
use Rattle.model_history.specs.Rails.{rails_at}
use Rattle.run_signal.specs.{declared.tern.Tern.Tern, Terns.tern_rails, Lanes.in_lane}

-- whether what was sent at tick r must be on
abbrev pub sent_must : List Tern → ℕ → Bool
sent_must sent r = (rails_at (in_lane (λ v _. tern_rails v) 0 sent) r).must

-- whether it may be on
abbrev pub sent_may : List Tern → ℕ → Bool
sent_may sent r = (rails_at (in_lane (λ v _. tern_rails v) 0 sent) r).may
