-- Lists of signals, lane by lane.
use Rattle.std.specs.Prelude.{ℕ, List, map}
use Rattle.model_history.specs.Rails.{Rails}

-- the rails of a list of values in one lane
abbrev pub in_lane : {V : Type 0} → (V → ℕ → Rails) → ℕ → List V → List Rails
in_lane rails lane values = map (λ v. rails v lane) values
