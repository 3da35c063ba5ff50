-- What a seal cell stands for.
use Rattle.std.specs.Prelude.{◌≡◌, ℕ, zero, suc, false, List, length}
use Rattle.model_history.specs.Rails.{Rails, both, rails_sealed, rails_at}

-- the seal at the last of the first n ticks; off before the first
abbrev pub last_seal : (ℕ → Rails) → (ℕ → Rails) → ℕ → Rails
last_seal set keep zero = both false
last_seal set keep (suc t) = rails_sealed set keep t

-- the rails of the last answer stand for the two recorded histories
pub record SealStandsFor (last : Rails) (sets keeps : List Rails) : Type 0 where
  pub together : length keeps ≡ length sets
  pub last_is : last ≡ last_seal (rails_at sets) (rails_at keeps) (length sets)
