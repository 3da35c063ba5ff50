-- Two waves, of which one is to cover the other.
use Rattle.std.specs.Prelude.{◌≡◌, ◌<◌, ℕ, Bool, List, Option, MatchOption, length}
use Rattle.model_history.specs.Rails.{RailsCover}
use Rattle.run_signal.specs.{declared.tern.Tern.Tern, Terns.tern_rails}
use Rattle.run_waves.specs.waves.Waves.{wave_at}
use Rattle.run_waves.specs.derived.Firsts.{IsFirstFailing}
use Rattle.judge_match.specs.declared.matching.clash.Clash.{Clash}

-- the derived wave covers the wave that was seen, at a tick
abbrev pub CoversAt : List Tern → List Tern → ℕ → Type 0
CoversAt derived seen t = RailsCover (wave_at derived t) (wave_at seen t)

-- the first tick where it does not, and both values there
pub record IsSignalClash (derived seen : List Tern) (k : ℕ) (trip : Bool) (c : Clash)
    : Type 0 where
  pub terminal : c.terminal ≡ k
  pub signal : c.trip ≡ trip
  pub tick : IsFirstFailing (CoversAt derived seen) (length derived) c.tick
  pub seen_is : c.level ≡ (wave_at seen c.tick).must
  pub derived_is : tern_rails c.derived ≡ wave_at derived c.tick

-- it covers at every tick, or this is the first where it does not
abbrev pub IsSignalChecked : List Tern → List Tern → ℕ → Bool → Option Clash → Type 0
IsSignalChecked derived seen k trip clash =
    MatchOption clash ((t : ℕ) → t < length derived → CoversAt derived seen t)
    (λ c. IsSignalClash derived seen k trip c)
