-- The first ticks of waves.
use Rattle.std.proofs.Common.{◌≡◌, ℕ, Bool, List, length, ◌∙◌, ap, arith}
use Rattle.model_history.specs.Rails.{Rails}
use Rattle.run_signal.specs.declared.tern.Tern.{Tern}
use Rattle.run_waves.specs.{waves.FirstTick.first_on}
use Rattle.run_waves.specs.{waves.FirstTickLaws.first_on-same}
use Rattle.run_waves.specs.{waves.Waves.wave_at, waves.Waves.IsWaveOf}

-- the first tick of a wave on a rail is that of its values
pub first_of_wave : (rail : Rails → Bool) (wave : List Tern) (horizon : ℕ) (value : ℕ → Rails)
    → IsWaveOf wave horizon value
    → first_on (λ t. rail (wave_at wave t)) (length wave) ≡ first_on (λ t. rail (value t)) horizon
first_of_wave rail wave horizon value is =
    first_on-same (λ t. rail (wave_at wave t)) (λ t. rail (value t)) (length wave)
    (λ t early. ap rail (is.values t (omega (arith, is.long))))
    ∙ ap (first_on (λ t. rail (value t))) is.long
