-- The first tick at which a wave is on, told of pairs that are the same over the run.
use Rattle.std.proofs.Common.{◌≡◌, ◌<◌, ◌∙◌, ℕ, Bool, List, ap, length, subst, sym}
use Rattle.model_history.specs.Rails.{Rails}
use Rattle.run_signal.specs.declared.tern.Tern.{Tern}
use Rattle.run_waves.specs.waves.{FirstTick.first_on, FirstTickLaws.first_on-same, Waves.IsWaveOf, Waves.wave_at}

pub first_alike : (of : Rails → Bool) (wave : List Tern) (n m : ℕ) (u v : ℕ → Rails)
    → IsWaveOf wave n u → n ≡ m → ((t : ℕ) → t < m → u t ≡ v t)
    → first_on (λ t. of (wave_at wave t)) (length wave) ≡ first_on (λ t. of (v t)) m
first_alike of wave n m u v is e same =
    ap (first_on (λ t. of (wave_at wave t))) (is.long ∙ e)
    ∙ first_on-same (λ t. of (wave_at wave t)) (λ t. of (v t)) m
    (λ t lt. ap of (is.values t (subst (λ (k : ℕ). t < k) (sym e) lt) ∙ same t lt))
