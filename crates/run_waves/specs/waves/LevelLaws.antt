-- Waves that are made of ticks of one value.
use Rattle.std.proofs.Common.{◌≡◌, ℕ, ◌+◌, ◌<◌, ◌≤◌, List, [], ◌++◌, length, replicate, refl}
use Rattle.std.proofs.Common.{sym, ap, arith, subst}
use Rattle.model_history.specs.Rails.{Rails}
use Rattle.run_signal.specs.{declared.tern.Tern.Tern, Terns.tern_rails}
use Rattle.run_waves.specs.{waves.Waves.IsWaveOf, waves.WaveLaws.WavesGrow}

-- before the first tick
pub at_first : (wave : List Tern) (value : ℕ → Rails) → wave ≡ [] → IsWaveOf wave 0 value
at_first wave value none = record {
  long = ap length none;
  values = λ t early. absurd (omega (arith, early));
}

-- some ticks more, of one value
pub with_ticks : WavesGrow → (wave new : List Tern) (level : Tern) (m n : ℕ) (value : ℕ → Rails)
    → IsWaveOf wave m value → new ≡ wave ++ replicate n level
    → ((k : ℕ) → m ≤ k → k < m + n → tern_rails level ≡ value k)
    → IsWaveOf new (m + n) value
with_ticks grow wave new level m n value is more same =
    let long : length wave ≡ m = is.long in
    let all : length new ≡ m + n = omega (arith, grow.long wave new level n more, long) in
    let P : ℕ → Type 0 = λ j. IsWaveOf new j value in
    subst P all
    (grow.ticks wave new level n value
    (record { long = refl; values = λ t early. is.values t (omega (arith, long, early)) })
    more (λ k low high. same k (omega (arith, long, low)) (omega (arith, long, high))))

-- before the first tick, by its length
pub at_none : (wave : List Tern) (value : ℕ → Rails) → wave ≡ []
    → IsWaveOf wave (length wave) value
at_none wave value none =
    let P : ℕ → Type 0 = λ n. IsWaveOf wave n value in
    subst P (sym (ap length none)) (at_first wave value none)

-- one value at all ticks
pub one_level : WavesGrow → (wave new : List Tern) (level : Tern) (n : ℕ) (value : ℕ → Rails) → wave ≡ []
    → new ≡ wave ++ replicate n level → ((k : ℕ) → k < n → tern_rails level ≡ value k)
    → IsWaveOf new n value
one_level grow wave new level n value none is same =
    let all : 0 + n ≡ n = omega arith in
    let P : ℕ → Type 0 = λ j. IsWaveOf new j value in
    subst P all
    (with_ticks grow wave new level 0 n value (at_first wave value none) is
    (λ k low high. same k (omega (arith, high))))
