-- Laws of waves that proofs above cite.
use Rattle.std.proofs.Common.{◌∙◌, ap}
use Rattle.std.proofs.lemmas.Option.{slice_get-map, get_or_from_slice_get}
use Rattle.std.specs.Prelude.{◌≡◌, ◌+◌, ◌<◌, ◌≤◌, ◌++◌, ℕ, List, length, map, replicate, slice_get}
use Rattle.std.specs.Prelude.{Some, option_map, false, zero, suc, [], ◌∷◌}
use Rattle.model_history.specs.Rails.{Rails, IsSound, both}
use Rattle.run_signal.specs.{declared.tern.Tern.Tern, Terns.tern_rails, TernLaws.tern_sound}
use Rattle.run_waves.specs.waves.Waves.{IsWaveOf, wave_at}

-- what must be may be, at each tick of a wave
pub wave_sound : (wave : List Tern) (r : ℕ) → IsSound (wave_at wave r)
wave_sound [] r on = on
wave_sound (level ∷ wave) zero on = tern_sound level on
wave_sound (level ∷ wave) (suc r) on = wave_sound wave r on

-- the rails of the value at a tick
pub wave_at-level : (wave : List Tern) (level : Tern) (t : ℕ) → slice_get wave t ≡ Some level
    → wave_at wave t ≡ tern_rails level
wave_at-level wave level t is =
    get_or_from_slice_get (map tern_rails wave) t (tern_rails level) (both false)
    (slice_get-map tern_rails wave t ∙ ap (option_map tern_rails) is)

-- a wave with these rails at each tick, and then n ticks of a value that has them, is such a wave
-- of n ticks more
pub record WavesGrow : Type 0 where
  pub ticks : (wave new : List Tern) (level : Tern) (n : ℕ) (value : ℕ → Rails)
      → IsWaveOf wave (length wave) value → new ≡ wave ++ replicate n level
      → ((k : ℕ) → length wave ≤ k → k < length wave + n → tern_rails level ≡ value k)
      → IsWaveOf new (length new) value
  pub long : (wave new : List Tern) (level : Tern) (n : ℕ) → new ≡ wave ++ replicate n level
      → length new ≡ length wave + n
