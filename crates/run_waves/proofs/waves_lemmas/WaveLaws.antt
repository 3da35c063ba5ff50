-- Waves that are made stretch by stretch.
use Rattle.std.proofs.Common.{◌≡◌, ℕ, ◌+◌, ◌<◌, ◌≤◌, List, [], ◌++◌, length, map, replicate, refl}
use Rattle.std.proofs.Common.{sym, ◌∙◌, ap, arith, length-append, ⊎_elim}
use Rattle.std.proofs.lemmas.Bool.{cases_lt}
use Rattle.std.proofs.lemmas.List.{append-nil, map-append, length-map, length-replicate}
use Rattle.std.proofs.lemmas.List.{get_or_append_left}
use Rattle.std.specs.Prelude.{false, slice_get}
use Rattle.model_history.specs.Rails.{Rails, both, rails_at}
use Rattle.run_signal.specs.{declared.tern.Tern.Tern, Terns.tern_rails}
use Rattle.run_waves.specs.waves.Waves.{HasThroughout, wave_at, IsWaveOf}
use Rattle.run_waves.proofs.waves_lemmas.RunLaws.{in_run}
use Rattle.run_waves.specs.waves.WaveLaws.{wave_at-level}

pub wave_at-front : (wave more : List Tern) (t : ℕ) → t < length wave
    → wave_at (wave ++ more) t ≡ wave_at wave t
wave_at-front wave more t inside =
    let early : t < length (map tern_rails wave) = omega (arith, length-map wave tern_rails) in
    ap (λ (w : List Rails). rails_at w t) (map-append tern_rails wave more)
    ∙ get_or_append_left (map tern_rails wave) (map tern_rails more) (both false) t early

wave_at-more : (wave : List Tern) (level : Tern) (n t : ℕ) → length wave ≤ t → t < length wave + n
    → wave_at (wave ++ replicate n level) t ≡ tern_rails level
wave_at-more wave level n t low high =
    wave_at-level (wave ++ replicate n level) level t
    (ap (λ (more : List Tern). slice_get (wave ++ more) t) (sym (append-nil (replicate n level)))
    ∙ in_run wave [] level n t low high)

-- a stretch more
pub ticks_more : (wave new : List Tern) (level : Tern) (n : ℕ) (value : ℕ → Rails)
    → IsWaveOf wave (length wave) value → new ≡ wave ++ replicate n level
    → ((k : ℕ) → length wave ≤ k → k < length wave + n → tern_rails level ≡ value k)
    → IsWaveOf new (length new) value
ticks_more wave new level n value is more same = record {
  long = refl;
  values = λ t early.
      let longer : length new ≡ length wave + n = omega (
        arith,
        ap length more,
        length-append wave (replicate n level),
        length-replicate n level,
      ) in
      ap (λ (w : List Tern). wave_at w t) more
      ∙ ⊎_elim
      (λ before. wave_at-front wave (replicate n level) t before ∙ is.values t before)
      (λ after. wave_at-more wave level n t after (omega arith) ∙ same t after (omega arith))
      (cases_lt t (length wave));
}

-- how long the wave is after a stretch more
pub new_length : (wave new : List Tern) (level : Tern) (n : ℕ) → new ≡ wave ++ replicate n level
    → length new ≡ length wave + n
new_length wave new level n more =
    omega (
      arith,
      ap length more,
      length-append wave (replicate n level),
      length-replicate n level,
    )

pub longer : (wave new : List Tern) (level : Tern) (n m : ℕ) → new ≡ wave ++ replicate n level
    → length wave + n ≤ m → length new ≤ m
longer wave new level n m more room = omega (arith, new_length wave new level n more)

-- the rails at a tick of a stretch
pub rails_in : (wave : List Tern) (level : Tern) (from end k : ℕ)
    → HasThroughout wave level from end → from ≤ k → k < end → wave_at wave k ≡ tern_rails level
rails_in wave level from end k has low high = wave_at-level wave level k (has k low high)

-- the same of a cursor that goes along the wave
pub rails_along : (wave along : List Tern) (level : Tern) (from end k : ℕ) → along ≡ wave
    → HasThroughout along level from end → from ≤ k → k < end → wave_at wave k ≡ tern_rails level
rails_along wave along level from end k same has low high =
    ap (λ (w : List Tern). wave_at w k) (sym same) ∙ rails_in along level from end k has low high
