-- Stretches of one value.
use Rattle.std.specs.Prelude.{◌≡◌, ◌≢◌, ◌<◌, ◌≤◌, ℕ, suc, List, [], ◌∷◌}
use Rattle.model_history.specs.Rails.{Rails}
use Rattle.run_signal.specs.Terns.{tern_rails}
use Rattle.draw_run.specs.declared.diagram.stretch.Stretch.{Stretch}

-- the pair is that of the stretch at each of its ticks, of which there are some, and is another at
-- the tick before
pub record IsStretch (pair : ℕ → Rails) (s : Stretch) : Type 0 where
  pub some : s.from < s.to
  pub same : (t : ℕ) → s.from ≤ t → t < s.to → pair t ≡ tern_rails s.value
  pub change : (t : ℕ) → suc t ≡ s.from → pair t ≢ tern_rails s.value

-- stretches one after another, the first from tick `from` on, the last up to tick `to`
abbrev pub AreStretches : (ℕ → Rails) → ℕ → List Stretch → ℕ → Type 0
AreStretches pair from [] to = from ≡ to
AreStretches pair from (s ∷ rest) to =
    IsStretch pair s × (s.from ≡ from) × AreStretches pair s.to rest to
