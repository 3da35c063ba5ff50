-- What two cursors tell of their waves, stretch by stretch.
use Rattle.std.proofs.Common.{◌≡◌, ℕ, ◌≤◌, ◌<◌, sym, ◌∙◌, subst, ap, List, ⊎_elim}
use Rattle.std.proofs.lemmas.Bool.{cases_lt}
use Rattle.model_history.specs.Rails.{Rails, RailsCover}
use Rattle.run_signal.specs.declared.tern.Tern.{Tern}
use Rattle.run_waves.specs.waves.Waves.{wave_at}

pub cover_same : (a b x y : Rails) → a ≡ x → b ≡ y → RailsCover x y → RailsCover a b
cover_same a b x y e f h =
    subst (λ (r : Rails). RailsCover r b) (sym e) (subst (RailsCover x) (sym f) h)

-- what a cursor tells of a wave
pub along : (wave cursor : List Tern) (k : ℕ) (rails : Rails) → cursor ≡ wave
    → wave_at cursor k ≡ rails → wave_at wave k ≡ rails
along wave cursor k rails same is = ap (λ (w : List Tern). wave_at w k) (sym same) ∙ is

-- a fact of each number from one on until another
pub stretch_more : (fact : ℕ → Type 0) (n m : ℕ) → ((i : ℕ) → i < n → fact i)
    → ((i : ℕ) → n ≤ i → i < m → fact i) → (i : ℕ) → i < m → fact i
stretch_more fact n m before now i lt =
    ⊎_elim (λ early. before i early) (λ late. now i late lt) (cases_lt i n)
