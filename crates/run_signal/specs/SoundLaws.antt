-- Rails of which what must be may be, tick by tick.
use Rattle.std.proofs.Common.{ℕ, zero, suc, List, [], ◌∷◌, ◌++◌, replicate}
use Rattle.model_history.specs.Rails.{Rails, IsSound, rails_at}
use Rattle.run_signal.specs.Cells.{AllSound}

pub sound_at : (l : List Rails) (r : ℕ) → AllSound l → IsSound (rails_at l r)
sound_at [] r h on = on
sound_at (x ∷ l) zero h on = h.0 on
sound_at (x ∷ l) (suc r) h on = sound_at l r h.1 on

pub sound_more : (l : List Rails) (x : Rails) (n : ℕ) → AllSound l → IsSound x
    → AllSound (l ++ replicate n x)
sound_more [] x zero h now = tt
sound_more [] x (suc n) h now = (now, sound_more [] x n h now)
sound_more (y ∷ l) x n h now = (h.0, sound_more l x n h.1 now)
