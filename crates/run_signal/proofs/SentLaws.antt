-- What was sent, and the delays for which it comes.
use Rattle.std.proofs.Common.{◌≡◌, ℕ, Bool, ◌+◌, ◌<◌, ◌≤◌, List, length, get_or, subst, arith}
use Rattle.std.proofs.Common.{⊎_elim}
use Rattle.std.proofs.lemmas.Bool.{cases_lt}
use Rattle.std.proofs.lemmas.List.{get_or-map}
use Rattle.model_history.specs.{Comes.Comes, Rails.Rails, Rails.both, Rails.rails_at}
use Rattle.std.specs.Prelude.{false, zero, suc, [], ◌∷◌, IsTrue}
use Rattle.run_signal.specs.Sent.{sent_must, sent_may}
use Rattle.run_signal.specs.{declared.tern.Tern.Tern, Lanes.in_lane}
use Rattle.run_signal.specs.{TernLaws.tern_sound}

-- the rails of what was sent at a tick
pub rails_at-in_lane : {V : Type 0} (rails : V → ℕ → Rails) (lane : ℕ) (sent : List V) (r : ℕ)
    (d : V) → r < length sent → rails_at (in_lane rails lane sent) r ≡ rails (get_or sent r d) lane
rails_at-in_lane rails lane sent r d h = get_or-map (λ v. rails v lane) sent r d (both false) h

-- one more delay after which it comes
pub come_more : (u : ℕ → Bool) (least c t : ℕ) → ((k : ℕ) → least ≤ k → k < c → Comes u k t) →
    Comes u c t → (k : ℕ) → least ≤ k → k < c + 1 → Comes u k t
come_more u least c t before now k low lt = ⊎_elim (λ b. before k low b)
    (λ le. let e : c ≡ k = omega arith in subst (λ (x : ℕ). Comes u x t) e now) (cases_lt k c)

-- what was sent and must be on may be
pub sent_sound : (sent : List Tern) (r : ℕ) → IsTrue (sent_must sent r) → IsTrue (sent_may sent r)
sent_sound [] r on = on
sent_sound (v ∷ sent) zero on = tern_sound v on
sent_sound (v ∷ sent) (suc r) on = sent_sound sent r on
