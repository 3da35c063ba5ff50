-- How keys and trips stand between their changes.
use Rattle.std.proofs.Common.{◌≡◌, ◌<◌, ◌≤◌, ℕ, zero, suc, Bool, List, length, sym, ◌∙◌}
use Rattle.std.proofs.Common.{arith, Some, subst, ⊎_elim}
use Rattle.std.proofs.lemmas.Bool.{cases_lt}
use Rattle.std.specs.Prelude.{slice_get}
use Rattle.run_signal.specs.declared.level.Level.{Level}
use Rattle.run_signal.specs.SentKeys.{SentKeys}
use Rattle.run_changes.specs.changes.PlayedTracks.{is_shown}
use Rattle.run_changes.specs.rows.PlayRows.{value_before}
use Rattle.run_changes.specs.declared.rows.standing.Pair.{Pair}
use Rattle.run_changes.specs.declared.rows.standing.Standing.{Standing}

-- a signal has this level before tick t, and keeps it until the tick that is told
pub record Stands (values : ℕ → Bool) (t : ℕ) (s : Standing) : Type 0 where
  pub before : value_before values t ≡ s.level
  pub later : t ≤ s.until
  pub stays : (r : ℕ) → t ≤ r → r < s.until → values r ≡ s.level

-- so do the key and the trip of the terminal of place k
pub record PairStands (t : ℕ) (keys trips : List (SentKeys Level)) (k : ℕ) (p : Pair) : Type 0
  where
    pub key : Stands (is_shown keys k) t p.key
    pub trip : Stands (is_shown trips k) t p.trip

-- and those of each of n terminals
pub record AllStand (n t : ℕ) (keys trips : List (SentKeys Level)) (pairs : List Pair) : Type 0
  where
    pub count : length pairs ≡ n
    pub each : (k : ℕ) (p : Pair) → slice_get pairs k ≡ Some p → PairStands t keys trips k p

-- a signal that stands at a tick has the level of the tick before it
pub stands_before : {values : ℕ → Bool} {t : ℕ} {s : Standing} → Stands values t s → (r : ℕ)
    → t ≤ r → r ≤ s.until → value_before values r ≡ s.level
stands_before {values} {t} {s} h zero low high = let e : t ≡ zero = omega arith in
    subst (λ (i : ℕ). value_before values i ≡ s.level) e h.before
stands_before {values} {t} {s} h (suc r) low high =
    ⊎_elim (λ (lt : r < t). let e : t ≡ suc r = omega arith in
    subst (λ (i : ℕ). value_before values i ≡ s.level) e h.before)
    (λ le. h.stays r le (omega arith))
    (cases_lt r t)

-- it stands at each tick until the one that is told
pub stands_at : {values : ℕ → Bool} {t : ℕ} {s : Standing} → Stands values t s → (r : ℕ)
    → t ≤ r → r ≤ s.until → Stands values r s
stands_at h r low high = record {
  before = stands_before h r low high;
  later = high;
  stays = λ q from to. h.stays q (omega arith) to;
}

-- at a tick before that one it does not change
pub no_change : {values : ℕ → Bool} {t : ℕ} {s : Standing} → Stands values t s → (r : ℕ)
    → t ≤ r → r < s.until → value_before values r ≡ values r
no_change h r low high = stands_before h r low (omega arith) ∙ sym (h.stays r low high)

-- so do all of them at a tick that is not past any of theirs
pub all_stand_at : {n t : ℕ} {keys trips : List (SentKeys Level)} {pairs : List Pair}
    → AllStand n t keys trips pairs → (r : ℕ) → t ≤ r
    → ((k : ℕ) (p : Pair) → slice_get pairs k ≡ Some p → (r ≤ p.key.until) × (r ≤ p.trip.until))
    → AllStand n r keys trips pairs
all_stand_at h r low within = record {
  count = h.count;
  each = λ k p at.
      let both = within k p at in
      record {
        key = stands_at (h.each k p at).key r low both.0;
        trip = stands_at (h.each k p at).trip r low both.1;
      };
}
