-- What a run by stretches holds before a tick, and what it gives.
use Rattle.run_signal.specs.Signals.{SignalOf}
use Rattle.std.specs.Prelude.{◌≡◌, ◌<◌, ℕ, false, List, Option, Some, None, slice_get, length}
use Rattle.model_history.specs.Rails.{Rails, rails_at, both}
use Rattle.run_signal.specs.Lanes.{in_lane}
use Rattle.run_signal.specs.SentKeys.{SentKeys}
use Rattle.model_line.specs.declared.script.Script.{Script}
use Rattle.model_logic.specs.PairMean.{PairSignals}
use Rattle.model_logic.specs.Histories.{PairHistory}
use Rattle.net_gates.specs.NetOf.{NetOf, trip_of}
use Rattle.run_step.specs.{declared.run.Run.Run, GatePairs.GateSignals}
use Rattle.run_step.specs.Lanes.{LanePairs, line_lane}
use Rattle.run_step.specs.{Ticks.KeysSent, Ticks.AreSent}
use Rattle.run_changes.specs.{changes.Lags.AllWait, changes.Lags.AreAtGate}
use Rattle.run_step.specs.{Inputs.AreDelays, Inputs.AreSetUntil, Inputs.DelaysStand}
use Rattle.run_changes.specs.{declared.changes.kept.Kept.Kept, changes.ShownBy.AreShownBy, changes.ShownBy.HasSpansOf}

-- the pairs of the trips' gates
abbrev pub trips_of : NetOf → GateSignals → PairSignals
trips_of net u k t = u (trip_of net k) t

-- in a lane, before tick t: the keys and the trips of the ticks before were kept, and each gate
-- waits for a change
pub record LaneTracked {C S V : Type 0} (signal : SignalOf V S)
    (stands_for : C → S → S → ℕ → List Rails → Type 0) (lane : ℕ) (p : LanePairs) (net : NetOf) (t : ℕ)
    (kept : Kept C V S S) : Type 0 where
  pub keys_kept : KeysSent signal.rails lane p.keys t kept.keys.items
  pub trips_kept : KeysSent signal.rails lane (trips_of net p.pairs) t kept.trips.items
  pub wait : AllWait signal stands_for lane p t net.gates kept.gates

-- what is kept can take tick t
pub record CanTake {C S V : Type 0} (signal : SignalOf V S) (run : Run S) (t : ℕ)
    (kept : Kept C V S S) : Type 0 where
  pub gates : AreAtGate run.compiled.now.net.now t 0 kept.gates
  pub reached : t ≡ kept.gates.marks.next
  pub horizon : kept.gates.marks.horizon ≡ run.compiled.now.line.now.horizon
  pub shown : HasSpansOf (length run.compiled.now.net.now.gates) kept.shown
  pub delays : AreDelays run.compiled.now.line.now kept.delays.list.items
  pub stand : DelaysStand signal run t kept.delays.list.items
  pub until : AreSetUntil kept.delays.until kept.delays.list.items
  pub keys : AreSent (length run.compiled.now.net.now.keys) run.compiled.now.line.now.horizon t
      kept.keys.items
  pub trips : AreSent (length run.compiled.now.net.now.trips) run.compiled.now.line.now.horizon t
      kept.trips.items

-- it is kept of a run over the script: what the script shows of each gate, and in each lane the
-- ticks before
pub record IsKeptOf {C S V : Type 0} (signal : SignalOf V S)
    (stands_for : C → S → S → ℕ → List Rails → Type 0) (run : Run S) (script : Script) (t : ℕ)
    (kept : Kept C V S S) : Type 0 where
  pub shown : AreShownBy script run.compiled.now.net.now.gates kept.shown
  pub tracked : (lane : ℕ) → lane < signal.lanes
      → LaneTracked signal stands_for lane (line_lane signal.ends run script lane)
      run.compiled.now.net.now t kept

-- the pair of the value at a tick of a track in a lane; off where there is none
abbrev pub pair_of : {V : Type 0} → (V → ℕ → Rails) → ℕ → ℕ → Option (SentKeys V) → Rails
pair_of rails lane t None = both false
pair_of rails lane t (Some s) = rails_at (in_lane rails lane s.keys) t

-- the pairs of what each terminal keys and of its trip, in a lane
abbrev pub tracks_history : {V : Type 0} → (V → ℕ → Rails) → ℕ → List (SentKeys V)
    → List (SentKeys V) → PairHistory
tracks_history rails lane keys trips = record {
  key = λ k t. pair_of rails lane t (slice_get keys k);
  trip = λ k t. pair_of rails lane t (slice_get trips k);
}
