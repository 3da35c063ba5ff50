-- What a net is given from outside, from a tick on.
use Rattle.run_signal.specs.Signals.{SignalOf}
use Rattle.std.proofs.Common.{◌≡◌, ℕ, ◌<◌, ◌≤◌, List, Some, sym, ◌∙◌, ap}
use Rattle.std.proofs.Common.{arith, subst, ⊎_elim, length-set}
use Rattle.std.proofs.lemmas.Option.{slice_get-map, slice_get_within, get_or_from_slice_get}
use Rattle.std.specs.Prelude.{slice_get, slice_set, option_map}
use Rattle.model_history.specs.Rails.{Ends, both}
use Rattle.model_line.specs.Parameters.{terminal_count, channel_count, param_count, delay_param}
use Rattle.model_line.specs.Channels.{from_of}
use Rattle.model_line.specs.{declared.script.SeenSpan.SeenSpan, declared.line.Line.Line}
use Rattle.model_line.specs.{declared.line.Channel.Channel, declared.script.Script.Script}
use Rattle.model_logic.specs.{Choice.pair_world_of, PairMean.PairWorld}
use Rattle.run_step.specs.Inputs.{AreDelays, AreDelaysFrom, AreDelaysOf, AreSet, AreSoonest, CanReceive}
use Rattle.run_step.specs.Inputs.{DelaysStand, IsWorldAt}
use Rattle.run_step.specs.Shown.{ShowTheSame, ShownSpans, AreShown, not_over}
use Rattle.run_step.specs.{declared.delays.Delay.Delay, declared.run.Run.Run}
use Rattle.run_step.specs.LaneBox.{ends_at, lane_box}
use Rattle.run_step.specs.LaneBox.{lane_world}
use Rattle.run_step.specs.Runs.{AreDelayed}
use Rattle.model_history.specs.ListLaws.{at_set}

-- who sends over a channel
pub sender : (line : Line) (c : ℕ) (h : Channel) → slice_get line.channels.items c ≡ Some h
    → from_of line.channels.items c ≡ h.from
sender line c h is =
    get_or_from_slice_get _ c h.from 0
    (slice_get-map (λ (k : Channel). k.from) line.channels.items c
    ∙ ap (option_map (λ (k : Channel). k.from)) is)

-- one delay with another span
pub span_set : {S : Type 0} (line : Line) (delays : List (Delay S)) (c : ℕ) (old new : Delay S)
    → slice_get delays c ≡ Some old → new.from ≡ old.from → new.param ≡ old.param
    → AreDelays line delays → AreDelays line (slice_set delays c new)
span_set {S} line delays c old new at from param are =
    let each : (P : ℕ → Delay S → Type 0) → P c new
    → ((i : ℕ) (d : Delay S) → slice_get delays i ≡ Some d → P i d)
    → (i : ℕ) (d : Delay S) → slice_get (slice_set delays c new) i ≡ Some d → P i d =
    λ P now before i d there.
    ⊎_elim (λ p. subst (λ (k : ℕ). P k d) (sym p.0) (subst (P c) p.1 now))
    (λ p. before i d p.1) (at_set delays c new i d there) in
    record {
      count = length-set delays c new ∙ are.count;
      from = each (λ i d. d.from ≡ from_of line.channels.items i) (from ∙ are.from c old at)
          are.from;
      param = each (λ i d. d.param ≡ delay_param line i) (param ∙ are.param c old at) are.param;
      there = each (λ i d. d.param < param_count line)
          (subst (λ (k : ℕ). k < param_count line) (sym param) (are.there c old at)) are.there;
    }

module _ (all : List SeenSpan) (shown : ShownSpans) where
  -- nothing before it is looked up
  pub shown_none : ((r : ℕ) → ShowTheSame r (not_over shown) all) → AreShown all shown 0 0
  shown_none same = record {
    left = λ r low. same r;
    shown = λ r low high. absurd (omega arith);
    keeps = record {
      seen = λ p r low high. absurd (omega arith);
      lost = λ c r low high. absurd (omega arith);
    };
  }

  pub shown_later : (t s until : ℕ) → t ≤ s → AreShown all shown t until → AreShown all shown s until
  shown_later t s until le are = record {
    left = λ r low. are.left r (omega arith);
    shown = λ r low high. are.shown r (omega arith) high;
    keeps = record {
      seen = λ p r low high. are.keeps.seen p r (omega arith) (omega arith)
          ∙ sym (are.keeps.seen p s (omega arith) (omega arith));
      lost = λ c r low high. are.keeps.lost c r (omega arith) (omega arith)
          ∙ sym (are.keeps.lost c s (omega arith) (omega arith));
    };
  }

module _ {V S : Type 0} (signal : SignalOf V S) (run : Run S) (delays : List (Delay S)) where
  -- nothing before it is looked up
  pub stand_none : ((c : ℕ) (d : Delay S) → slice_get delays c ≡ Some d → d.until ≡ 0)
      → DelaysStand signal run 0 delays
  stand_none over c d at = let none : d.until ≡ 0 = over c d at in record {
    holds = λ lane r low high. absurd (omega (arith, none, high));
    soonest = λ early. absurd (omega (arith, none, early));
  }

  pub stand_later : (t s : ℕ) → t ≤ s → DelaysStand signal run t delays
      → DelaysStand signal run s delays
  stand_later t s le stand c d at = let before = stand c d at in record {
    holds = λ lane r low high. before.holds lane r (omega arith) high;
    soonest = λ early. before.soonest (omega arith);
  }

  pub soonest_now : (t : ℕ) → DelaysStand signal run t delays → AreSet t delays
      → AreSoonest signal delays
  soonest_now t stand set c d at = (stand c d at).soonest (set c d at)

module _ {V S : Type 0} (signal : SignalOf V S) (run : Run S) (delays : List (Delay S)) (t : ℕ)
    (are : AreDelays run.compiled.now.line.now delays)
    (stand : DelaysStand signal run t delays) (set : AreSet t delays) where
  module _ (lane : ℕ) where
    -- the span of a channel's delay
    span_at : (c r : ℕ) (d : Delay S) → slice_get delays c ≡ Some d → t ≤ r → r < d.until
        → signal.ends d.span lane ≡ ends_at signal.ends lane run.spans.now run.steps.now
        (delay_param run.compiled.now.line.now c) r
    span_at c r d at low high =
        (stand c d at).holds lane r low high
        ∙ ap (λ (p : ℕ). ends_at signal.ends lane run.spans.now run.steps.now p r)
        (are.param c d at)

    pub delays_from : (script : Script)
        → AreDelaysFrom signal.ends lane delays
        (lane_world signal.ends run.compiled.now.line.now script run.spans.now run.steps.now lane) t
    unfolding pair_world_of lane_box
    delays_from script = record {
      from = are.from;
      delay = λ c d at r low high. span_at c r d at low high;
    }

    pub world_at : (script : Script) (shown : ShownSpans) (until : ℕ)
        → AreShown script.spans.items shown t until → t < until
        → IsWorldAt signal.ends lane shown.present delays
        (lane_world signal.ends run.compiled.now.line.now script run.spans.now run.steps.now lane) t
    unfolding pair_world_of lane_box
    world_at script shown until given early =
        let now = given.shown t (omega arith) early in
        record {
          seen = λ p. ap both (now.seen p);
          lost = λ c. ap both (now.lost c);
          channels = record {
            from = are.from;
            delay = λ c d at. span_at c t d at (omega arith) (set c d at);
          };
        }

  pub can_receive : t < run.compiled.now.line.now.horizon
      → AreDelayed signal run.compiled.now.line.now run.spans.now run.steps.now
      → CanReceive signal run.compiled.now.line.now delays
  unfolding lane_box
  can_receive inside delayed =
      let channel : (c : ℕ) (d : Delay S) → slice_get delays c ≡ Some d
      → c < channel_count run.compiled.now.line.now =
      λ c d at. subst (λ (m : ℕ). c < m) are.count (slice_get_within delays c d at) in
      record {
        count = are.count;
        from = λ c d at.
            subst (λ (k : ℕ). k < terminal_count run.compiled.now.line.now) (sym (are.from c d at))
            (run.compiled.now.line.now.pairs_once.from c (channel c d at));
        later = λ c d at lane below.
            subst (λ (e : Ends). 1 ≤ e.least)
            (sym (span_at lane c t d at (omega arith) (set c d at)))
            (delayed lane below c t (channel c d at) inside);
      }

-- the delays at the tick
pub delays_now : {S : Type 0} (ends : S → ℕ → Ends) (lane : ℕ) (delays : List (Delay S))
    (w : PairWorld) (t : ℕ) → AreSet t delays → AreDelaysFrom ends lane delays w t
    → AreDelaysOf ends lane delays w t
delays_now ends lane delays w t set from = record {
  from = from.from;
  delay = λ c d at. from.delay c d at t (omega arith) (set c d at);
}
