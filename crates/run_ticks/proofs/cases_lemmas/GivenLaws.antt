-- What a net is given from outside at a tick.
use Rattle.std.proofs.Common.{◌≡◌, ℕ, ◌<◌, ◌≤◌, List, [], ◌∷◌, Some, Bool, true, false}
use Rattle.std.proofs.Common.{refl, sym, ◌∙◌, ap, subst, ◌&&◌, ◌||◌}
use Rattle.std.proofs.lemmas.Option.{slice_get_within}
use Rattle.std.specs.Prelude.{slice_get, cond}
use Rattle.std.specs.List.{list_any, filter}
use Rattle.model_history.specs.Rails.{Ends, both}
use Rattle.model_line.specs.Parameters.{terminal_count, channel_count}
use Rattle.model_line.specs.Seen.{is_of_place, is_of_loss, shows, loses}
use Rattle.model_line.specs.{declared.script.SeenSpan.SeenSpan, declared.line.Line.Line}
use Rattle.model_line.specs.declared.script.Script.{Script}
use Rattle.model_logic.specs.Choice.{LeastFromOne, pair_world_of}
use Rattle.run_step.specs.LaneBox.{ends_in}
use Rattle.run_signal.specs.Signals.{SignalOf}
use Rattle.run_ticks.specs.cases.Given.{AreDelays, CanReceive, IsWorldAt, holds, span_box, spans_at}
use Rattle.run_ticks.specs.declared.cases.delays.Delay.{Delay}

held_step : (test : SeenSpan → Bool) (hold : SeenSpan → Bool) (of : SeenSpan → Bool)
    → ((s : SeenSpan) → test s ≡ (of s && hold s)) → (s : SeenSpan) (rest : List SeenSpan) (b : Bool)
    → hold s ≡ b → list_any test (filter hold rest) ≡ list_any test rest
    → list_any test (cond b (s ∷ filter hold rest) (filter hold rest)) ≡ (test s || list_any test rest)
held_step test hold of is s rest true e before = ap (λ (b : Bool). test s || b) before
held_step test hold of is s rest false e before =
    before ∙ ap (λ (b : Bool). b || list_any test rest)
    (sym (is s ∙ ap (λ (b : Bool). of s && b) e ∙ off (of s))) where
      off : (a : Bool) → (a && false) ≡ false
      off true = refl
      off false = refl

-- what holds only while a span does is looked for among those that hold
any_held : (test : SeenSpan → Bool) (hold : SeenSpan → Bool) (of : SeenSpan → Bool)
    → ((s : SeenSpan) → test s ≡ (of s && hold s)) → (spans : List SeenSpan)
    → list_any test (filter hold spans) ≡ list_any test spans
any_held test hold of is [] = refl
any_held test hold of is (s ∷ rest) =
    held_step test hold of is s rest (hold s) refl (any_held test hold of is rest)

module _ {V S : Type 0} (signal : SignalOf V S) (line : Line) (spans : List S)
    (delays : List (Delay S)) (are : AreDelays line spans delays) where
  span_is : (lane c : ℕ) (d : Delay S) → slice_get delays c ≡ Some d
      → signal.ends d.span lane ≡ (span_box signal.ends line spans lane).delay c 0
  span_is lane c d at = sym (ap (ends_in signal.ends lane) (are.span c d at))

  pub world_at : (lane t : ℕ) (script : Script)
      → IsWorldAt signal.ends lane (spans_at t script.spans.items) delays
      (pair_world_of line script (span_box signal.ends line spans lane)) t
  unfolding pair_world_of
  world_at lane t script = record {
    seen = λ p.
        ap both (any_held (shows p t) (holds t) (λ s. is_of_place p s.what) (λ s. refl)
        script.spans.items);
    lost = λ c.
        ap both (any_held (loses c t) (holds t) (λ s. is_of_loss c s.what) (λ s. refl)
        script.spans.items);
    channels = record { from = are.from; delay = λ c d at. span_is lane c d at };
  }

  pub can_receive : (t : ℕ) → t < line.horizon
      → ((lane : ℕ) → lane < signal.lanes → LeastFromOne line (span_box signal.ends line spans lane))
      → CanReceive signal line delays
  can_receive t early delayed =
      let channel : (c : ℕ) (d : Delay S) → slice_get delays c ≡ Some d → c < channel_count line =
      λ c d at. subst (λ (m : ℕ). c < m) are.count (slice_get_within delays c d at) in
      record {
        count = are.count;
        from = λ c d at.
            subst (λ (k : ℕ). k < terminal_count line) (sym (are.from c d at))
            (line.pairs_once.from c (channel c d at));
        later = λ c d at lane below.
            subst (λ (e : Ends). 1 ≤ e.least) (sym (span_is lane c d at))
            (delayed lane below c t (channel c d at) early);
      }
