use Rattle.std.proofs.Common.{◌≡◌, ℕ, List, length, sym, ◌∙◌, ap, subst, arith}
use Rattle.std.specs.Prelude.{slice_get}
use Rattle.run_signal.specs.{declared.tern.Tern.Tern, Terns.tern_rails}
use Rattle.run_signal.specs.SentKeys.{SentKeys}
use Rattle.model_logic.specs.Histories.{PairHistory, IsPairHistory}
use Rattle.model_logic.specs.Choice.{Box, declared_box}
use Rattle.model_line.specs.Parameters.{terminal_count}
use Rattle.run_step.specs.Ticks.{AreSent}
use Rattle.run_changes.specs.changes.Tracks.{tracks_history}
use Rattle.judge_verdict.specs.verdict.PairWavesOf.{PairWavesOf, AreWavesOf, track_pairs, pair_history}
use Rattle.judge_verdict.specs.verdict.Spans.{declared_spans}
use Rattle.judge_verdict.proofs.verdict_lemmas.ToldHistory.{told_history, are_long}
use Rattle.judge_verdict.specs.verdict.DeclaredLaws.{box_declared, spans_delayed}
use Rattle.judge_verdict.proofs.verdict.interval_history.analyse.Goals as goal

pub run_tracks-requires-clause-delayed : goal.run_tracks-requires-clause-delayed
run_tracks-requires-clause-delayed c =
    spans_delayed c.args.compiled.now.line.now c.deref.result.now
    (c.deref.ensures.value ∙ c.in_ok-spans.ensures)
    (c.each_line_has_a_choice_inside.ensures.declared c.args.compiled.now.line.now)

-- each track reaches to the horizon
pub track_waves-requires-clause-long : goal.track_waves-requires-clause-long
track_waves-requires-clause-long c = λ k track at.
    (c.in_ok-tracks.ensures.keys.each k track
    (ap (λ (l : List (SentKeys Tern)). slice_get l k) (sym c.deref-2.ensures.value) ∙ at)).0

pub track_waves-requires-2-clause-long : goal.track_waves-requires-2-clause-long
track_waves-requires-2-clause-long c = λ k track at.
    (c.in_ok-tracks.ensures.trips.each k track
    (ap (λ (l : List (SentKeys Tern)). slice_get l k) (sym c.deref-3.ensures.value) ∙ at)).0

-- the waves of the tracks are those of the line's terminals
of_terminals : (m terminals horizon : ℕ) (all tracks : List (SentKeys Tern))
    (waves : List (List Tern)) → tracks ≡ all → AreSent m horizon horizon all → m ≡ terminals
    → AreWavesOf (length tracks) horizon (track_pairs tracks) waves
    → AreWavesOf terminals horizon (track_pairs all) waves
of_terminals m terminals horizon all tracks waves same sent count are =
    subst (λ (j : ℕ). AreWavesOf j horizon (track_pairs all) waves) (sent.count ∙ count)
    (subst (λ (l : List (SentKeys Tern)). AreWavesOf (length l) horizon (track_pairs l) waves) same
    are)

pub new-requires : goal.new-requires
new-requires c =
    let n = terminal_count c.args.compiled.now.line.now in
    let horizon = c.args.compiled.now.line.now.horizon in
    let are_keys = of_terminals _ n horizon _ c.deref-2.result.now c.in_ok-keys.keys.items
    c.deref-2.ensures.value c.in_ok-tracks.ensures.keys c.args.compiled.now.of_line.terminals
    c.in_ok-keys.ensures in
    let are_trips = of_terminals _ n horizon _ c.deref-3.result.now c.in_ok-trips.trips.items
    c.deref-3.ensures.value c.in_ok-tracks.ensures.trips
    (c.args.compiled.now.of_line.laws.same ∙ c.args.compiled.now.of_line.terminals)
    c.in_ok-trips.ensures in
    let terminals = c.in_ok-keys.keys.items in
    record {
      keys = are_long (length terminals) n horizon _ c.in_ok-keys.keys.items (sym are_keys.count)
          are_keys;
      trips = are_long (length terminals) n horizon _ c.in_ok-trips.trips.items
          (sym are_keys.count) are_trips;
    }

keys_are : (c : goal.After-drop-spans-2)
    → AreWavesOf (terminal_count c.args.compiled.now.line.now) c.args.compiled.now.line.now.horizon
    (track_pairs c.in_ok-tracks.tracks.keys.items) c.in_ok-keys.keys.items
keys_are c =
    of_terminals _ (terminal_count c.args.compiled.now.line.now)
    c.args.compiled.now.line.now.horizon _ c.deref-2.result.now
    c.in_ok-keys.keys.items c.deref-2.ensures.value c.in_ok-tracks.ensures.keys
    c.args.compiled.now.of_line.terminals c.in_ok-keys.ensures

trips_are : (c : goal.After-drop-spans-2)
    → AreWavesOf (terminal_count c.args.compiled.now.line.now) c.args.compiled.now.line.now.horizon
    (track_pairs c.in_ok-tracks.tracks.trips.items) c.in_ok-trips.trips.items
trips_are c =
    of_terminals _ (terminal_count c.args.compiled.now.line.now)
    c.args.compiled.now.line.now.horizon _ c.deref-3.result.now
    c.in_ok-trips.trips.items c.deref-3.ensures.value c.in_ok-tracks.ensures.trips
    (c.args.compiled.now.of_line.laws.same ∙ c.args.compiled.now.of_line.terminals)
    c.in_ok-trips.ensures

is_history : (c : goal.After-drop-spans-2)
    → IsPairHistory c.args.compiled.now.line.now c.args.script.now
    (declared_box c.args.compiled.now.line.now)
    (pair_history c.new.result)
is_history c =
    let line = c.args.compiled.now.line.now in
    let script = c.args.script.now in
    let n : ℕ = terminal_count line in
    let h : PairHistory = tracks_history (λ x _. tern_rails x) 0
    c.in_ok-tracks.tracks.keys.items c.in_ok-tracks.tracks.trips.items in
    let spans : c.deref.result.now ≡ declared_spans line =
    c.deref.ensures.value ∙ c.in_ok-spans.ensures in
    let is_h : IsPairHistory line script (declared_box line) h =
    subst (λ (box : Box). IsPairHistory line script box h)
    (box_declared line c.deref.result.now spans 0)
    (c.in_ok-tracks.ensures.history 0 (omega arith)).is in
    subst (λ (w : PairWavesOf). IsPairHistory line script (declared_box line) (pair_history w))
    (sym c.new.ensures)
    (told_history c.trees_name_the_line.ensures c.values_rest_on_earlier_keys.ensures line script
    (declared_box line) (c.each_line_has_a_choice_inside.ensures.declared line) h
    c.in_ok-keys.keys.items c.in_ok-trips.trips.items (keys_are c) (trips_are c) is_h)

pub returns-clause-terminals : goal.returns-clause-terminals
returns-clause-terminals c =
    ap (λ (w : PairWavesOf). w.terminals) c.new.ensures ∙ (keys_are c).count

pub returns-clause-history : goal.returns-clause-history
returns-clause-history c = record {
  is = is_history c;
  only = λ others is_others.
      c.each_box_has_one_interval_history.ensures.only c.args.compiled.now.line.now
      c.args.script.now
      (declared_box c.args.compiled.now.line.now) (pair_history c.new.result) others
      (c.each_line_has_a_choice_inside.ensures.declared c.args.compiled.now.line.now) (is_history c)
      is_others;
}

pub returns-clause-covers : goal.returns-clause-covers
returns-clause-covers c = λ choice h inside is_h.
    c.a_wider_box_covers.ensures.choices c.args.compiled.now.line.now c.args.script.now
    (declared_box c.args.compiled.now.line.now) choice (pair_history c.new.result) h
    (c.each_line_has_a_choice_inside.ensures.declared c.args.compiled.now.line.now) inside
    (is_history c) is_h
