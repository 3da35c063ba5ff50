use Rattle.std.proofs.Common.{[], ◌≡◌, ◌<◌, ◌+◌, ℕ, Bool, List, Some, refl, sym, ◌∙◌, ap, subst}
use Rattle.std.proofs.lemmas.Option.{slice_get_read, slice_get-map, get_or_from_slice_get}
use Rattle.std.specs.Prelude.{slice_get, option_map, codes, get_or}
use Rattle.model_line.specs.declared.line.Terminal.{Terminal}
use Rattle.model_line.specs.Parameters.{terminal_count}
use Rattle.model_line.specs.NamesByNumber.{terminal_name}
use Rattle.run_signal.specs.declared.level.Level.{Level}
use Rattle.run_signal.specs.SentKeys.{SentKeys}
use Rattle.run_changes.specs.changes.PlayedTracks.{is_on, shown_is}
use Rattle.run_step.specs.Ticks.{AreSent}
use Rattle.run_changes.specs.{rows.PlayRows.signal_row, rows.RowLaws.two_texts_more, rows.StandingLaws.Stands}
use Rattle.run_changes.proofs.rows_lemmas.TrackRows.{long_enough}
use Rattle.run_changes.proofs.rows.play.push_terminal.Goals as goal

-- the track of a terminal
track_at : (n horizon k : ℕ) (tracks : List (SentKeys Level)) (track : SentKeys Level)
    → AreSent n horizon horizon tracks → k < n → track ≡ get_or tracks k track
    → slice_get tracks k ≡ Some track
track_at n horizon k tracks track are kn is = slice_get_read tracks n k track (sym are.count) kn is

pub push_signal-requires-clause-tick : goal.push_signal-requires-clause-tick
push_signal-requires-clause-tick c =
    let line = c.args.line.now in
    let keys = c.args.tracks.now.keys.items in
    let key = c.index-2.result.now in
    long_enough (terminal_count line) line.horizon c.args.k c.args.t keys key c.requires.keys
    (track_at (terminal_count line) line.horizon c.args.k keys key c.requires.keys
    c.requires.terminal c.index-2.ensures)
    c.requires.tick

pub push_signal-requires-clause-stands : goal.push_signal-requires-clause-stands
push_signal-requires-clause-stands c =
    let line = c.args.line.now in
    let keys = c.args.tracks.now.keys.items in
    let key = c.index-2.result.now in
    subst (λ (u : ℕ → Bool). Stands u c.args.t c.args.pair.now.key)
    (shown_is keys c.args.k key
    (track_at (terminal_count line) line.horizon c.args.k keys key c.requires.keys
    c.requires.terminal c.index-2.ensures))
    c.requires.stands.key

pub push_signal-requires-2-clause-tick : goal.push_signal-requires-2-clause-tick
push_signal-requires-2-clause-tick c =
    let line = c.args.line.now in
    let trips = c.args.tracks.now.trips.items in
    let trip = c.index-3.result.now in
    long_enough (terminal_count line) line.horizon c.args.k c.args.t trips trip c.requires.trips
    (track_at (terminal_count line) line.horizon c.args.k trips trip c.requires.trips
    c.requires.terminal c.index-3.ensures)
    c.requires.tick

pub push_signal-requires-2-clause-stands : goal.push_signal-requires-2-clause-stands
push_signal-requires-2-clause-stands c =
    let line = c.args.line.now in
    let trips = c.args.tracks.now.trips.items in
    let trip = c.index-3.result.now in
    subst (λ (u : ℕ → Bool). Stands u c.args.t c.args.pair.now.trip)
    (shown_is trips c.args.k trip
    (track_at (terminal_count line) line.horizon c.args.k trips trip c.requires.trips
    c.requires.terminal c.index-3.ensures))
    c.requires.stands.trip

pub returns-clause-rows : goal.returns-clause-rows
returns-clause-rows c =
    let line = c.args.line.now in
    let t = c.args.t in
    let k = c.args.k in
    let keys = c.args.tracks.now.keys.items in
    let trips = c.args.tracks.now.trips.items in
    let key = c.index-2.result.now in
    let trip = c.index-3.result.now in
    let timing = c.args.names.now.timing in
    let script = c.args.names.now.script in
    let terminal = c.index.result.now in
    let name : terminal_name line k ≡ terminal.name =
    get_or_from_slice_get _ k terminal.name []
    (slice_get-map (λ (x : Terminal). x.name) line.terminals.items k
    ∙ ap (option_map (λ (x : Terminal). x.name))
    (slice_get_read line.terminals.items _ k terminal refl c.requires.terminal c.index.ensures)) in
    let row : List ℕ → (ℕ → Bool) → List ℕ → List ℕ =
    λ signal u terminal. signal_row timing script t terminal signal u in
    two_texts_more c.args.text.now.items c.push_signal.new.text.items
    c.push_signal-2.new.text.items
    (row (codes "key") (is_on key) terminal.name) (row (codes "trip") (is_on trip) terminal.name)
    _ _ c.in_ok-push_signal.ensures.row c.in_ok-push_signal-2.ensures.row
    (ap (row (codes "key") (is_on key)) (sym name)
    ∙ ap (λ (u : ℕ → Bool). row (codes "key") u (terminal_name line k))
    (sym (shown_is keys k key
    (track_at (terminal_count line) line.horizon k keys key c.requires.keys c.requires.terminal
    c.index-2.ensures))))
    (ap (row (codes "trip") (is_on trip)) (sym name)
    ∙ ap (λ (u : ℕ → Bool). row (codes "trip") u (terminal_name line k))
    (sym (shown_is trips k trip
    (track_at (terminal_count line) line.horizon k trips trip c.requires.trips c.requires.terminal
    c.index-3.ensures))))

pub returns-clause-stands : goal.returns-clause-stands
returns-clause-stands c =
    let line = c.args.line.now in
    let t = c.args.t in
    let k = c.args.k in
    let keys = c.args.tracks.now.keys.items in
    let trips = c.args.tracks.now.trips.items in
    let key = c.index-2.result.now in
    let trip = c.index-3.result.now in
    record {
      key = subst (λ (u : ℕ → Bool). Stands u (t + 1) c.push_signal.new.standing)
          (sym (shown_is keys k key
          (track_at (terminal_count line) line.horizon k keys key c.requires.keys
          c.requires.terminal c.index-2.ensures)))
          c.in_ok-push_signal.ensures.stands;
      trip = subst (λ (u : ℕ → Bool). Stands u (t + 1) c.push_signal-2.new.standing)
          (sym (shown_is trips k trip
          (track_at (terminal_count line) line.horizon k trips trip c.requires.trips
          c.requires.terminal c.index-3.ensures)))
          c.in_ok-push_signal-2.ensures.stands;
    }
