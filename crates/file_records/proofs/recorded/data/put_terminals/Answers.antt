use Rattle.std.proofs.Common.{◌≡◌, ◌++◌, ℕ, Bool, List, Some, sym, ◌∙◌, ap, arith}
use Rattle.std.proofs.lemmas.Option.{slice_get_read}
use Rattle.std.specs.Prelude.{slice_get}
use Rattle.model_history.specs.EachLaws.{list_more}
use Rattle.model_line.specs.Parameters.{terminal_count}
use Rattle.run_changes.specs.changes.PlayedTracks.{is_on, is_shown, shown_is, played}
use Rattle.file_records.specs.recorded.Data.{all_seen, level_field, terminal_fields}
use Rattle.file_records.proofs.recorded_lemmas.TrackLevels.{all_ticks}
use Rattle.file_records.proofs.recorded.data.put_terminals.Goals as goal

pub put_terminal-requires-clause-key : goal.put_terminal-requires-clause-key
put_terminal-requires-clause-key c =
    all_ticks (terminal_count c.args.line.now) c.args.line.now.horizon c.args.t
    c.args.tracks.now.keys.items c.requires.keys c.requires.tick
    c.loop-k.k c.index.result.now
    (slice_get_read c.args.tracks.now.keys.items (terminal_count c.args.line.now) c.loop-k.k
    c.index.result.now (sym c.requires.keys.count) (omega arith) c.index.ensures)

pub put_terminal-requires-clause-trip : goal.put_terminal-requires-clause-trip
put_terminal-requires-clause-trip c =
    all_ticks (terminal_count c.args.line.now) c.args.line.now.horizon c.args.t
    c.args.tracks.now.trips.items c.requires.trips c.requires.tick
    c.loop-k.k c.index-in-loop-k.result.now
    (slice_get_read c.args.tracks.now.trips.items (terminal_count c.args.line.now) c.loop-k.k
    c.index-in-loop-k.result.now (sym c.requires.trips.count) (omega arith)
    c.index-in-loop-k.ensures)

pub loop-k-preserved : goal.loop-k-preserved
loop-k-preserved c =
    let keys = c.args.tracks.now.keys.items in
    let trips = c.args.tracks.now.trips.items in
    let k = c.loop-k.k in
    let t = c.args.t in
    let fields = terminal_fields c.args.script.now (played keys trips) t in
    let before : List ℕ = c.loop-k.text.items in
    let shown : List ℕ = all_seen c.args.script.now t k in
    let key_at : slice_get keys k ≡ Some c.index.result.now =
    slice_get_read c.args.tracks.now.keys.items (terminal_count c.args.line.now) c.loop-k.k
    c.index.result.now (sym c.requires.keys.count) (omega arith) c.index.ensures in
    let trip_at : slice_get trips k ≡ Some c.index-in-loop-k.result.now =
    slice_get_read c.args.tracks.now.trips.items (terminal_count c.args.line.now) c.loop-k.k
    c.index-in-loop-k.result.now (sym c.requires.trips.count) (omega arith)
    c.index-in-loop-k.ensures in
    list_more c.args.text.now.items before c.put_terminal.new.text.items fields k
    c.loop-k.invariant
    (c.in_ok-put_terminal.ensures
    ∙ ap (λ (u : ℕ → Bool). before ++ ((shown ++ level_field (u t))
    ++ level_field (is_on c.index-in-loop-k.result.now t)))
    (sym (shown_is keys k c.index.result.now key_at))
    ∙ ap (λ (u : ℕ → Bool). before ++ ((shown ++ level_field (is_shown keys k t)) ++ level_field (u t)))
    (sym (shown_is trips k c.index-in-loop-k.result.now trip_at)))
