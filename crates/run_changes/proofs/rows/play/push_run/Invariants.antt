use Rattle.std.proofs.Common.{◌≡◌, ◌-◌, ◌≤◌, ◌++◌}
use Rattle.model_history.specs.Each.{each_below}
use Rattle.model_line.specs.Parameters.{terminal_count}
use Rattle.run_changes.specs.{rows.PlayRows.tick_rows, rows.StandingLaws.AllStand}
use Rattle.run_changes.specs.changes.PlayedTracks.{played}
use Rattle.run_changes.proofs.rows.play.push_run.Given as goal

abbrev pub invariant-changes : goal.invariant-changes
invariant-changes l =
    let keys = l.tracks.keys.items in
    let trips = l.tracks.trips.items in
    record {
      inside : l.t ≤ l.line.horizon;
      rows : l.text.items
          ≡ l.initial.text.items
          ++ each_below l.t (tick_rows l.names.timing l.names.script l.line (played keys trips));
      stand : AllStand (terminal_count l.line) l.t keys trips l.pairs.items;
    }

abbrev pub decreases-changes : goal.decreases-changes
decreases-changes l = l.line.horizon - l.t
