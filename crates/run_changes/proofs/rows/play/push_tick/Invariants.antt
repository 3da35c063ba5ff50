use Rattle.std.proofs.Common.{◌≡◌, ◌+◌, ◌++◌, length}
use Rattle.model_history.specs.Each.{each_below}
use Rattle.model_line.specs.Parameters.{terminal_count}
use Rattle.run_changes.specs.{rows.PlayRows.terminal_rows, rows.StandingLaws.PairStands}
use Rattle.run_changes.specs.changes.PlayedTracks.{played}
use Rattle.run_step.specs.Ticks.{PartDone}
use Rattle.run_changes.proofs.rows.play.push_tick.Given as goal

abbrev pub invariant-loop-k : goal.invariant-loop-k
invariant-loop-k l =
    let keys = l.tracks.keys.items in
    let trips = l.tracks.trips.items in
    record {
      rows : l.text.items
          ≡ l.initial.text.items
          ++ each_below l.k (terminal_rows l.names.timing l.names.script l.line (played keys trips)
          l.t);
      count : length l.pairs.items ≡ terminal_count l.line;
      stand : PartDone (PairStands (l.t + 1) keys trips) (PairStands l.t keys trips) l.k
          l.pairs.items;
    }
