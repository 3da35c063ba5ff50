use Rattle.std.proofs.Common.{◌≡◌}
use Rattle.std.specs.List.{flat_map, range_with_len}
use Rattle.run_changes.specs.changes.PlayedTracks.{played}
use Rattle.judge_match.specs.{explain.Answers.paired_terminal, explain.Asked.recorded_of}
use Rattle.judge_match.proofs.explain.play.rows.Given as goal

abbrev pub invariant-loop-k : goal.invariant-loop-k
invariant-loop-k l =
    l.rows.items
    ≡ flat_map (paired_terminal l.q.compiled.line.now (recorded_of l.q)
    (played l.tracks.keys.items l.tracks.trips.items)) (range_with_len 0 l.k)
