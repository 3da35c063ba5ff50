use Rattle.run_changes.specs.changes.PlayedTracks.{is_on}
use Rattle.judge_match.specs.explain.Asked.{AreLevels}
use Rattle.judge_match.proofs.explain.changes.track_levels.Given as goal

abbrev pub invariant-loop-t : goal.invariant-loop-t
invariant-loop-t l = AreLevels l.t (is_on l.track) l.levels.items
