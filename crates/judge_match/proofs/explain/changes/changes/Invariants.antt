use Rattle.std.proofs.Common.{◌≡◌}
use Rattle.judge_match.specs.{explain.Changes.changes as changes_of, explain.Asked.level_in}
use Rattle.judge_match.proofs.explain.changes.changes.Given as goal

abbrev pub invariant-loop-t : goal.invariant-loop-t
invariant-loop-t l = l.ticks.items ≡ changes_of (level_in l.levels) l.t
