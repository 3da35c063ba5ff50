use Rattle.std.proofs.Common.{◌≡◌, take}
use Rattle.judge_races.specs.Races.{columns_of, begins_at}
use Rattle.judge_races.proofs.columns.begins_at.Given as goal

abbrev pub invariant-loop-column : goal.invariant-loop-column
invariant-loop-column l = l.begins.items ≡ begins_at (columns_of (take l.column-index l.columns)) l.t
