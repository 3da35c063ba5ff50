use Rattle.std.proofs.Common.{◌≡◌, take}
use Rattle.judge_races.specs.Races.{columns_of, ends_at}
use Rattle.judge_races.proofs.columns.ends_at.Given as goal

abbrev pub invariant-loop-column : goal.invariant-loop-column
invariant-loop-column l = l.ends.items ≡ ends_at (columns_of (take l.column-index l.columns)) l.t l.lack
