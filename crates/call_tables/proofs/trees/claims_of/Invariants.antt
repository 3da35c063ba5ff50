use Rattle.std.proofs.Common.{◌≡◌, map, take}
use Rattle.cert_settle.specs.Reading.{result_in}
use Rattle.call_tables.specs.Written.{results_of}
use Rattle.call_tables.proofs.trees.claims_of.Given as goal

abbrev pub invariant-loop-row : goal.invariant-loop-row
invariant-loop-row l = map result_in l.claims.items ≡ results_of (take l.row-index l.rows)
