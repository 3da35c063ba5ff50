use Rattle.std.proofs.Common.{◌≡◌, take}
use Rattle.call_work.specs.explain.Table.{changes_text}
use Rattle.call_work.proofs.explain.fields.changes_text.Given as goal

abbrev pub invariant-loop-row : goal.invariant-loop-row
invariant-loop-row l = l.text.items ≡ changes_text l.line (take l.row-index l.rows)
