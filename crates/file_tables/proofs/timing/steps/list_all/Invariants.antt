use Rattle.std.proofs.Common.{◌≡◌, ◌++◌, drop}
use Rattle.file_tables.specs.timing.Table.{listed}
use Rattle.file_tables.proofs.timing.steps.list_all.Given as goal

-- the steps so far, and those of the places that are left
abbrev pub invariant-loop-place : goal.invariant-loop-place
invariant-loop-place l = l.steps.items ++ listed l.place (drop l.place l.table) ≡ listed 0 l.table
