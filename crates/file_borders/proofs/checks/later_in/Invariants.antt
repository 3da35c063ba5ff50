use Rattle.std.proofs.Common.{◌≡◌, ◌≤◌, ◌+◌, drop}
use Rattle.file_borders.specs.Drawn.{later_in}
use Rattle.file_borders.proofs.checks.later_in.Given as goal

abbrev pub invariant-loop-shown : goal.invariant-loop-shown
invariant-loop-shown l = record {
  is : l.later + later_in (drop l.shown-index l.shows) ≡ later_in l.shows;
  few : l.later ≤ l.enough;
}
