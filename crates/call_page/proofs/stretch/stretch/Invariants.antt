use Rattle.std.proofs.Common.{ℕ, ◌≤◌, ◌<◌, ◌+◌}
use Rattle.std.specs.Prelude.{IsTrue}
use Rattle.call_page.specs.Choices.{goes_on}
use Rattle.call_page.proofs.stretch.stretch.Given as goal

abbrev pub invariant-loop-count : goal.invariant-loop-count
invariant-loop-count l =
    (j : ℕ) → 1 ≤ j → j < l.count
    → IsTrue (goes_on l.known.study.now.line l.parts l.known.rows.now (l.script + j) l.terminal)
