use Rattle.std.proofs.Common.{◌≡◌, ◌+◌, List, ℕ, None, length}
use Rattle.model_logic.specs.Choice.{Box}
use Rattle.base_text.specs.lines.Lines.{BeginsWith}
use Rattle.cert_settle.specs.Grammar.{Place}
use Rattle.cert_settle.specs.Reading.{AreSteps, AreRead, last_of}
use Rattle.cert_settle.proofs.read_timing.read_timing.Given as goal

-- the lines so far say these steps, and one line more was taken
abbrev pub invariant-steps : goal.invariant-steps
invariant-steps l = record {
  number : l.lines.number ≡ l.at + 1;
  steps : AreSteps l.line l.steps.items;
  fresh : last_of l.steps.items ≡ None → l.bytes ≡ l.first;
  read : (box : Box) (later : List Place) (text : List ℕ)
      → BeginsWith text l.first l.initial.lines.rest.now
      → AreRead l.line box later text l.number l.steps.items l.bytes l.lines.rest.now l.at;
}

abbrev pub decreases-steps : goal.decreases-steps
decreases-steps l = length l.lines.rest.now
