use Rattle.std.proofs.Common.{◌≡◌, ◌≤◌, ◌++◌}
use Rattle.model_history.specs.Each.{each_below}
use Rattle.call_shots.specs.Changes.{count_begun}
use Rattle.call_shots.specs.States.{state_at}
use Rattle.call_shots.proofs.states.push_terminal.Given as goal

abbrev pub invariant-loop-t : goal.invariant-loop-t
invariant-loop-t l = record {
  text : l.text.items
      ≡ l.initial.text.items
      ++ each_below l.t (λ t. state_at l.line l.script l.shot l.terminal t);
  begun : l.begun ≡ count_begun l.line l.script l.terminal l.t;
  few : l.begun ≤ l.t;
}
