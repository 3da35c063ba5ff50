use Rattle.std.proofs.Common.{◌≡◌, ◌++◌}
use Rattle.model_history.specs.Each.{each_below}
use Rattle.call_shots.specs.States.{state_at}
use Rattle.call_shots.proofs.states.push_script.Given as goal

abbrev pub invariant-loop-k : goal.invariant-loop-k
invariant-loop-k l =
    l.text.items
    ≡ l.initial.text.items
    ++ each_below l.k (λ k. each_below l.line.horizon (λ t. state_at l.line l.script l.shot k t))
