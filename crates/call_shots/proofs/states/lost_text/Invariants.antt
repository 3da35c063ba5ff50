use Rattle.std.proofs.Common.{◌≡◌}
use Rattle.call_shots.specs.States.{lost_words}
use Rattle.call_shots.proofs.states.lost_text.Given as goal

abbrev pub invariant-loop-c : goal.invariant-loop-c
invariant-loop-c l = l.text.items ≡ lost_words l.line l.script l.terminal l.t l.c
