use Rattle.std.proofs.Common.{◌≡◌, ◌==◌, false}
use Rattle.model_history.specs.Elements.{some_below}
use Rattle.model_line.specs.Parameters.{delay_param}
use Rattle.model_line.proofs.line.Line.is_delay.Given as goal

abbrev pub invariant-loop-channel : goal.invariant-loop-channel
invariant-loop-channel l =
    some_below (λ c. delay_param l.self c == l.param) l.channel ≡ false
