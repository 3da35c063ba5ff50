use Rattle.std.proofs.Common.{◌≡◌, map}
use Rattle.model_line.specs.NamesByNumber.{parameter_name}
use Rattle.call_facts.specs.{Told.is_at_least, Lists.those_below}
use Rattle.call_facts.proofs.told.least_times.Given as goal

abbrev pub invariant-loop-i : goal.invariant-loop-i
invariant-loop-i l =
    map (λ name. name.items) l.names.items
    ≡ map (parameter_name l.line) (those_below (is_at_least l.line l.timing) l.i)
