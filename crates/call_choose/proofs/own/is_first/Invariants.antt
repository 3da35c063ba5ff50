use Rattle.std.proofs.Common.{◌≡◌}
use Rattle.std.specs.Str.{bytes_eq}
use Rattle.model_history.specs.Elements.{some_below}
use Rattle.model_line.specs.NamesByNumber.{parameter_name}
use Rattle.file_study.specs.times.Names.{setting_in}
use Rattle.call_choose.proofs.own.is_first.Given as goal

abbrev pub invariant-loop-j : goal.invariant-loop-j
invariant-loop-j l =
    l.found
    ≡ some_below (λ j. bytes_eq (setting_in (parameter_name l.line j))
    (setting_in (parameter_name l.line l.fn.i))) l.j
