use Rattle.std.proofs.Common.{◌≡◌, ◌++◌, take}
use Rattle.std.specs.Prelude.{map}
use Rattle.model_line.specs.ParamNames.{dotted}
use Rattle.model_line.proofs.param_names.push_names.Given as goal

abbrev pub invariant-loop-setting : goal.invariant-loop-setting
invariant-loop-setting l =
    l.names.items ≡ l.initial.names.items ++ map (dotted l.owner) (take l.setting-index l.settings)
