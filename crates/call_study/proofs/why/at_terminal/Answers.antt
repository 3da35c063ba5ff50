use Rattle.std.proofs.Common.{refl}
use Rattle.std.specs.Option.{option_copied}
use Rattle.call_study.proofs.Shown.{none_named, one_named}
use Rattle.call_work.specs.load.Few.{number_of_terminal}
use Rattle.call_study.proofs.why.at_terminal.Goals as goal

pub returns-in_default : goal.returns-in_default
returns-in_default c =
    none_named _ _ _ (number_of_terminal c.args.compiled.now.line.now (option_copied c.args.ask.now.terminal))
    c.in_default.ensures (_, c.in_ok-why.ensures, (refl, refl))

pub returns : goal.returns
returns c =
    one_named _ _ _ (number_of_terminal c.args.compiled.now.line.now (option_copied c.args.ask.now.terminal))
    c.in-Some.terminal c.in-Some.ensures c.in_ok-said.ensures
