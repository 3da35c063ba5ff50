use Rattle.std.proofs.Common.{refl}
use Rattle.std.specs.List.{All}
use Rattle.std.specs.Option.{option_copied}
use Rattle.model_line.specs.Fits.{Fits}
use Rattle.call_study.specs.Answers.{answer_by}
use Rattle.call_work.specs.load.Few.{script_alone}
use Rattle.call_work.specs.load.Reading.{why_among, why_at}
use Rattle.call_study.proofs.FewLaws.{alone_fit}
use Rattle.call_study.proofs.Reading.{gives_wider}
use Rattle.call_study.proofs.Shown.{none_named, of_some, one_named}
use Rattle.call_study.proofs.why.among.Goals as goal

pub returns-in_default : goal.returns-in_default
returns-in_default c =
    none_named _ _ _ (script_alone c.args.scripts.now (option_copied c.args.script))
    c.in_default.ensures (_, c.in_ok-why.ensures, (refl, refl))

pub at_terminal-requires : goal.at_terminal-requires
at_terminal-requires c =
    let line = c.args.compiled.now.line.now in
    let scripts = c.args.scripts.now in
    let name = option_copied c.args.script in
    of_some (All (Fits line)) (script_alone scripts name) c.in-Some.few.now c.in-Some.ensures
    (alone_fit (Fits line) scripts name c.requires)

pub returns : goal.returns
returns c =
    let line = c.args.compiled.now.line.now in
    let scripts = c.args.scripts.now in
    let name = option_copied c.args.script in
    let form = c.args.ask.now.form in
    let terminal = option_copied c.args.ask.now.terminal in
    gives_wider
    (answer_by (why_at form line c.in-Some.few.now terminal))
    (answer_by (why_among form line scripts name terminal))
    c.at_terminal.result
    (λ end text said. one_named _ _ _ (script_alone scripts name) c.in-Some.few.now c.in-Some.ensures
    said)
    c.at_terminal.ensures
