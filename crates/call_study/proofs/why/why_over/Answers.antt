use Rattle.std.proofs.Common.{refl}
use Rattle.std.specs.List.{All}
use Rattle.std.specs.Option.{option_copied}
use Rattle.model_line.specs.Fits.{Fits}
use Rattle.call_study.specs.Answers.{answer_by}
use Rattle.call_work.specs.load.Few.{scripts_of_fault}
use Rattle.call_work.specs.load.Loaded.{studied}
use Rattle.call_work.specs.load.Reading.{why_among, why_in}
use Rattle.call_study.proofs.FewLaws.{fault_fit}
use Rattle.call_study.proofs.Reading.{gives_wider}
use Rattle.call_study.proofs.Shown.{none_named, of_some, one_named}
use Rattle.call_study.proofs.why.why_over.Goals as goal

pub returns-in_default : goal.returns-in_default
returns-in_default c =
    let loaded = c.args.loaded.now in
    none_named _ _ _ (scripts_of_fault loaded.groups.items loaded.study.scripts.items
    (option_copied c.args.ask.now.fault))
    (rw (c.as_slice-groups.ensures.value, c.as_slice.ensures.value) at c.in_default.ensures)
    (_, rw c.as_slice-groups.ensures.value at c.in_ok-why.ensures, (refl, refl))

pub among-requires : goal.among-requires
among-requires c =
    let loaded = c.args.loaded.now in
    let fault = option_copied c.args.ask.now.fault in
    of_some (All (Fits loaded.study.line))
    (scripts_of_fault loaded.groups.items loaded.study.scripts.items fault) c.in-Some.own.now
    (rw (c.as_slice-groups.ensures.value, c.as_slice.ensures.value) at c.in-Some.ensures)
    (fault_fit (Fits loaded.study.line) loaded.groups.items loaded.study.scripts.items fault
    c.requires.fit)

pub returns : goal.returns
returns c =
    let loaded = c.args.loaded.now in
    let line = loaded.study.line in
    let fault = option_copied c.args.ask.now.fault in
    let form = c.args.ask.now.form in
    let script = option_copied c.args.script in
    let terminal = option_copied c.args.ask.now.terminal in
    gives_wider
    (answer_by (why_among form line c.in-Some.own.now script terminal))
    (answer_by (why_in form (studied loaded) fault script terminal))
    c.among.result
    (λ end text said. one_named _ _ _
    (scripts_of_fault loaded.groups.items loaded.study.scripts.items fault) c.in-Some.own.now
    (rw (c.as_slice-groups.ensures.value, c.as_slice.ensures.value) at c.in-Some.ensures)
    said)
    c.among.ensures
