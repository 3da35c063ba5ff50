use Rattle.std.proofs.Common.{[], arith, refl}
use Rattle.std.proofs.lemmas.List.Elements.{All-cons, All-nil}
use Rattle.std.specs.Option.{option_copied}
use Rattle.call_work.specs.load.Chosen.{chosen_script}
use Rattle.call_study.proofs.Reading.{none_placed, one_placed, placed_at}
use Rattle.model_history.specs.ListLaws.{all_at}
use Rattle.model_line.specs.Fits.{Fits}
use Rattle.call_study.proofs.read.timings_of.Goals as goal

pub returns-in_default : goal.returns-in_default
returns-in_default c =
    let scripts = c.args.study.scripts.items in
    none_placed scripts (chosen_script scripts (option_copied c.args.script)) _ _ _
    (rw c.as_slice.ensures.value at c.in_default.ensures.is)
    (_, rw c.as_slice-in_default.ensures.value at c.in_ok-why.ensures, (refl, refl))

pub failing_said-requires-clause-study : goal.failing_said-requires-clause-study
failing_said-requires-clause-study c =
    let scripts = c.args.study.scripts.items in
    let here = rw c.as_slice.ensures.value at c.in-Some.ensures in
    let (script, at) = placed_at scripts c.in-Some.i here.exists in
    let line = c.args.study.line in
    let only = c.in_ok-study.ensures.script script at in
    record {
      fit = rw (only, c.in_ok-study.ensures.line)
          (All-cons (Fits line) script []
          (all_at (Fits line) scripts c.in-Some.i script c.requires at)
          (All-nil (Fits line)));
      few = rw only (omega arith);
    }

pub failing_said-requires-clause-one : goal.failing_said-requires-clause-one
failing_said-requires-clause-one c =
    let scripts = c.args.study.scripts.items in
    let here = rw c.as_slice.ensures.value at c.in-Some.ensures in
    let (script, at) = placed_at scripts c.in-Some.i here.exists in
    rw (c.in_ok-study.ensures.script script at) refl

pub returns : goal.returns
returns c =
    let study = c.args.study in
    let here = rw c.as_slice.ensures.value at c.in-Some.ensures in
    let (script, at) = placed_at study.scripts.items c.in-Some.i here.exists in
    one_placed study.scripts.items
    (chosen_script study.scripts.items (option_copied c.args.script)) _ _ _
    c.in-Some.i script here.is at
    (rw c.in_ok-study.ensures.line
    at (c.in_ok-said.ensures script (c.in_ok-study.ensures.script script at)))
