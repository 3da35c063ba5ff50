use Rattle.std.proofs.Common.{◌++◌, List, sym, ap, subst, ◌∙◌}
use Rattle.model_history.specs.Rails.{Ends}
use Rattle.judge_times.specs.Answers.{AreAnswers, exact_of}
use Rattle.judge_times.specs.Stretches.{AreStretches}
use Rattle.judge_times.specs.declared.stretch.Stretch.{Stretch}
use Rattle.call_times.specs.Posed.{asked_of}
use Rattle.call_times.specs.Rows.{stretch_rows}
use Rattle.call_times.specs.Times.{found_in}
use Rattle.call_times.proofs.Told.{are_told}
use Rattle.call_times.proofs.Telling.{adds_stretches}
use Rattle.call_times.proofs.terminals.push_terminal.Goals as goal

pub returns : goal.returns
returns c =
    let whole : List Ends = c.args.fault.now.part.items in
    let all : List Stretch = c.in_ok-own.own.items in
    let stretches : AreStretches c.args.of.now whole c.args.k all =
    subst (λ (p : List Ends). AreStretches c.args.of.now p c.args.k all) c.as_slice.ensures.value
    (c.in_ok-own.ensures c.args.of.now
    (subst (λ (p : List Ends). AreAnswers c.args.of.now p c.args.parts.now) (sym c.as_slice.ensures.value)
    c.requires.answers)) in
    adds_stretches (exact_of c.args.of.now) c.args.fault.now c.args.k (asked_of c.args.of.now whole) all
    c.args.text.now.items c.push_stretches.new.text.items c.in_ok-found.found c.requires.same
    (are_told c.each_history_goes_on.ensures c.args.of.now whole c.requires.posed c.args.k c.requires.terminal all
    stretches)
    (c.in_ok-found.ensures.text
    ∙ ap (λ (l : List Stretch). c.args.text.now.items ++ stretch_rows (exact_of c.args.of.now) c.args.fault.now c.args.k l)
    c.as_slice-2.ensures.value)
    (c.in_ok-found.ensures.found ∙ ap found_in c.as_slice-2.ensures.value)
