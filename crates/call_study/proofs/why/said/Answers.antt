use Rattle.std.proofs.Common.{◌∙◌, ℕ, List, refl, subst}
use Rattle.std.proofs.lemmas.Option.{get_or_from_slice_get}
use Rattle.std.proofs.lemmas.Result.{IfOk-weaker}
use Rattle.model_line.specs.declared.script.Script.{Script}
use Rattle.model_timing.specs.NamedValues.{values_of}
use Rattle.call_answer.specs.declared.done.Done.TheVariants.{SomeNo}
use Rattle.call_why.specs.Why.{IsFound}
use Rattle.call_why.specs.declared.why.Found.TheVariants.{Told, Quiet}
use Rattle.call_study.specs.Reasons.{IsShown}
use Rattle.call_study.proofs.Shown.{why_by}
use Rattle.call_study.proofs.why.said.Goals as goal

pub returns-in-Quiet : goal.returns-in-Quiet
returns-in-Quiet c =
    let line = c.args.compiled.now.line.now in
    let scripts = c.args.scripts.now in
    IfOk-weaker c.none_said.result _ _
    (λ said so. why_by c.args.ask.now.form line scripts said.status said.text.items
    (Quiet c.in-Quiet.unsettled) so c.args.terminal
    (subst (IsFound line scripts c.args.terminal) c.in-Quiet.is c.in_ok-unsettled.ensures.found))
    c.none_said.ensures

pub returns-in_ok-text-in-Told : goal.returns-in_ok-text-in-Told
returns-in_ok-text-in-Told c =
    let line = c.args.compiled.now.line.now in
    let scripts : List Script = c.args.scripts.now in
    let form = c.args.ask.now.form in
    let reason = c.in-Told.reason in
    let text : List ℕ = c.in_ok-text-in-Told.text.items in
    let shown : Script = c.index-scripts-script.result in
    why_by form line scripts SomeNo text (Told c.in-Told.script reason)
    (λ script at. (
      refl,
      subst (λ (s : Script). IsShown form line s (values_of reason.named) reason.text.items text)
          (c.index-scripts-script.is ∙ get_or_from_slice_get scripts c.in-Told.script script shown at)
          c.in_ok-text-in-Told.ensures,
    ))
    c.args.terminal
    (subst (IsFound line scripts c.args.terminal) c.in-Told.is c.in_ok-unsettled.ensures.found)
