use Rattle.std.proofs.Common.{List, sym, subst}
use Rattle.std.proofs.lemmas.Option.{get_or_from_slice_get}
use Rattle.model_line.specs.{declared.line.Line.Line, declared.script.Script.Script}
use Rattle.model_logic.specs.Choice.{declared_box}
use Rattle.run_step.specs.Runs.{IsTheHistory}
use Rattle.judge_verdict.specs.verdict.PairWavesOf.{pair_history}
use Rattle.judge_settle.specs.declared.settle.answer.Settled.{Settled}
use Rattle.judge_settle.specs.settle.Answers.{AreAnswers}
use Rattle.call_verdicts.proofs.finding.push_script.Goals as goal

pub push_settled-requires-clause-history : goal.push_settled-requires-clause-history
push_settled-requires-clause-history c =
    let line : Line = c.args.cases.now.compiled.line.now in
    let scripts : List Script = c.args.cases.now.scripts.now in
    λ script at.
    subst (λ (s : Script).
    IsTheHistory line s (declared_box line) (pair_history c.in_ok-waves.waves))
    (get_or_from_slice_get scripts c.args.i script c.index-cases-i.result at)
    c.in_ok-waves.ensures.history

pub push_settled-requires-clause-settled : goal.push_settled-requires-clause-settled
push_settled-requires-clause-settled c =
    let line : Line = c.args.cases.now.compiled.line.now in
    let scripts : List Script = c.args.cases.now.scripts.now in
    λ script at.
    subst (λ (answers : List Settled). AreAnswers line script answers) (sym c.deref.ensures.value)
    (subst (λ (s : Script). AreAnswers line s c.in_ok-settled.settled.items)
    (get_or_from_slice_get scripts c.args.i script c.index-cases-i.result at)
    c.in_ok-settled.ensures)
