use Rattle.std.proofs.Common.{◌≡◌, ◌∙◌, subst, arith}
use Rattle.std.specs.Prelude.{Result, Ok, Err, IfOk}
use Rattle.run_signal.specs.{Terns.tern_rails}
use Rattle.model_logic.specs.Choice.{Box}
use Rattle.run_step.specs.Runs.{HavePairs, IsTheHistory}
use Rattle.run_step.specs.WavesOf.{waves_history}
use Rattle.judge_verdict.specs.verdict.Spans.{declared_spans}
use Rattle.judge_verdict.specs.verdict.DeclaredLaws.{box_declared, spans_delayed}
use Rattle.draw_run.proofs.diagram.every_choice.every_choice_waves.Goals as goal

more : {T E : Type 0} (r : Result T E) (P Q : T → Type 0) → ((x : T) → P x → Q x) → IfOk r P
    → IfOk r Q
more (Ok x) P Q f h = f x h
more (Err e) P Q f h = h

pub run-requires-clause-delayed : goal.run-requires-clause-delayed
run-requires-clause-delayed c =
    spans_delayed c.args.compiled.now.line.now c.deref.result.now
    (c.deref.ensures.value ∙ c.in_ok-spans.ensures)
    (c.each_line_has_a_choice_inside.ensures.declared c.args.compiled.now.line.now)

pub returns-clause-history : goal.returns-clause-history
returns-clause-history c =
    let line = c.args.compiled.now.line.now in
    let script = c.args.script.now in
    let spans : c.deref.result.now ≡ declared_spans line =
    c.deref.ensures.value ∙ c.in_ok-spans.ensures in
    more c.run.result _ _
    (λ waves all. subst (λ (box : Box).
    IsTheHistory line script box (waves_history (λ x _. tern_rails x) 0 waves))
    (box_declared line c.deref.result.now spans 0) (all 0 (omega arith)))
    c.run.ensures.history

pub returns-clause-gates : goal.returns-clause-gates
returns-clause-gates c =
    let line = c.args.compiled.now.line.now in
    let script = c.args.script.now in
    let net = c.args.compiled.now.net.now in
    let spans : c.deref.result.now ≡ declared_spans line =
    c.deref.ensures.value ∙ c.in_ok-spans.ensures in
    more c.run.result _ _
    (λ waves all. subst (λ (box : Box).
    HavePairs (λ x _. tern_rails x) 0 line script box net waves)
    (box_declared line c.deref.result.now spans 0) (all 0 (omega arith)))
    c.run.ensures.pairs
