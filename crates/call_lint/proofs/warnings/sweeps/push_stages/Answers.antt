use Rattle.std.proofs.Common.{[], sym, ◌∙◌}
use Rattle.std.proofs.lemmas.List.{drop_all, append-nil}
use Rattle.call_lint.specs.warnings.SweepTests.{stage_sweeps}
use Rattle.call_lint.proofs.warnings_lemmas.Sweeps.{stage_more}
use Rattle.call_lint.proofs.warnings.sweeps.push_stages.Goals as goal

pub loop-s-preserved : goal.loop-s-preserved
loop-s-preserved c =
    stage_more _ _ c.args.stages.now c.index-stages-s.result _ _ _ c.loop-s-test.true
    c.loop-s.invariant (rw (← c.index-stages-s.is) c.in_ok-push_stage.ensures)

pub returns : goal.returns
unfolding stage_sweeps
returns c =
    let none = drop_all c.loop-s.s c.args.stages.now c.loop-s-test.false in
    sym (append-nil c.loop-s.list.items) ∙ (rw none at c.loop-s.invariant)
