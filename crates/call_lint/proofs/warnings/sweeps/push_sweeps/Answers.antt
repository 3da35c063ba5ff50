use Rattle.std.proofs.Common.{[], sym, ◌∙◌}
use Rattle.std.proofs.lemmas.List.{drop_all, append-nil}
use Rattle.call_lint.specs.warnings.SweepTests.{sweep_warnings}
use Rattle.call_lint.proofs.warnings_lemmas.Sweeps.{fault_more}
use Rattle.call_lint.proofs.warnings.sweeps.push_sweeps.Goals as goal

pub loop-i-preserved : goal.loop-i-preserved
loop-i-preserved c =
    fault_more _ c.args.faults.now c.index-faults-i.result _ _ _ c.loop-i-test.true
    c.loop-i.invariant (rw (← c.index-faults-i.is) c.in_ok-push_fault.ensures)

pub returns : goal.returns
unfolding sweep_warnings
returns c =
    let none = drop_all c.loop-i.i c.args.faults.now c.loop-i-test.false in
    sym (append-nil c.loop-i.list.items) ∙ (rw none at c.loop-i.invariant)
