use Rattle.std.proofs.Common.{arith, map}
use Rattle.std.proofs.lemmas.Result.{err_from_is_err_and}
use Rattle.file_study.specs.study.Faults.{fault_values}
use Rattle.file_study.proofs.sweeps_lemmas.StudyLaws.{fault_at, fault_more, next_fault, study_refused}
use Rattle.file_study.proofs.sweeps.study.scripts_of_study.Goals as goal

pub returns-in_err-push_fault-clause-refused : goal.returns-in_err-push_fault-clause-refused
returns-in_err-push_fault-clause-refused c =
    let told = err_from_is_err_and c.from_residual.result c.from_residual.ensures.1 in
    let faults = c.args.study.now.faults.items in
    let x = c.index.result.now in
    let at = fault_at faults c.loop-i.i x (omega (arith, c.loop-i-test.true, c.len-i-end.ensures))
    c.index.ensures in
    rw (told.1, told.2)
    (study_refused c.args.study.now.line (map fault_values faults) c.loop-i.i (fault_values x)
    c.loop-i.all.scripts.items c.loop-i.all.groups.items c.in_err-push_fault.field-0.0 at
    c.loop-i.invariant c.in_err-push_fault.ensures.refused)

pub loop-i-preserved : goal.loop-i-preserved
loop-i-preserved c =
    let faults = c.args.study.now.faults.items in
    let x = c.index.result.now in
    let more = fault_more faults c.loop-i.i x
    (omega (arith, c.loop-i-test.true, c.len-i-end.ensures)) c.index.ensures in
    next_fault c.args.study.now.line (map fault_values faults) c.loop-i.i (fault_values x)
    c.loop-i.all c.push_fault.new.all more c.loop-i.invariant c.in_ok-push_fault.ensures.pushed
