use Rattle.std.proofs.Common.{◌∷◌, [], map, sym, ◌∙◌}
use Rattle.std.proofs.lemmas.Result.{err_from_is_err_and}
use Rattle.std.proofs.lemmas.List.{drop_all, map-append}
use Rattle.base_memory.specs.CheckLaws.{fails_ends}
use Rattle.file_line.specs.Lines.{line_values}
use Rattle.file_study.specs.study.Faults.{fault_values, faults_in}
use Rattle.file_study.proofs.{study_lemmas.Steps.faults_more, study_lemmas.NewNames.names_same}
use Rattle.file_study.proofs.study.faults.faults_in.Goals as goal

pub returns-in_err-fault : goal.returns-in_err-fault
returns-in_err-fault c =
    let told = err_from_is_err_and c.from_residual.result c.from_residual.ensures.1 in
    let more = faults_more c.args.loose c.args.units (line_values c.args.line.now) c.args.path
    c.loop-i.i c.args.items.now c.index-items-i.result
    (map fault_values c.loop-i.faults.items) c.loop-i-test.true in
    let named = rw (names_same c.loop-i.faults.items) at more in
    let here = rw (← c.index-items-i.is, ← c.item.ensures) at named in
    rw (told.1, told.2)
    (fails_ends c.in_err-fault.field-0.0 _ _ _
    (rw c.deref.ensures.value at c.in_err-fault.ensures)
    (here ∙ c.loop-i.invariant))

pub loop-i-preserved : goal.loop-i-preserved
loop-i-preserved c =
    let more = faults_more c.args.loose c.args.units (line_values c.args.line.now) c.args.path
    c.loop-i.i c.args.items.now c.index-items-i.result
    (map fault_values c.loop-i.faults.items) c.loop-i-test.true in
    let named = rw (names_same c.loop-i.faults.items) at more in
    let here = rw (← c.index-items-i.is, ← c.item.ensures) at named in
    let read = rw c.deref.ensures.value at c.in_ok-fault.ensures in
    let next = rw read at here in
    rw (
      c.in_ok-push.ensures.items,
      map-append fault_values c.loop-i.faults.items (c.in_ok-fault.fault ∷ []),
    )
    (next ∙ c.loop-i.invariant)

pub returns : goal.returns
unfolding faults_in
returns c =
    let none = drop_all c.loop-i.i c.args.items.now c.loop-i-test.false in
    sym (rw none at c.loop-i.invariant)
