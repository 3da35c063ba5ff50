use Rattle.std.proofs.Common.{refl}
use Rattle.std.proofs.lemmas.Result.{err_from_is_err_and}
use Rattle.file_study.specs.study.Studies.{study_in}
use Rattle.file_study.proofs.study.read.read_table.Goals as goal

pub returns-in_err-only : goal.returns-in_err-only
unfolding study_in
returns-in_err-only c =
    let told = err_from_is_err_and c.from_residual-in_err-only.result
    c.from_residual-in_err-only.ensures.1 in
    let number = rw c.root.ensures at c.in_ok-number.ensures.value in
    let only = rw c.root-2.ensures at c.in_err-only.ensures in
    rw (told.1, told.2) (rw (← number, ← only) refl)

pub returns-in_err-title : goal.returns-in_err-title
unfolding study_in
returns-in_err-title c =
    let told = err_from_is_err_and c.from_residual-in_err-title.result
    c.from_residual-in_err-title.ensures.1 in
    let number = rw c.root.ensures at c.in_ok-number.ensures.value in
    let only = rw c.root-2.ensures at c.in_ok-only.ensures in
    let text = rw c.root-3.ensures at c.in_err-title.ensures in
    rw (told.1, told.2) (rw (← number, ← only, ← text) refl)

pub returns-in_err-units : goal.returns-in_err-units
unfolding study_in
returns-in_err-units c =
    let told = err_from_is_err_and c.from_residual-in_err-units.result
    c.from_residual-in_err-units.ensures.1 in
    let number = rw c.root.ensures at c.in_ok-number.ensures.value in
    let only = rw c.root-2.ensures at c.in_ok-only.ensures in
    let text = rw c.root-3.ensures at c.in_ok-title.ensures in
    rw (told.1, told.2) (rw (← number, ← only, ← text, ← c.in_err-units.ensures.units) refl)

pub returns : goal.returns
unfolding study_in
returns c =
    let number = rw c.root.ensures at c.in_ok-number.ensures.value in
    let only = rw c.root-2.ensures at c.in_ok-only.ensures in
    let text = rw c.root-3.ensures at c.in_ok-title.ensures in
    rw (← number, ← only, ← text, ← c.in_ok-units.ensures.units) c.study_with.ensures
