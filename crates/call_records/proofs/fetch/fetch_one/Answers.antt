use Rattle.std.proofs.Common.{◌≡◌, ℕ, List, None, ◌∙◌, ap, subst}
use Rattle.call_records.specs.Beside.{beside}
use Rattle.call_records.specs.Course.{data_file}
use Rattle.call_records.specs.{Files.Runs, Parts.files_with, Parts.named}
use Rattle.call_records.proofs.Running.{runs_next}
use Rattle.call_records.proofs.fetch.fetch_one.Goals as goal

pub returns-clause-course : goal.returns-clause-course
returns-clause-course g c = λ next now r run.
    let held = g.S.Store.held c.args.store.now in
    let faults = g.S.Store.faults in
    let c1 = faults c.args.store.now in
    let c2 = faults c.fetch_beside.new.store in
    let own : List ℕ = c.args.recorder.now.config.items in
    let name : List ℕ = beside c.args.map_name.now own in
    let bytes : List ℕ = c.in_ok-config.config.bytes.items in
    let one = rw c.as_slice.ensures.value at c.in_ok-config.ensures.file in
    let is_name : c.in_ok-config.config.name.items ≡ name =
    c.in_ok-config.ensures.named ∙ ap (beside c.args.map_name.now) c.as_slice.ensures.value in
    runs_next held (data_file name) (λ b. next (files_with (named name b) None)) bytes one.1 one.2 r
    c1 c2 now one.0
    (subst (λ (a : List ℕ). Runs held c2 now (next (files_with (named a bytes) None)) r) is_name run)
