use Rattle.std.proofs.Common.{◌≡◌, ℕ, List, ◌∙◌, ap}
use Rattle.std.proofs.Common.{Err, Some, subst}
use Rattle.std.proofs.lemmas.Result.{err_from_is_err_and}
use Rattle.file_records.specs.map.DataNames.{data_name}
use Rattle.call_records.specs.Beside.{beside}
use Rattle.call_records.specs.Course.{config_file, data_file, reads}
use Rattle.call_records.specs.Parts.{files_with, named}
use Rattle.call_records.specs.Files.{Fetches, Held, Runs}
use Rattle.call_records.proofs.Running.{runs_next, runs_stops}
use Rattle.call_records.proofs.fetch.fetch_pair.Goals as goal

pub returns-clause-course : goal.returns-clause-course
returns-clause-course g c = λ next now r run.
    let held = g.S.Store.held c.args.store.now in
    let faults = g.S.Store.faults in
    let c1 = faults c.args.store.now in
    let c2 = faults c.fetch_beside.new.store in
    let c3 = faults c.fetch_beside-2.new.store in
    let own : List ℕ = c.args.recorder.now.config.items in
    let config_name : List ℕ = beside c.args.map_name.now own in
    let samples_name : List ℕ = beside c.args.map_name.now (data_name own) in
    let config : List ℕ = c.in_ok-config.config.bytes.items in
    let samples : List ℕ = c.in_ok-samples.samples.bytes.items in
    let one = rw c.as_slice.ensures.value at c.in_ok-config.ensures.file in
    let two = rw (c.as_slice-2.ensures.value, c.in_ok-data.ensures, c.in_ok-config.ensures.held)
    at c.in_ok-samples.ensures.file in
    let is_config : c.in_ok-config.config.name.items ≡ config_name =
    c.in_ok-config.ensures.named ∙ ap (beside c.args.map_name.now) c.as_slice.ensures.value in
    let is_samples : c.in_ok-samples.samples.name.items ≡ samples_name =
    c.in_ok-samples.ensures.named
    ∙ ap (beside c.args.map_name.now) (c.as_slice-2.ensures.value ∙ c.in_ok-data.ensures) in
    let both = subst (λ (b : List ℕ).
    Runs held c3 now (next (files_with (named config_name config) (Some (named b samples)))) r)
    is_samples
    (subst (λ (a : List ℕ).
    Runs held c3 now
    (next (files_with (named a config) (Some (named c.in_ok-samples.samples.name.items samples)))) r)
    is_config run) in
    runs_next held (config_file config_name)
    (λ config. reads (data_file samples_name)
    (λ samples. next (files_with (named config_name config) (Some (named samples_name samples)))))
    config one.1 one.2 r c1 c2 now one.0
    (runs_next held (data_file samples_name)
    (λ samples. next (files_with (named config_name config) (Some (named samples_name samples))))
    samples two.1 two.2 r c2 c3 now two.0 both)

pub returns-in_err-samples-clause-course : goal.returns-in_err-samples-clause-course
returns-in_err-samples-clause-course g c =
    let p = err_from_is_err_and c.from_residual-in_err-samples.result
    c.from_residual-in_err-samples.ensures.1 in
    let held = g.S.Store.held c.args.store.now in
    let faults = g.S.Store.faults in
    let c1 = faults c.args.store.now in
    let c2 = faults c.fetch_beside.new.store in
    let c3 = faults c.fetch_beside-2.new.store in
    let own : List ℕ = c.args.recorder.now.config.items in
    let config_name : List ℕ = beside c.args.map_name.now own in
    let samples_name : List ℕ = beside c.args.map_name.now (data_name own) in
    let config : List ℕ = c.in_ok-config.config.bytes.items in
    let why = c.in_err-samples.field-0.0 in
    let one = rw c.as_slice.ensures.value at c.in_ok-config.ensures.file in
    let is_name : c.as_slice-2.result.now ≡ data_name own =
    c.as_slice-2.ensures.value ∙ c.in_ok-data.ensures in
    let two =
    subst (λ (n : List ℕ).
    Fetches held c2 c3 (data_file (beside c.args.map_name.now n)) (Err why)) is_name
    (subst (λ (h : Held).
    Fetches h c2 c3 (data_file (beside c.args.map_name.now c.as_slice-2.result.now)) (Err why))
    c.in_ok-config.ensures.held c.in_err-samples.ensures.file) in
    rw (p.1, p.2) (λ next. runs_next held (config_file config_name)
    (λ config. reads (data_file samples_name)
    (λ samples. next (files_with (named config_name config) (Some (named samples_name samples)))))
    config one.1 one.2 (Err why) c1 c2 c3 one.0
    (runs_stops held (data_file samples_name)
    (λ samples. next (files_with (named config_name config) (Some (named samples_name samples))))
    why c2 c3 two))
