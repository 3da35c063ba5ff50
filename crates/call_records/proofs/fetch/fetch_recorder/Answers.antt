use Rattle.std.proofs.Common.{◌≡◌, ◌∙◌, Bool, true, false, List, ℕ, ap, sym, subst}
use Rattle.std.specs.Prelude.{cond}
use Rattle.file_records.specs.map.DataNames.{is_one_file}
use Rattle.call_records.specs.Course.{one_course, pair_course}
use Rattle.call_records.specs.{Files.Leads, Read.files_values}
use Rattle.call_records.proofs.fetch.fetch_recorder.Goals as goal

pub returns-then-is_one_file-clause-course : goal.returns-then-is_one_file-clause-course
returns-then-is_one_file-clause-course g c = λ next.
    let config : List ℕ = c.args.recorder.now.config.items in
    let name : List ℕ = c.args.map_name.now in
    let one : is_one_file config ≡ true =
    sym (ap is_one_file c.as_slice.ensures.value) ∙ sym c.is_one_file.ensures.value
    ∙ c.if-is_one_file.true in
    subst (λ (b : Bool). Leads (g.S.Store.held c.args.store.now)
    (g.S.Store.faults c.args.store.now) (g.S.Store.faults c.fetch_one.new.store)
    (cond b (one_course name config next) (pair_course name config next))
    (λ f. next (files_values f)) c.fetch_one.result) (sym one) (c.fetch_one.ensures.course next)

pub returns-else-is_one_file-clause-course : goal.returns-else-is_one_file-clause-course
returns-else-is_one_file-clause-course g c = λ next.
    let config : List ℕ = c.args.recorder.now.config.items in
    let name : List ℕ = c.args.map_name.now in
    let pair : is_one_file config ≡ false =
    sym (ap is_one_file c.as_slice.ensures.value) ∙ sym c.is_one_file.ensures.value
    ∙ c.if-is_one_file.false in
    subst (λ (b : Bool). Leads (g.S.Store.held c.args.store.now)
    (g.S.Store.faults c.args.store.now) (g.S.Store.faults c.fetch_pair.new.store)
    (cond b (one_course name config next) (pair_course name config next))
    (λ f. next (files_values f)) c.fetch_pair.result) (sym pair) (c.fetch_pair.ensures.course next)
