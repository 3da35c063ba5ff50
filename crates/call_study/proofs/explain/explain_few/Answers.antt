use Rattle.std.proofs.Common.{◌≡◌, ◌∙◌, None, Some, length, refl, sym}
use Rattle.call_work.specs.load.Reading.{at_most, explain_in, explain_of}
use Rattle.std.specs.Option.{option_copied}
use Rattle.call_study.specs.Answers.{answer_by}
use Rattle.call_work.specs.load.Loaded.{as_read, studied}
use Rattle.call_study.proofs.Reading.{gives_wider}
use Rattle.call_study.proofs.explain.explain_few.Goals as goal

pub returns-in-Some : goal.returns-in-Some
returns-in-Some c =
    let is : at_most 64 (length c.args.loaded.now.study.scripts.items) ≡ Some c.in-Some.why =
    (rw c.as_slice.ensures.value at (sym c.at_most.ensures)) ∙ c.in-Some.is in
    rw is (refl, refl)

pub returns-in-None : goal.returns-in-None
returns-in-None c =
    let how = c.args.how in
    let loaded = c.args.loaded.now in
    let script = option_copied c.args.script in
    let is : at_most 64 (length loaded.study.scripts.items) ≡ None =
    (rw c.as_slice.ensures.value at (sym c.at_most.ensures)) ∙ c.in-None.is in
    gives_wider
    (answer_by (explain_in how.within how.form loaded.study.line loaded.study.scripts.items
    c.args.recording.now script))
    (answer_by (explain_of how.within how.form (as_read (studied loaded)) c.args.recording.now script))
    c.explain_over.result (λ end text said. rw is said) c.explain_over.ensures
