use Rattle.std.proofs.Common.{◌≡◌, ◌∙◌, None, Some, length, refl, sym}
use Rattle.std.specs.Option.{option_copied}
use Rattle.std.proofs.lemmas.Result.{err_from_is_err_and}
use Rattle.call_study.specs.Answers.{answer_by}
use Rattle.call_work.specs.{load.Loaded.given_of, load.Loaded.studied, load.Reading.at_most}
use Rattle.call_work.specs.load.Reading.{why_in, why_of}
use Rattle.call_study.proofs.Reading.{given_read, given_refused, gives_wider, load_halts}
use Rattle.call_study.proofs.why.why.Goals as goal

pub returns-in_err-loaded : goal.returns-in_err-loaded
returns-in_err-loaded c =
    let p = err_from_is_err_and c.from_residual.result c.from_residual.ensures.1 in
    let bytes = c.args.bytes.now in
    let ask = c.args.ask.now in
    rw (p.1, p.2) (load_halts bytes
    (answer_by (why_of ask.form (given_of bytes) (option_copied ask.fault)
    (option_copied c.args.script) (option_copied ask.terminal)))
    c.in_err-loaded.field-0.0 c.in_err-loaded.ensures
    (λ why. given_refused bytes _ _ _ why (refl, refl)))

pub returns-in-Some : goal.returns-in-Some
returns-in-Some c =
    let loaded = c.in_ok-loaded.loaded in
    let is : at_most 4096000 (length loaded.study.scripts.items) ≡ Some c.in-Some.why =
    (rw c.as_slice.ensures.value at (sym c.at_most.ensures)) ∙ c.in-Some.is in
    given_read c.args.bytes.now loaded _ _ c.in_ok-loaded.ensures.0 c.in_ok-loaded.ensures.1
    (rw is (refl, refl))

pub returns : goal.returns
returns c =
    let loaded = c.in_ok-loaded.loaded in
    let bytes = c.args.bytes.now in
    let ask = c.args.ask.now in
    let script = option_copied c.args.script in
    let few : at_most 4096000 (length loaded.study.scripts.items) ≡ None =
    (rw c.as_slice.ensures.value at (sym c.at_most.ensures)) ∙ c.in-None.is in
    gives_wider
    (answer_by (why_in ask.form (studied loaded) (option_copied ask.fault) script
    (option_copied ask.terminal)))
    (answer_by (why_of ask.form (given_of bytes) (option_copied ask.fault) script
    (option_copied ask.terminal)))
    c.why_over.result
    (λ end text said. given_read bytes loaded _ _ c.in_ok-loaded.ensures.0
    c.in_ok-loaded.ensures.1 (rw few said))
    c.why_over.ensures
