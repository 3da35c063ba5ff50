use Rattle.std.proofs.Common.{refl}
use Rattle.std.proofs.lemmas.Result.{err_from_is_err_and}
use Rattle.call_work.specs.load.Reading.{page_of}
use Rattle.call_study.specs.Answers.{answer_by}
use Rattle.std.specs.Option.{option_copied}
use Rattle.call_work.specs.load.Request.{source_of}
use Rattle.call_work.specs.load.Loaded.{as_read, given_of, source_in, studied}
use Rattle.call_study.proofs.Reading.{given_read, given_refused, gives_wider, load_halts}
use Rattle.call_study.proofs.page.page.Goals as goal

pub returns-in_err-loaded : goal.returns-in_err-loaded
returns-in_err-loaded c =
    let p = err_from_is_err_and c.from_residual.result c.from_residual.ensures.1 in
    let bytes = c.args.bytes.now in
    let made = c.args.imprint.made.now in
    let date = option_copied c.args.imprint.date in
    let named = source_of c.args.named in
    let from = source_in bytes in
    rw (p.1, p.2) (load_halts bytes
    (answer_by (page_of made date named from (given_of bytes)))
    c.in_err-loaded.field-0.0 c.in_err-loaded.ensures
    (λ why. given_refused bytes _ _ _ why (refl, refl)))

pub returns : goal.returns
returns c =
    let bytes = c.args.bytes.now in
    let made = c.args.imprint.made.now in
    let date = option_copied c.args.imprint.date in
    let named = source_of c.args.named in
    let from = source_in bytes in
    let loaded = c.in_ok-loaded.loaded in
    gives_wider
    (answer_by (page_of made date named from (as_read (studied loaded))))
    (answer_by (page_of made date named from (given_of bytes)))
    c.page_over.result
    (λ end text said. given_read bytes loaded _ _ c.in_ok-loaded.ensures.0
    c.in_ok-loaded.ensures.1 said)
    c.page_over.ensures
