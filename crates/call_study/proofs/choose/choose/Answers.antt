use Rattle.std.proofs.Common.{map, refl}
use Rattle.std.proofs.lemmas.Result.{err_from_is_err_and}
use Rattle.call_work.specs.load.Reading.{choose_of}
use Rattle.call_study.specs.Answers.{answer_by}
use Rattle.call_work.specs.load.Loaded.{as_read, given_of, studied}
use Rattle.call_study.proofs.Reading.{given_read, given_refused, gives_wider, load_halts}
use Rattle.call_study.proofs.choose.choose.Goals as goal

pub returns-in_err-loaded : goal.returns-in_err-loaded
returns-in_err-loaded c =
    let p = err_from_is_err_and c.from_residual.result c.from_residual.ensures.1 in
    let bytes = c.args.bytes.now in
    let ask = c.args.ask.now in
    rw (p.1, p.2) (load_halts bytes
    (answer_by (choose_of (map (λ word. word.now) ask.settings.now) ask.room (given_of bytes)))
    c.in_err-loaded.field-0.0 c.in_err-loaded.ensures
    (λ why. given_refused bytes _ _ _ why (refl, refl)))

pub returns : goal.returns
returns c =
    let bytes = c.args.bytes.now in
    let loaded = c.in_ok-loaded.loaded in
    let ask = c.args.ask.now in
    gives_wider
    (answer_by (choose_of (map (λ word. word.now) ask.settings.now) ask.room
    (as_read (studied loaded))))
    (answer_by (choose_of (map (λ word. word.now) ask.settings.now) ask.room (given_of bytes)))
    c.choose_over.result
    (λ end text said. given_read bytes loaded _ _ c.in_ok-loaded.ensures.0
    c.in_ok-loaded.ensures.1 said)
    c.choose_over.ensures
