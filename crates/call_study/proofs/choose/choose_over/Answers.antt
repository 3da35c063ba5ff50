use Rattle.std.proofs.Common.{◌≡◌, ◌∙◌, None, Some, length, map, refl, sym}
use Rattle.std.proofs.lemmas.Result.{err_from_is_err_and}
use Rattle.call_work.specs.load.Reading.{at_most}
use Rattle.call_study.proofs.Choosing.{choose_halts}
use Rattle.call_study.proofs.choose.choose_over.Goals as goal

pub returns-in-Some : goal.returns-in-Some
returns-in-Some c =
    let is : at_most 4096 (length c.args.loaded.now.study.scripts.items) ≡ Some c.in-Some.why =
    (rw c.as_slice.ensures.value at (sym c.at_most.ensures)) ∙ c.in-Some.is in
    rw is (refl, refl)

pub returns-in_err-said-in-None : goal.returns-in_err-said-in-None
returns-in_err-said-in-None c =
    let p = err_from_is_err_and c.from_residual.result c.from_residual.ensures.1 in
    let loaded = c.args.loaded.now in
    let ask = c.args.ask.now in
    let few : at_most 4096 (length loaded.study.scripts.items) ≡ None =
    (rw c.as_slice.ensures.value at (sym c.at_most.ensures)) ∙ c.in-None.is in
    rw (p.1, p.2) (choose_halts (map (λ word. word.now) ask.settings.now) ask.room loaded
    c.in_err-said-in-None.field-0.0 _ few refl c.in_err-said-in-None.ensures.denied)

pub returns-in_ok-said-in-None : goal.returns-in_ok-said-in-None
returns-in_ok-said-in-None c =
    let few : at_most 4096 (length c.args.loaded.now.study.scripts.items) ≡ None =
    (rw c.as_slice.ensures.value at (sym c.at_most.ensures)) ∙ c.in-None.is in
    let said = c.in_ok-said-in-None.ensures.said in
    rw (few, said.1) said.2
