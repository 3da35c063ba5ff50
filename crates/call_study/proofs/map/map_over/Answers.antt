use Rattle.std.proofs.Common.{◌≡◌, ◌∙◌, None, Some, length, refl, sym}
use Rattle.std.proofs.lemmas.Result.{err_from_is_err_and}
use Rattle.std.specs.Option.{option_copied}
use Rattle.call_work.specs.load.Reading.{at_most}
use Rattle.call_study.proofs.Mapping.{map_halts}
use Rattle.call_study.proofs.map.map_over.Goals as goal

pub returns-in-Some : goal.returns-in-Some
returns-in-Some c =
    let is : at_most 4096 (length c.args.loaded.now.study.scripts.items) ≡ Some c.in-Some.why =
    (rw c.as_slice.ensures.value at (sym c.at_most.ensures)) ∙ c.in-Some.is in
    rw is (refl, refl)

pub returns-in_err-said-in-None : goal.returns-in_err-said-in-None
returns-in_err-said-in-None c =
    let p = err_from_is_err_and c.from_residual.result c.from_residual.ensures.1 in
    let loaded = c.args.loaded.now in
    let ask = c.args.ask.now in
    let few : at_most 4096 (length loaded.study.scripts.items) ≡ None =
    (rw c.as_slice.ensures.value at (sym c.at_most.ensures)) ∙ c.in-None.is in
    rw (p.1, p.2) (map_halts ask.form ask.x.now (option_copied ask.y) ask.made.now loaded
    c.in_err-said-in-None.field-0.0 _ few refl c.in_err-said-in-None.ensures.denied)

pub returns-in_ok-said-in-None : goal.returns-in_ok-said-in-None
returns-in_ok-said-in-None c =
    let few : at_most 4096 (length c.args.loaded.now.study.scripts.items) ≡ None =
    (rw c.as_slice.ensures.value at (sym c.at_most.ensures)) ∙ c.in-None.is in
    let said = c.in_ok-said-in-None.ensures.said in
    rw (few, said.1) said.2
