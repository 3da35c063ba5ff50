use Rattle.std.proofs.Common.{refl}
use Rattle.std.specs.Option.{option_copied}
use Rattle.std.proofs.lemmas.Option.{slice_get_read}
use Rattle.call_work.specs.load.Chosen.{chosen_script}
use Rattle.call_study.proofs.Reading.{none_placed, one_placed}
use Rattle.call_study.proofs.read.bands_over.Goals as goal

pub returns-in_default : goal.returns-in_default
returns-in_default c =
    let scripts = c.args.loaded.now.study.scripts.items in
    none_placed scripts (chosen_script scripts (option_copied c.args.script)) _ _ _
    (rw c.as_slice.ensures.value at c.in_default.ensures.is)
    (_, rw c.as_slice-in_default.ensures.value at c.in_ok-why.ensures, (refl, refl))

pub returns : goal.returns
returns c =
    let scripts = c.args.loaded.now.study.scripts.items in
    let here = rw c.as_slice.ensures.value at c.in-Some.ensures in
    one_placed scripts (chosen_script scripts (option_copied c.args.script)) _ _ _
    c.in-Some.i c.index.result.now here.is
    (slice_get_read scripts _ c.in-Some.i c.index.result.now refl here.exists c.index.ensures)
    (rw c.good.ensures (refl, c.in_ok-text.ensures.drawn))
