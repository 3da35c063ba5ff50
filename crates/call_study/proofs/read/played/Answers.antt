use Rattle.std.proofs.Common.{◌∙◌, map, refl, sym}
use Rattle.std.specs.Option.{option_copied}
use Rattle.std.proofs.lemmas.Option.{slice_get-map, slice_get_read}
use Rattle.std.proofs.lemmas.Simd.{map-map}
use Rattle.model_timing.specs.NamedValues.{NamedValues, values_of}
use Rattle.call_work.specs.load.Chosen.{chosen_script, chosen_timing}
use Rattle.call_study.proofs.Chosen.{chosen-map}
use Rattle.call_study.proofs.Reading.{none_placed, one_placed, placed_at}
use Rattle.call_study.proofs.read.played.Goals as goal

pub returns-in_default : goal.returns-in_default
returns-in_default c =
    let scripts = c.args.study.now.scripts.items in
    none_placed scripts (chosen_script scripts (option_copied c.args.script)) _ _ _
    (rw c.as_slice.ensures.value at c.in_default.ensures.is)
    (_, rw c.as_slice-in_default.ensures.value at c.in_ok-why.ensures, (refl, refl))

pub returns-in_default-choose_timing : goal.returns-in_default-choose_timing
returns-in_default-choose_timing c =
    let scripts = c.args.study.now.scripts.items in
    let timings = c.args.timings.now in
    let script = rw c.as_slice.ensures.value at c.in-Some.ensures in
    let there = placed_at scripts c.in-Some.i script.exists in
    one_placed scripts (chosen_script scripts (option_copied c.args.script)) _ _ _
    c.in-Some.i there.0 script.is there.1
    (none_placed (map values_of timings)
    (chosen_timing (map values_of timings) (option_copied c.args.timing)) _ _ _
    (c.in_default-choose_timing.ensures.is
    ∙ sym (chosen-map values_of (λ timing. timing.name) timings (option_copied c.args.timing))) (
      _,
      rw (map-map (λ (timing : NamedValues). timing.name) values_of timings)
          c.in_ok-why-2.ensures,
      (refl, refl),
    ))

pub returns : goal.returns
returns c =
    let scripts = c.args.study.now.scripts.items in
    let timings = c.args.timings.now in
    let script = rw c.as_slice.ensures.value at c.in-Some.ensures in
    let timing = c.in-Some-choose_timing.ensures in
    one_placed scripts (chosen_script scripts (option_copied c.args.script)) _ _ _
    c.in-Some.i c.index.result.now script.is
    (slice_get_read scripts _ c.in-Some.i c.index.result.now refl script.exists c.index.ensures)
    (one_placed (map values_of timings)
    (chosen_timing (map values_of timings) (option_copied c.args.timing)) _ _ _
    c.in-Some-choose_timing.j (values_of c.index-timings-j.result)
    (timing.is
    ∙ sym (chosen-map values_of (λ timing. timing.name) timings (option_copied c.args.timing)))
    (rw (
      slice_get-map values_of timings c.in-Some-choose_timing.j,
      slice_get_read timings _ c.in-Some-choose_timing.j c.index-timings-j.result refl timing.exists
          c.index-timings-j.is,
    ) refl)
    (rw c.good.ensures c.in_ok-text.ensures))
