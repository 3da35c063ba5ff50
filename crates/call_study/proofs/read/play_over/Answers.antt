use Rattle.std.proofs.Common.{map, refl}
use Rattle.std.specs.Option.{option_copied}
use Rattle.std.proofs.lemmas.List.Elements.{All-map}
use Rattle.std.proofs.lemmas.Result.{err_from_is_err_and}
use Rattle.model_timing.specs.Inside.{IsTimingInside}
use Rattle.model_timing.specs.NamedValues.{NamedValues, values_of}
use Rattle.file_tables.specs.timing.Timings.{timings_of}
use Rattle.call_files.specs.FileLaws.{timings_read}
use Rattle.call_study.specs.Answers.{answer_by}
use Rattle.call_work.specs.load.Loaded.{as_read, studied}
use Rattle.call_work.specs.load.Reading.{play_of, played_of}
use Rattle.call_study.proofs.Reading.{gives_wider, timings_halt}
use Rattle.call_study.proofs.read.play_over.Goals as goal

pub returns-in_err-timings : goal.returns-in_err-timings
returns-in_err-timings c =
    let p = err_from_is_err_and c.from_residual.result c.from_residual.ensures.1 in
    let loaded = c.args.loaded.now in
    rw (p.1, p.2) (timings_halt (timings_of loaded.study.line c.args.timings.now)
    (answer_by (play_of c.args.form (as_read (studied loaded)) c.args.timings.now
    (option_copied c.args.script) (option_copied c.args.timing)))
    c.in_err-timings.field-0.0 c.in_err-timings.ensures.said (λ fault is. rw is (refl, refl)))

pub returns : goal.returns
returns c =
    let loaded = c.args.loaded.now in
    let line = loaded.study.line in
    let timings = c.in_ok-timings.timings.items in
    let script = option_copied c.args.script in
    let timing = option_copied c.args.timing in
    gives_wider
    (answer_by (played_of c.args.form line loaded.study.scripts.items (map values_of timings) script
    timing))
    (answer_by (play_of c.args.form (as_read (studied loaded)) c.args.timings.now script timing))
    c.played.result
    (λ end text said. timings_read line (timings_of line c.args.timings.now) (map values_of timings)
    _ _ c.in_ok-timings.ensures.said
    (All-map (λ (timing : NamedValues). IsTimingInside line timing.timing) values_of timings
    c.in_ok-timings.ensures.inside) said)
    (rw c.as_slice.ensures.value at c.played.ensures)
