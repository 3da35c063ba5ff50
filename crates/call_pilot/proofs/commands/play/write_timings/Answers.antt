use Rattle.std.proofs.Common.{◌<◌, map, length, sym, ap, ◌∙◌}
use Rattle.std.proofs.lemmas.List.{get_or-map, length-map}
use Rattle.std.proofs.lemmas.Result.{err_from_is_err_and}
use Rattle.model_timing.specs.NamedValues.{values_of}
use Rattle.call_pilot.specs.commands.Play.{IsTimingText}
use Rattle.call_pilot.proofs.{commands_lemmas.Counts.grew_round, commands_lemmas.Pieces.written_more, commands_lemmas.Pieces.written_stops}
use Rattle.call_pilot.proofs.commands.play.write_timings.Goals as goal

pub returns-in_err-write_timing : goal.returns-in_err-write_timing
returns-in_err-write_timing g c =
    let p = err_from_is_err_and c.from_residual.result c.from_residual.ensures.1 in
    let lt : c.loop-timing.timing-index < length (map values_of c.args.timings.now) =
    simp length-map c.loop-timing-test.true in
    rw (p.1, p.2) (record {
      asked = tt;
      writes = λ text is.
          written_stops (IsTimingText c.args.compiled.now.line.now c.args.scripts.now)
          (map values_of c.args.timings.now)
          c.loop-timing.timing-index (values_of c.timing-item.result) lt
          (get_or-map values_of c.args.timings.now c.loop-timing.timing-index c.timing-item.result
          (values_of c.timing-item.result) c.loop-timing-test.true
          ∙ ap values_of (sym c.timing-item.is))
          c.in_err-write_timing.ensures.writes (c.loop-timing.invariant.1 text is);
    })

pub loop-timing-preserved : goal.loop-timing-preserved
loop-timing-preserved g c =
    let lt : c.loop-timing.timing-index < length (map values_of c.args.timings.now) =
    simp length-map c.loop-timing-test.true in (
      grew_round _ _ _ c.loop-timing.timing-index (length c.args.scripts.now)
          c.loop-timing.invariant.0 c.in_ok-write_timing.ensures.asked,
      λ text is.
          written_more (IsTimingText c.args.compiled.now.line.now c.args.scripts.now)
          (map values_of c.args.timings.now)
          c.loop-timing.timing-index (values_of c.timing-item.result) lt
          (get_or-map values_of c.args.timings.now c.loop-timing.timing-index c.timing-item.result
          (values_of c.timing-item.result) c.loop-timing-test.true
          ∙ ap values_of (sym c.timing-item.is))
          c.in_ok-write_timing.ensures.writes (c.loop-timing.invariant.1 text is),
    )
