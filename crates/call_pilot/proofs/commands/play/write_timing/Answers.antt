use Rattle.std.proofs.Common.{sym}
use Rattle.std.proofs.lemmas.Result.{err_from_is_err_and}
use Rattle.model_timing.specs.NamedValues.{values_of}
use Rattle.call_pilot.specs.commands.Play.{IsRunText}
use Rattle.call_pilot.proofs.{commands_lemmas.Counts.grew_once, commands_lemmas.Pieces.written_more, commands_lemmas.Pieces.written_stops}
use Rattle.call_pilot.proofs.commands.play.write_timing.Goals as goal

pub returns-in_err-write_run : goal.returns-in_err-write_run
returns-in_err-write_run g c =
    let p = err_from_is_err_and c.from_residual.result c.from_residual.ensures.1 in
    rw (p.1, p.2) (record {
      asked = tt;
      writes = λ text is.
          written_stops (IsRunText c.args.compiled.now.line.now (values_of c.args.timing.now))
          c.args.scripts.now c.loop-script.script-index c.script-item.result
          c.loop-script-test.true (sym c.script-item.is) c.in_err-write_run.ensures.writes
          (c.loop-script.invariant.1 text is);
    })

pub loop-script-preserved : goal.loop-script-preserved
loop-script-preserved g c = (
  grew_once _ _ _ c.loop-script.script-index c.loop-script.invariant.0
      c.in_ok-write_run.ensures.asked,
  λ text is.
      written_more (IsRunText c.args.compiled.now.line.now (values_of c.args.timing.now))
      c.args.scripts.now
      c.loop-script.script-index c.script-item.result c.loop-script-test.true
      (sym c.script-item.is) c.in_ok-write_run.ensures.writes
      (c.loop-script.invariant.1 text is),
)
