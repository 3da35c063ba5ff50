use Rattle.std.proofs.lemmas.Result.{IfOk-weaker}
use Rattle.std.proofs.Common.{◌∙◌}
use Rattle.model_logic.specs.Choice.{Choice}
use Rattle.model_timing.specs.Choice.{timing_choice}
use Rattle.run_step.specs.Played.{is_on}
use Rattle.draw_gates.specs.dump.GateValues.{gate_levels}
use Rattle.draw_gates.proofs.dump_lemmas.DumpLaws.{dump_text-same}
use Rattle.draw_gates.proofs.dump.vcd.vcd_text.Goals as goal

pub returns : goal.returns
returns c =
    let line = c.args.compiled.now.line.now in
    let script = c.args.script.now in
    let net = c.args.compiled.now.net.now in
    let choice : Choice = timing_choice line c.args.timing.now.timing in
    IfOk-weaker c.value_change_dump.result _ _
    (λ text is h is_h.
    is
    ∙ dump_text-same c.args.timing.now.name script.name line net (is_on c.in_ok-waves.waves)
    (gate_levels line script choice h net)
    (λ gate t lt early. c.in_ok-waves.ensures.gates h is_h gate t lt early))
    c.value_change_dump.ensures
