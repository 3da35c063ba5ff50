use Rattle.std.proofs.lemmas.Result.{IfOk-weaker}
use Rattle.std.proofs.Common.{◌<◌, ℕ, Bool, false, List, length, get_or, arith, ap, ◌∙◌}
use Rattle.model_line.specs.Channels.{from_of}
use Rattle.run_step.specs.Played.{is_on}
use Rattle.judge_why.specs.Plays.{PlayOf}
use Rattle.std.specs.Prelude.{is_some}
use Rattle.model_timing.specs.Choice.{timing_choice}
use Rattle.net_gates.specs.NetOf.{trip_of}
use Rattle.draw_gates.specs.dump.GateValues.{gate_levels}
use Rattle.call_why.specs.Parts.{part_of}
use Rattle.call_why.proofs.ToldLaws.{told_alike}
use Rattle.call_why.proofs.reasons.told_over.Goals as goal

pub returns : goal.returns
returns c =
    let line = c.args.compiled.now.line.now in
    let net = c.args.compiled.now.net.now in
    let script = c.args.script.now in
    let timing = c.args.named.now.timing in
    let of_line = c.args.compiled.now.of_line in
    let k : ℕ = c.args.terminal in
    let there : trip_of net k < length net.gates =
    of_line.laws.trips k (omega (arith, of_line.laws.same, of_line.terminals, c.requires.terminal)) in
    let play : PlayOf = record {
      net = net;
      horizon = line.horizon;
      level = is_on c.in_ok-waves.waves;
      from = from_of line.channels.items;
      delay = (timing_choice line timing).delay;
      told = λ g. get_or c.as_slice.result.now g false;
    } in
    IfOk-weaker c.told_in.result _ _
    (λ text so h is_h. told_alike play (gate_levels line script (timing_choice line timing) h net)
    (λ (g : ℕ). is_some (part_of line net g)) line script k c.args.every timing text.items
    (record {
      laws = of_line.laws.gates;
      levels = λ g t inside early. c.in_ok-waves.ensures.gates h is_h g t inside early;
      tell = λ g.
          ap (λ (l : List Bool). get_or l g false) c.as_slice.ensures.value ∙ c.in_ok-told.ensures g;
    })
    there so)
    c.told_in.ensures
