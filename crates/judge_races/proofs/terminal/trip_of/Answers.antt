use Rattle.std.proofs.Common.{List}
use Rattle.model_history.specs.Rails.{may_of}
use Rattle.model_logic.specs.Logic.{set_tree}
use Rattle.run_signal.specs.declared.tern.Tern.{Tern}
use Rattle.run_waves.specs.waves.Waves.{wave_at}
use Rattle.judge_races.specs.Lasting.{may_be}
use Rattle.judge_races.proofs.WaveLaws.{own_offs, longest_told, wave_same}
use Rattle.judge_races.proofs.terminal.trip_of.Goals as goal

pub returns : goal.returns
returns c = λ script are w is_w.
    let line = c.args.compiled.now.line.now in
    let gates = c.args.compiled.now.net.now.gates in
    let wave : List Tern = c.nth-wave.result.now in
    longest_told (λ t. may_of (wave_at wave t)) (may_be line script w (set_tree line c.args.k))
    line.horizon c.in_ok-until.until.items c.deref.result.now c.longest.result
    c.deref.ensures.value
    (own_offs _ line.horizon c.args.waves.now wave c.set_gate-set.result.0
    c.in_ok-until.until.items c.nth-wave.ensures c.requires.waves c.set_gate-set.ensures.within
    c.in_ok-until.ensures.offs)
    (wave_same line script gates w c.args.waves.now wave c.set_gate-set.result.0
    (set_tree line c.args.k) c.nth-wave.ensures (are.over w is_w) c.set_gate-set.ensures.within
    c.set_gate-set.ensures.is)
    c.longest.ensures
