use Rattle.std.proofs.Common.{sym, ap, ◌∙◌}
use Rattle.model_history.specs.Rails.{may_of}
use Rattle.call_races.proofs.Waves.{wave_tells}
use Rattle.call_races.proofs.began.may_be_on.Goals as goal

pub returns : goal.returns
returns c = λ script w are is_w.
    c.may.ensures ∙ ap may_of (sym c.at.ensures.rails)
    ∙ wave_tells c.args.compiled.now.line.now script c.args.compiled.now.net.now.gates w
    c.args.waves.now c.nth.result.now c.args.id.0 c.args.t c.nth.ensures (are.over w is_w)
    c.requires.exists c.requires.tick
