use Rattle.std.proofs.Common.{◌≡◌, length, sym, ◌∙◌, ap, arith}
use Rattle.run_waves.specs.waves.Text.{runs_of, runs_text}
use Rattle.run_waves.proofs.waves_lemmas.LongestRuns.{are_runs}
use Rattle.run_waves.proofs.waves.text.read_runs.Goals as goal

pub returns-in_default : goal.returns-in_default
returns-in_default c = λ wave is.
    let none = rw c.in_default.is at c.in_ok-wave.ensures in
    none (runs_of wave) (are_runs wave c.args.horizon is.long c.requires.limited) is.written

pub returns-else-len-horizon : goal.returns-else-len-horizon
returns-else-len-horizon c = λ wave is.
    let read : runs_text c.in-Some.wave ≡ c.args.text.now =
    rw c.in-Some.is at c.in_ok-wave.ensures in
    let same = c.texts_tell_waves.ensures c.in-Some.wave wave c.len.ensures.limited
    (omega (arith, is.long, c.requires.limited)) (read ∙ sym is.written) in
    absurd (c.if-len-horizon.false (c.len.ensures.length ∙ ap length same ∙ is.long))
