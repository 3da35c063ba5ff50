use Rattle.std.proofs.Common.{◌-◌, ◌≤◌, sym, ◌∙◌, arith}
use Rattle.run_waves.proofs.waves_lemmas.WaveLaws.{rails_in}
use Rattle.run_waves.proofs.waves.received.arrives_until.Goals as goal

pub returns-else-t-delay-clause-alike : goal.returns-else-t-delay-clause-alike
returns-else-t-delay-clause-alike c =
    let from = c.args.t - c.args.delay in
    let past : c.args.delay ≤ c.args.t = c.if-t-delay.false in
    record {
      shut = λ early. absurd (omega arith);
      passes = λ _ r low high.
          rails_in c.args.key.now c.stretch.result.level from c.stretch.result.end r
          c.stretch.ensures.level (omega arith) (omega arith)
          ∙ sym (rails_in c.args.key.now c.stretch.result.level from c.stretch.result.end from
          c.stretch.ensures.level (omega arith) c.stretch.ensures.later);
    }
