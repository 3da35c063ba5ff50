use Rattle.std.proofs.Common.{arith, ap}
use Rattle.std.proofs.lemmas.List.{get_or-map}
use Rattle.model_line.specs.declared.line.Channel.{Channel}
use Rattle.judge_why.proofs.delay.sender.Goals as goal

pub returns-clause-exists : goal.returns-clause-exists
returns-clause-exists c =
    let line = c.args.line.now in
    omega (
      arith,
      line.pairs_once.from c.args.channel c.requires,
      get_or-map (λ (h : Channel). h.from) line.channels.items c.args.channel c.index.result.now 0
          c.requires,
      ap (λ (h : Channel). h.from) c.index.ensures,
    )
