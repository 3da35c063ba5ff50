use Rattle.std.proofs.Common.{◌∙◌, ap, arith, sym}
use Rattle.std.specs.List.{after_first}
use Rattle.std.specs.Prelude.{◌==◌}
use Rattle.file_comtrade.proofs.Finding.{behind_more}
use Rattle.file_comtrade.proofs.places.behind.Goals as goal

pub loop-i-preserved : goal.loop-i-preserved
loop-i-preserved c = record {
  rest = c.behind_first-rest.ensures.rest
      ∙ ap (after_first (λ b. b == c.args.byte)) c.loop-i.invariant.rest
      ∙ sym (behind_more c.args.byte c.loop-i._i c.args.text.now);
  shorter = omega (arith, c.behind_first-rest.ensures.shorter, c.loop-i.invariant.shorter);
}
