use Rattle.std.proofs.Common.{◌<◌, arith, lt-ltb}
use Rattle.std.proofs.lemmas.Bool.Decides.{Decides-ltb}
use Rattle.judge_split.proofs.HalfLaws.{can_split_when, splits_when}
use Rattle.judge_split.proofs.part.can_split.Goals as goal

pub returns-then-mid-least : goal.returns-then-mid-least
returns-then-mid-least c = (
  λ no. cc,
  λ can. absurd (omega (
    arith,
    (can_split_when c.args.line.now c.args.param c.args.mid can).0,
    c.least.ensures.number,
    c.if-mid-least.true,
  )),
)

pub returns : goal.returns
returns c = (
  λ yes.
      let below : c.args.mid < c.greatest.result =
      (Decides-ltb c.args.mid c.greatest.result).0 yes in
      splits_when c.args.line.now c.args.param c.args.mid c.requires
      (λ told. (let is = c.is_delay.ensures in let not = c.if-is_delay.false in cc))
      (omega (arith, c.least.ensures.number, c.if-mid-least.false))
      (omega (arith, c.greatest.ensures.number, below)),
  λ can. lt-ltb _ _ (omega (
    arith,
    (can_split_when c.args.line.now c.args.param c.args.mid can).1,
    c.greatest.ensures.number,
  )),
)
