use Rattle.std.proofs.Common.{◌∷◌, subst}
use Rattle.model_settle.specs.Assumed.{Assumption}
use Rattle.judge_cases.specs.Views.{Views}
use Rattle.judge_settle.proofs.settle.sides.cases.Goals as goal

pub returns : goal.returns
returns c =
    let line = c.args.line.now in
    record {
      can = c.has_span.ensures.0 c.if-not-has_span.false;
      throughout = λ box assumed v.
          subst (λ (a : Assumption). Views line box (a ∷ assumed) c.in_ok-first.first)
          c.new-throughout.ensures (c.in_ok-first.ensures box assumed v);
      interrupted = λ box assumed v.
          subst (λ (a : Assumption). Views line box (a ∷ assumed) c.in_ok-second.second)
          c.new-interrupted.ensures (c.in_ok-second.ensures box assumed v);
    }
