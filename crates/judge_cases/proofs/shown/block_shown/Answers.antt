use Rattle.std.proofs.Common.{Bool, sym, subst}
use Rattle.std.specs.Prelude.{Decides}
use Rattle.judge_cases.specs.Analyses.{IsShownOf}
use Rattle.judge_cases.proofs.shown.block_shown.Goals as goal

pub returns : goal.returns
returns c = record {
  count = c.in_ok-told.ensures.count;
  each = λ i b view at here.
      subst (λ (x : Bool). Decides x
      (IsShownOf c.args.compiled.now.line.now c.args.script.now c.args.terminal view))
      (sym (c.in_ok-told.ensures.each i b at))
      ((c.shown-lanes.ensures c.args.views.now c.requires.views c.in_ok-analysis.ensures).each i view
      here);
}
