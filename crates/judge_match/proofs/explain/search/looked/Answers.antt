use Rattle.std.proofs.Common.{inr}
use Rattle.judge_match.specs.explain.Parts.{Excluded}
use Rattle.judge_match.proofs.explain.search.looked.Goals as goal

pub returns-then-branch-2 : goal.returns-then-branch-2
returns-then-branch-2 c = record {
  tree = Excluded;
  are = c.in_ok-leaf-2.ensures;
  excluded = inr (c.in_ok-excluded_by_play.ensures c.if-branch-2.true);
}
