use Rattle.model_fine.proofs.FineChoices.{held_covered, broken_covered}
use Rattle.model_fine.proofs.fine_laws.the_rule_speaks_for_covered_fine_histories.Goals as goal

pub returns : goal.returns
returns c = record {
  held = λ n line script w h k some early cover kn rule.
      held_covered c.history_laws.ensures c.line_laws.ensures n some line script w h k early cover kn
      rule;
  broken = λ n line script w h k some early cover kn rule.
      broken_covered c.history_laws.ensures c.line_laws.ensures n some line script w h k early cover kn
      rule;
}
