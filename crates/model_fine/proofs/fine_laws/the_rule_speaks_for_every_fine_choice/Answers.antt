use Rattle.model_fine.proofs.FineChoices.{held_fine, broken_fine}
use Rattle.model_fine.proofs.fine_laws.the_rule_speaks_for_every_fine_choice.Goals as goal

pub returns : goal.returns
returns c = record {
  held = λ n line script box w k some early d is_w kn rule choice h within is_h.
      held_fine c.history_laws.ensures c.line_laws.ensures n some line script box w k early d is_w kn
      choice h within is_h rule;
  broken = λ n line script box w k some early d is_w kn rule choice h within is_h.
      broken_fine c.history_laws.ensures c.line_laws.ensures n some line script box w k early d is_w kn
      choice h within is_h rule;
}
