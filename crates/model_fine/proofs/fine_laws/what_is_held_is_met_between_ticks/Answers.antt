use Rattle.model_logic.specs.Choice.{declared_box}
use Rattle.model_fine.proofs.FineChoices.{held_between}
use Rattle.model_fine.proofs.fine_laws.what_is_held_is_met_between_ticks.Goals as goal

pub returns : goal.returns
returns c = record {
  over = held_between c.history_laws.ensures c.line_laws.ensures;
  declared = λ line script k early.
      held_between c.history_laws.ensures c.line_laws.ensures line script k (declared_box line) early
      (c.line_laws.ensures.inside.declared line);
}
