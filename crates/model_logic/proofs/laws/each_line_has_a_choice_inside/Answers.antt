use Rattle.model_logic.proofs.DeclaredChoices.{leasts_inside, declared_from_one, inside_from_one}
use Rattle.model_logic.proofs.laws.each_line_has_a_choice_inside.Goals as goal

pub returns : goal.returns
returns c = record {
  inside = leasts_inside;
  choices = inside_from_one;
  declared = declared_from_one;
}
