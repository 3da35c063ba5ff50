use Rattle.judge_choose.proofs.choose_lemmas.CoverLaws.{declared_position}
use Rattle.judge_choose.proofs.laws.the_declared_position_is_the_declared_box.Goals as goal

pub returns : goal.returns
returns c = declared_position c.laws_below.ensures
