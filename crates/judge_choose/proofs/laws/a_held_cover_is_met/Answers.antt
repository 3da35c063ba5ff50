use Rattle.judge_choose.proofs.choose_lemmas.CoverLaws.{cover_met}
use Rattle.judge_choose.proofs.laws.a_held_cover_is_met.Goals as goal

pub returns : goal.returns
returns c = cover_met c.laws_below.ensures
