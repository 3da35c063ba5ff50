use Rattle.judge_choose.proofs.choose_lemmas.CoverLaws.{cover_met_between}
use Rattle.judge_choose.proofs.laws.a_held_cover_is_met_between_ticks.Goals as goal

pub returns : goal.returns
returns c = cover_met_between c.laws_below.ensures c.what_is_held_is_met_between_ticks.ensures
