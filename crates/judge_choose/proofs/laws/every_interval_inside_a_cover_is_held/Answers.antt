use Rattle.judge_choose.proofs.choose_lemmas.CoverLaws.{inside_held}
use Rattle.judge_choose.proofs.laws.every_interval_inside_a_cover_is_held.Goals as goal

pub returns : goal.returns
returns c = inside_held c.laws_below.ensures
