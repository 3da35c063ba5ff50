use Rattle.judge_match.proofs.explain_lemmas.ChangeLaws.{level_kept}
use Rattle.judge_match.proofs.explain.laws.what_is_kept_around_a_tick_is_so.Goals as goal

pub returns : goal.returns
returns c = λ within n u v t level near below stays. level_kept within n u v t level near below stays
