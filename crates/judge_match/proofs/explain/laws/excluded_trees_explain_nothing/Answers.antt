use Rattle.judge_match.proofs.explain_lemmas.TreeLaws.{none_explains}
use Rattle.judge_match.proofs.explain.laws.excluded_trees_explain_nothing.Goals as goal

pub returns : goal.returns
returns c = λ line script within recorded tree out.
    none_explains c.line_laws.ensures line script within recorded tree
    (λ timing inside. c.a_timing_is_one_choice.ensures.history line script timing inside) out
