use Rattle.judge_match.proofs.matching_lemmas.AllowedLaws.{allowed}
use Rattle.judge_match.proofs.matching.laws.what_a_choice_gives_is_allowed.Goals as goal

pub returns : goal.returns
returns c line script seen choice h are inside is_h same trip k t kn lt =
    allowed c.line_laws.ensures line script seen choice h are inside is_h same trip k t kn lt
