use Rattle.judge_margins.proofs.margins_lemmas.KeptLaws.{are_kept_nearer}
use Rattle.judge_margins.proofs.margins.laws.what_is_held_further_is_held_nearer.Goals as goal

pub returns : goal.returns
returns c line scripts obligations n param side u v fit exist le limit kept =
    are_kept_nearer c.laws_below.ensures line scripts fit obligations exist n param side u v le limit kept
