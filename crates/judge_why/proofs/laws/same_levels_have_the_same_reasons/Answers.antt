use Rattle.judge_why.specs.PlayLaws.{why_alike}
use Rattle.judge_why.proofs.laws.same_levels_have_the_same_reasons.Goals as goal

pub returns : goal.returns
returns c = λ play level told spot facts alike why. why_alike play level told alike spot facts why
