use Rattle.model_fine.proofs.LooseCovers.{shown_covered}
use Rattle.model_fine.proofs.loose_laws.loose_histories_cover.Goals as goal

pub returns : goal.returns
returns c n line certain perhaps box shown choice w h some d between within is_w is_h =
    shown_covered c.history_laws.ensures n some line certain perhaps box shown choice d between within
    c.line_laws.ensures.trees h is_h w is_w
