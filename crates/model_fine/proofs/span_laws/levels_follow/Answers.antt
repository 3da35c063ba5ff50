use Rattle.model_fine.proofs.SpanLevels.{levels_of}
use Rattle.model_fine.proofs.span_laws.levels_follow.Goals as goal

pub returns : goal.returns
returns c n line script box assumed choice h some have within agree =
    levels_of c.history_laws.ensures c.line_laws.ensures.trees n some line script box choice h within
    assumed have agree
