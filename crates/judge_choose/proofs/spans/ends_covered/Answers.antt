use Rattle.judge_choose.proofs.spans.ends_covered.Goals as goal

pub ends_of-requires-clause-cover : goal.ends_of-requires-clause-cover
ends_of-requires-clause-cover c = c.requires.covers c.args.j c.cover_of.result c.cover_of.ensures
