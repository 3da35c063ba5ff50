use Rattle.judge_margins.proofs.margins.spans.ends_asked.Goals as goal

pub ends_of-requires-clause-ask : goal.ends_of-requires-clause-ask
ends_of-requires-clause-ask c = c.requires.asks c.args.j c.ask_of.result c.ask_of.ensures
