use Rattle.judge_verdict.proofs.boxes_lemmas.SpanLaws.{in_order}
use Rattle.judge_verdict.proofs.boxes.spans.Spans64.least_in.Goals as goal

pub returns-clause-in_order : goal.returns-clause-in_order
returns-clause-in_order c = in_order c.args.self.now c.self.inside.least c.self.inside.greatest c.self.view_is c.self.invariant c.as_array-limited.ensures.limited
