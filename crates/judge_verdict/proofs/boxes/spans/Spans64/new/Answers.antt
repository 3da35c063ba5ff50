use Rattle.judge_verdict.proofs.boxes.spans.Spans64.new.Goals as goal

pub invariant_of-result : goal.invariant_of-result
invariant_of-result c = c.requires
