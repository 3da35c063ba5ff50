use Rattle.std.proofs.Common.{◌+◌, refl}
use Rattle.call_page.specs.Faults.{IsCaseOf}
use Rattle.call_facts.specs.Lists.{At}
use Rattle.judge_verdict.specs.verdict.OneEachLaws.{one_next}
use Rattle.call_page.proofs.case.cases.Goals as goal

pub loop-j-preserved : goal.loop-j-preserved
loop-j-preserved c =
    let known = c.args.known.now in
    one_next
    (λ j one. At known.study.now.scripts.items (c.args.part.start + j)
    (λ s. IsCaseOf known.study.now.line known.groups.now (c.args.part.start + j) s one))
    c.loop-j.j _ c.loop-j.cases.items c.push.new.self.items c.in_ok-case.case refl
    c.in_ok-push.ensures.items c.in_ok-case.ensures c.loop-j.invariant
