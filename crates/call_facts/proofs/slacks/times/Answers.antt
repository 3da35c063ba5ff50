use Rattle.std.proofs.Common.{List, length, refl, sym, subst}
use Rattle.judge_report.specs.declared.upper_end.Lost.{Lost}
use Rattle.judge_margins.specs.declared.margins.end.End.{End}
use Rattle.judge_margins.specs.margins.Ends.{AreEnds}
use Rattle.call_facts.specs.Times.{IsTimeOf}
use Rattle.judge_verdict.specs.verdict.OneEachLaws.{one_next}
use Rattle.call_facts.proofs.slacks.times.Goals as goal

pub loop-i-preserved : goal.loop-i-preserved
loop-i-preserved c =
    let line = c.args.study.now.line in
    let scripts = c.args.study.now.scripts.items in
    let held : List Lost = c.in_ok-today.today.held.items in
    let ends : AreEnds line scripts held (length held) c.as_slice-all.result.now =
    subst (λ (es : List End). AreEnds line scripts held (length held) es)
    (sym c.as_slice-all.ensures.value)
    (subst (λ (os : List Lost). AreEnds line scripts os (length os) c.in_ok-ends.ends.items)
    c.as_slice-held.ensures.value
    (subst (λ (ss : _). AreEnds line ss c.as_slice-held.result.now
    (length c.as_slice-held.result.now) c.in_ok-ends.ends.items)
    c.as_slice-scripts.ensures.value c.in_ok-ends.ensures.ends)) in
    one_next (IsTimeOf line scripts held) c.loop-i.i _ c.loop-i.times.items c.push.new.self.items
    c.in_ok-time.time refl c.in_ok-push.ensures.items (c.in_ok-time.ensures held ends)
    c.loop-i.invariant
