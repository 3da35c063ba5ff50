use Rattle.judge_verdict.specs.verdict.OneEach.{OneEach}
use Rattle.call_facts.specs.Spares.{IsSpareOf}
use Rattle.call_page.proofs.spares.external_spares.Given as goal

abbrev pub invariant-loop-k : goal.invariant-loop-k
invariant-loop-k l = OneEach (IsSpareOf l.compiled.line.now l.own) l.k l.spares.items
