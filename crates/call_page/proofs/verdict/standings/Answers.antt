use Rattle.std.proofs.Common.{◌≡◌, ◌+◌, Some, refl, sym, ◌∙◌, ap}
use Rattle.std.specs.Prelude.{slice_get}
use Rattle.call_tables.specs.declared.row.Row.{Row}
use Rattle.call_page.specs.Verdicts.{standing_of}
use Rattle.call_facts.specs.{FirstTicks.place, Lists.At}
use Rattle.judge_verdict.specs.verdict.OneEachLaws.{one_next}
use Rattle.call_page.proofs.verdict.standings.Goals as goal

pub loop-j-preserved : goal.loop-j-preserved
loop-j-preserved c =
    let known = c.args.known.now in
    one_next
    (λ j x. At known.rows.now (place known.study.now.line (c.args.part.start + j) c.args.terminal)
    (λ row. x ≡ standing_of row.settled.answer)) c.loop-j.j _
    c.loop-j.standings.items c.push.new.self.items c.standing_of.result refl
    c.in_ok-push.ensures.items
    (λ (row : Row) at.
    let own : slice_get known.rows.now
    (place known.study.now.line (c.args.part.start + c.loop-j.j) c.args.terminal)
    ≡ Some c.row_at-row.result.now = c.row_at-row.ensures in
    let same : row ≡ c.row_at-row.result.now = cc in
    c.standing_of.ensures ∙ ap (λ (r : Row). standing_of r.settled.answer) (sym same))
    c.loop-j.invariant
