use Rattle.std.proofs.Common.{List, ℕ, ◌∙◌, subst}
use Rattle.std.proofs.lemmas.Result.{IfOk-weaker}
use Rattle.model_history.specs.Rails.{Ends}
use Rattle.model_logic.specs.Histories.{History}
use Rattle.judge_match.specs.explain.Asked.{recorded_of}
use Rattle.judge_match.specs.explain.Found.{AreNodesOver, IsFound}
use Rattle.judge_match.specs.explain.Parts.{lower_part, upper_part}
use Rattle.judge_match.proofs.explain_lemmas.FoundLaws.{nodes_found, open_found}
use Rattle.judge_match.proofs.explain.search.+search_part.Goals.{in-Excluded, in-Open}
use Rattle.judge_match.proofs.explain.search.+search_part.Goals.{in-Excluded-2, in-Open-2}
use Rattle.judge_match.proofs.explain.search.+search_part.Goals as goal

pub returns : goal.returns
returns t c =
    let line = c.args.q.now.compiled.line.now in
    let script = c.args.q.now.script.now in
    let within : ℕ = c.args.q.now.within in
    let recorded : History = recorded_of c.args.q.now in
    let part : List Ends = c.args.part.now in
    let lower : List Ends = lower_part part c.in-Some.cut.param c.in-Some.cut.mid in
    let upper : List Ends = upper_part part c.in-Some.cut.param c.in-Some.cut.mid in
    IfOk-weaker c.joined.result _ (IsFound line script within recorded part)
    (λ found told. told line script within recorded part
    (c.can_part.ensures.0 c.if-not-can_part.false)
    (elim c.match-branch-6.branch [
      | in-Excluded w ↦ nodes_found line script within recorded lower w.in-Excluded.nodes
          c.in_ok-timing.field-0 c.match-branch-6.below w.in-Excluded.is w.below-is
          (subst (λ (p : List Ends). IsFound line script within recorded p c.in_ok-timing.field-0)
          (c.deref.ensures.value ∙ c.in_ok-lower.ensures.is) c.in_ok-timing.ensures)
      | in-Open w ↦ open_found (λ all. AreNodesOver line script within recorded lower all.items)
          c.match-branch-6.below w.below-is
    ])
    (elim c.match-branch-8.branch [
      | in-Excluded-2 w ↦ nodes_found line script within recorded upper w.in-Excluded-2.nodes
          c.in_ok-timing-2.field-0 c.match-branch-8.above w.in-Excluded-2.is w.above-is
          (subst (λ (p : List Ends). IsFound line script within recorded p c.in_ok-timing-2.field-0)
          (c.deref-2.ensures.value ∙ c.in_ok-upper.ensures.is) c.in_ok-timing-2.ensures)
      | in-Open-2 w ↦ open_found (λ all. AreNodesOver line script within recorded upper all.items)
          c.match-branch-8.above w.above-is
    ])) c.joined.ensures
