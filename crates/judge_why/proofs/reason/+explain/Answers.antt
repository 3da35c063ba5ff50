use Rattle.std.proofs.Common.{List, Option, sym, subst, ap, ◌∙◌}
use Rattle.std.specs.Prelude.{IsFalse, OnOk}
use Rattle.judge_why.specs.declared.fact.{Spot.Spot, Fact.Fact}
use Rattle.judge_why.specs.{Plays.play_of, Reasons.AddsReason, Reasons.tells}
use Rattle.judge_why.proofs.ReasonLaws.{explained}
use Rattle.judge_why.proofs.reason.+explain.Goals as goal

pub returns : goal.returns
returns t c =
    let play = play_of c.args.play.now in
    let old : List Fact = c.args.facts.now.items in
    let spot : Spot = c.in-Some.spot in
    let fresh : IsFalse (tells old spot) =
    ap (λ (l : List Fact). tells l spot) (sym c.as_slice.ensures.value) ∙ sym c.tells.ensures
    ∙ c.if-tells.false in
    subst (λ (o : Option Spot). OnOk c.explain-2.result
    (AddsReason play c.args.depth o old c.explain-2.new.facts.items)) (sym c.in-Some.is)
    (explained play c.args.depth c.depth_below-below.result spot c.fact_at-fact.result
    c.first_cause.result c.second_cause.result old c.push.new.self.items c.explain.new.facts.items
    c.explain-2.new.facts.items c.explain-2.result fresh c.fact_at-fact.ensures.is
    c.in_ok-push.ensures.items c.depth_below-below.ensures c.first_cause.ensures.is
    c.second_cause.ensures.is c.in_ok-explain.ensures c.explain-2.ensures)
