use Rattle.std.proofs.Common.{◌≡◌, ℕ, List, subst, sym, arith, ⊎_elim}
use Rattle.model_line.specs.Parameters.{terminal_count}
use Rattle.judge_verdict.specs.verdict.OneEachLaws.{one_more, all_there}
use Rattle.judge_borders.specs.Parts.{RuleSays, line_of}
use Rattle.model_borders.specs.Borders.{latest_alone}
use Rattle.model_borders.specs.declared.script.Border.{Border}
use Rattle.judge_borders.proofs.MovedBack.{seen_more, lost_more, held_there, broken_there, by_rule}
use Rattle.judge_borders.proofs.parts.rules_at.Goals as goal

pub loose_waves-requires : goal.loose_waves-requires
loose_waves-requires c =
    let fault = c.args.fault.now in
    let part = c.args.part.now in
    let place : ℕ = c.latest_place-place.result in
    let is : place ≡ latest_alone fault.script.now.borders.items part c.args.still =
    subst (λ (l : List Border). place ≡ latest_alone l part c.args.still) c.as_slice.ensures.value
    c.latest_place-place.ensures.place in
    record {
      one_each = c.requires.fault.one_each;
      delayed = c.requires.fault.delayed;
      seen = seen_more c.history_laws.ensures c.histories_shift.ensures
          c.what_is_shown_lies_between.ensures c.borders_stand_within.ensures fault part c.args.still
          place is c.in_ok-two.two.certain c.in_ok-two.two.perhaps c.in_ok-two.ensures c.requires.part;
      lost = lost_more c.history_laws.ensures c.histories_shift.ensures
          c.what_is_shown_lies_between.ensures c.borders_stand_within.ensures fault part c.args.still
          place is c.in_ok-two.two.certain c.in_ok-two.two.perhaps c.in_ok-two.ensures c.requires.part;
    }

pub rule_at-rule-requires-clause-run : goal.rule_at-rule-requires-clause-run
rule_at-rule-requires-clause-run c =
    let fault = c.args.fault.now in
    let part = c.args.part.now in
    let place : ℕ = c.latest_place-place.result in
    let is : place ≡ latest_alone fault.script.now.borders.items part c.args.still =
    subst (λ (l : List Border). place ≡ latest_alone l part c.args.still) c.as_slice.ensures.value
    c.latest_place-place.ensures.place in
    record {
      one_each = c.requires.fault.one_each;
      delayed = c.requires.fault.delayed;
      seen = seen_more c.history_laws.ensures c.histories_shift.ensures
          c.what_is_shown_lies_between.ensures c.borders_stand_within.ensures fault part c.args.still
          place is c.in_ok-two.two.certain c.in_ok-two.two.perhaps c.in_ok-two.ensures c.requires.part;
      lost = lost_more c.history_laws.ensures c.histories_shift.ensures
          c.what_is_shown_lies_between.ensures c.borders_stand_within.ensures fault part c.args.still
          place is c.in_ok-two.two.certain c.in_ok-two.two.perhaps c.in_ok-two.ensures c.requires.part;
    }

pub said_of-said-requires : goal.said_of-said-requires
said_of-said-requires c = let count = c.requires.known.count in omega (arith, count, c.loop-k-test.true)

pub loop-k-preserved : goal.loop-k-preserved
loop-k-preserved c =
    let fault = c.args.fault.now in
    let part = c.args.part.now in
    let place : ℕ = c.latest_place-place.result in
    let view = c.view_of-view in
    let is : place ≡ latest_alone fault.script.now.borders.items part c.args.still =
    subst (λ (l : List Border). place ≡ latest_alone l part c.args.still) c.as_slice.ensures.value
    c.latest_place-place.ensures.place in
    let own : RuleSays fault part c.loop-k.k c.rule_at-rule.result =
    by_rule fault part c.loop-k.k c.rule_at-rule.result
    (λ e. held_there c.history_laws.ensures c.histories_shift.ensures
    c.what_is_shown_lies_between.ensures c.borders_stand_within.ensures fault part c.args.still place is
    c.in_ok-two.two.certain c.in_ok-two.two.perhaps c.in_ok-two.ensures c.loop-k.k view.result.first
    view.result.last view.result.end view.ensures.first view.ensures.last view.ensures.end
    (c.rule_at-rule.ensures.held e))
    (λ e. broken_there c.history_laws.ensures c.histories_shift.ensures
    c.what_is_shown_lies_between.ensures c.borders_stand_within.ensures fault part c.args.still place is
    c.in_ok-two.two.certain c.in_ok-two.two.perhaps c.in_ok-two.ensures c.loop-k.k view.result.first
    view.result.last view.result.end view.ensures.first view.ensures.last view.ensures.end
    (c.rule_at-rule.ensures.broken e)) in
    let known : RuleSays fault part c.loop-k.k c.said_of-said.result =
    c.requires.known.each c.loop-k.k c.said_of-said.result c.said_of-said.ensures in
    one_more (RuleSays fault part) c.loop-k.k c.loop-k.rules.items c.push.new.self.items c.kept.result
    c.in_ok-push.ensures.items
    (⊎_elim (λ same. subst (RuleSays fault part c.loop-k.k) (sym same) known)
    (λ same. subst (RuleSays fault part c.loop-k.k) (sym same) own) c.kept.ensures)
    c.loop-k.invariant

pub returns : goal.returns
returns c =
    all_there (RuleSays c.args.fault.now c.args.part.now) c.loop-k.k
    (terminal_count (line_of c.args.fault.now)) c.loop-k.rules.items
    (omega arith) c.loop-k.invariant
