use Rattle.std.proofs.Common.{◌≡◌, arith}
use Rattle.judge_margins.specs.declared.margins.bracket.Bracket.{Bracket}
use Rattle.judge_margins.specs.declared.margins.end.End.{End}
use Rattle.judge_margins.specs.margins.Brackets.{fresh_bracket}
use Rattle.judge_margins.proofs.margins_lemmas.EachLaws.{one_more, all_of}
use Rattle.judge_margins.proofs.margins.lists.opened.Goals as goal

pub loop-place-preserved : goal.loop-place-preserved
loop-place-preserved c =
    one_more (λ _ (end : End) (b : Bracket). b ≡ fresh_bracket end.slack)
    c.args.ends.now c.loop-place.brackets.items c.push.new.self.items
    c.opened_at.result c.loop-place.place c.loop-place.invariant
    c.in_ok-push.ensures.items (λ end at. c.opened_at.ensures end at)

pub returns : goal.returns
returns c =
    all_of (λ _ (end : End) (b : Bracket). b ≡ fresh_bracket end.slack) c.args.ends.now
    c.loop-place.brackets.items c.loop-place.place c.loop-place.invariant
    (omega (arith, c.loop-place-test.false)) (omega (arith, c.loop-place.auto.place-end))
