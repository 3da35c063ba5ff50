use Rattle.std.proofs.Common.{ℕ, Option, arith}
use Rattle.judge_margins.specs.declared.margins.bracket.Bracket.{Bracket}
use Rattle.judge_margins.specs.margins.Brackets.{IsSlot}
use Rattle.judge_margins.proofs.margins_lemmas.EachLaws.{all_of}
use Rattle.judge_margins.proofs.margins.lists.asked.Goals as goal

pub returns-clause-slots : goal.returns-clause-slots
returns-clause-slots c =
    all_of (λ place (b : Bracket) (slot : Option ℕ).
    IsSlot c.args.whole c.loop-place.asks.items place b slot) c.args.brackets.now
    c.loop-place.slots.items c.loop-place.place c.loop-place.invariant.slots
    (omega (arith, c.loop-place-test.false)) (omega (arith, c.loop-place.auto.place-end))
