use Rattle.std.proofs.Common.{◌≡◌, ℕ, Option, Some, arith}
use Rattle.std.specs.Prelude.{slice_get}
use Rattle.judge_margins.specs.declared.margins.bracket.Bracket.{Bracket}
use Rattle.judge_margins.specs.margins.Brackets.{IsHalf}
use Rattle.judge_margins.proofs.margins_lemmas.EachLaws.{one_more, all_of}
use Rattle.judge_margins.proofs.margins.lists.halves.Goals as goal

pub loop-place-preserved : goal.loop-place-preserved
loop-place-preserved c =
    one_more (λ place (old new : Bracket). (slot : Option ℕ)
    → slice_get c.args.slots.now place ≡ Some slot → IsHalf c.args.whole c.args.told.now old slot new)
    c.args.brackets.now c.loop-place.halves.items c.push.new.self.items
    c.half_at.result c.loop-place.place c.loop-place.invariant
    c.in_ok-push.ensures.items (λ b at slot there. c.half_at.ensures b slot at there)

pub returns : goal.returns
returns c =
    all_of (λ place (old new : Bracket). (slot : Option ℕ)
    → slice_get c.args.slots.now place ≡ Some slot → IsHalf c.args.whole c.args.told.now old slot new) c.args.brackets.now
    c.loop-place.halves.items c.loop-place.place c.loop-place.invariant
    (omega (arith, c.loop-place-test.false)) (omega (arith, c.loop-place.auto.place-end))
