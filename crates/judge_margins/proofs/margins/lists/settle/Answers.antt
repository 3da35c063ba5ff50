use Rattle.std.proofs.Common.{◌≡◌, Some, arith}
use Rattle.std.specs.Prelude.{slice_get}
use Rattle.judge_margins.specs.declared.margins.bracket.Bracket.{Bracket}
use Rattle.judge_margins.specs.declared.margins.end.End.{End}
use Rattle.judge_margins.specs.margins.Brackets.{settled}
use Rattle.judge_margins.proofs.margins_lemmas.EachLaws.{one_more, all_of}
use Rattle.judge_margins.proofs.margins.lists.settle.Goals as goal

pub loop-place-preserved : goal.loop-place-preserved
loop-place-preserved c =
    one_more (λ place (old new : End). (b : Bracket) → slice_get c.args.brackets.now place ≡ Some b
    → new ≡ settled b old)
    c.args.ends.now c.loop-place.settled.items c.push.new.self.items
    c.settled_at.result c.loop-place.place c.loop-place.invariant
    c.in_ok-push.ensures.items (λ end at b there. c.settled_at.ensures end b at there)

pub returns : goal.returns
returns c =
    all_of (λ place (old new : End). (b : Bracket) → slice_get c.args.brackets.now place ≡ Some b
    → new ≡ settled b old) c.args.ends.now
    c.loop-place.settled.items c.loop-place.place c.loop-place.invariant
    (omega (arith, c.loop-place-test.false)) (omega (arith, c.loop-place.auto.place-end))
