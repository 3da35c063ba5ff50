use Rattle.std.proofs.Common.{arith, ◌∙◌, sym}
use Rattle.model_timing.proofs.StepParts.{none_is_at, last_is_at}
use Rattle.model_timing.proofs.places.has_step.Goals as goal

pub returns-then-place-eq0 : goal.returns-then-place-eq0
returns-then-place-eq0 c =
    sym (none_is_at c.args.steps.now c.args.param c.args.from c.place_after-place.result
    c.place_after-place.ensures.parted c.if-place-eq0.true)

pub returns : goal.returns
returns c =
    c.is_at.ensures
    ∙ last_is_at c.args.steps.now c.args.param c.args.from c.place_after-place.result
    c.index-steps-place.result c.requires c.place_after-place.ensures.within
    c.place_after-place.ensures.parted (omega arith) (sym c.index-steps-place.is)
