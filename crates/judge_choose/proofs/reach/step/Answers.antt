use Rattle.std.proofs.Common.{subst, sym}
use Rattle.judge_choose.specs.Told.{AreCovers}
use Rattle.judge_choose.proofs.reach.step.Goals as goal

pub told-requires-clause-covers : goal.told-requires-clause-covers
told-requires-clause-covers c =
    subst (AreCovers c.args.compiled.now.line.now) (sym c.deref.ensures.value)
    c.in_ok-covers.ensures.covers
