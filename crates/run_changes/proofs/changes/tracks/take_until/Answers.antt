use Rattle.std.proofs.Common.{arith}
use Rattle.run_changes.proofs.changes.tracks.take_until.Goals as goal

pub loop-t-init : goal.loop-t-init
loop-t-init g c =
    record { fits = omega arith; kept = c.requires.kept; stands = λ script given. given }

pub loop-t-preserved : goal.loop-t-preserved
loop-t-preserved g c = record {
  fits = c.take_stretch-t.ensures.fits;
  kept = c.take_stretch-t.ensures.kept;
  stands = λ script given.
      c.take_stretch-t.ensures.stands script (c.loop-t.invariant.stands script given);
}
