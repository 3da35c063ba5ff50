use Rattle.std.proofs.Common.{arith, inl, refl}
use Rattle.run_changes.proofs.changes.marks.plan.Goals as goal

pub returns-then-due-marks-clause-planned : goal.returns-then-due-marks-clause-planned
returns-then-due-marks-clause-planned c = inl (omega arith)

pub returns-then-due-marks-clause-more : goal.returns-then-due-marks-clause-more
returns-then-due-marks-clause-more c = record {
  words = refl;
  agenda_room = refl;
  agenda = λ i m. m;
  ticks_room = refl;
  ticks = λ i m. m;
  horizon = refl;
  next = refl;
}
