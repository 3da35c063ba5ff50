use Rattle.file_study.proofs.study.faults.within.Goals as goal

pub returns-in-Internal : goal.returns-in-Internal
returns-in-Internal c = rw c.in-Internal.is c.moments_at.ensures
