use Rattle.std.proofs.Common.{inl, inr, refl}
use Rattle.run_changes.proofs.changes.readers.tell.Goals as goal

pub returns-then-not-same-clause-count : goal.returns-then-not-same-clause-count
returns-then-not-same-clause-count g c = c.wake_readers.ensures.count

pub returns-then-not-same-clause-lowered : goal.returns-then-not-same-clause-lowered
returns-then-not-same-clause-lowered g c = c.wake_readers.ensures.lowered

pub returns-then-not-same-clause-marks : goal.returns-then-not-same-clause-marks
returns-then-not-same-clause-marks g c = c.wake_readers.ensures.marks

pub returns-then-not-same-clause-next : goal.returns-then-not-same-clause-next
returns-then-not-same-clause-next g c = c.wake_readers.ensures.next

pub returns-then-not-same-clause-horizon : goal.returns-then-not-same-clause-horizon
returns-then-not-same-clause-horizon g c = c.wake_readers.ensures.horizon

pub returns-then-not-same-clause-told : goal.returns-then-not-same-clause-told
returns-then-not-same-clause-told g c = inl c.wake_readers.ensures.awake

pub returns-else-not-same-clause-lowered : goal.returns-else-not-same-clause-lowered
returns-else-not-same-clause-lowered g c = λ i due at. inr at

pub returns-else-not-same-clause-told : goal.returns-else-not-same-clause-told
returns-else-not-same-clause-told g c = inr (c.if-not-same.ensures refl)
