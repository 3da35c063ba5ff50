use Rattle.call_records.proofs.record_refusal.channel_halt.Goals as goal

pub returns-in-Id : goal.returns-in-Id
returns-in-Id c = rw c.in-Id.is (rw c.as_slice.ensures.value at c.worded_halt.ensures)

pub returns-in-Number : goal.returns-in-Number
returns-in-Number c =
    rw c.in-Number.is
    (rw (c.as_bytes-n.ensures.value, c.format.ensures.text) at c.worded_halt-in-Number.ensures)
