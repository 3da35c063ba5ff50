use Rattle.call_records.proofs.record_refusal.level_halt.Goals as goal

pub returns : goal.returns
returns c =
    rw (c.as_bytes-channel.ensures.value, c.format.ensures.text) at c.sample_halt.ensures
