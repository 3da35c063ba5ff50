use Rattle.call_records.proofs.record_refusal.gap_halt.Goals as goal

pub returns : goal.returns
returns c =
    rw (
      c.as_bytes-from.ensures.value,
      c.format.ensures.text,
      c.as_bytes-to.ensures.value,
      c.format-2.ensures.text,
    ) at c.worded_halt.ensures
