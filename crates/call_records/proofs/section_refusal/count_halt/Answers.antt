use Rattle.call_records.proofs.section_refusal.count_halt.Goals as goal

pub returns : goal.returns
returns c = rw (c.as_bytes-found.ensures.value, c.format.ensures.text) at c.at_place.ensures
