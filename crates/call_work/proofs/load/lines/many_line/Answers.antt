use Rattle.call_work.proofs.load.lines.many_line.Goals as goal

pub returns : goal.returns
returns c =
    rw (
      c.as_bytes.ensures.value,
      c.as_bytes-2.ensures.value,
      c.format.ensures.text,
      c.as_bytes-3.ensures.value,
      c.format-2.ensures.text,
    )
    at c.one_line.ensures
