use Rattle.call_pilot.proofs.commands.check.rejected_text.Goals as goal

pub returns-in_ok-place-in-NotCovered : goal.returns-in_ok-place-in-NotCovered
returns-in_ok-place-in-NotCovered c = rw c.in-NotCovered.is (
    rw (
      c.as_slice.ensures.value,
      c.in_ok-place-in-NotCovered.ensures,
      c.as_bytes-tick.ensures.value,
      c.format.ensures.text,
      c.tern_word.ensures,
      c.tern_word-in-NotCovered.ensures,
    ) at c.text_of.ensures)
