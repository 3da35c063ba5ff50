use Rattle.std.proofs.Common.{sym}
use Rattle.call_work.proofs.map.denial.words_line.Goals as goal

pub returns-in-Some : goal.returns-in-Some
returns-in-Some c =
    rw (sym c.in-Some.ensures)
    (rw (
      c.place_words-place.ensures,
      c.as_bytes-number.ensures.value,
      c.format.ensures.text,
      c.as_bytes-what.ensures.value,
      c.words.ensures,
    )
    at c.line_of.ensures)

pub returns-in-None : goal.returns-in-None
returns-in-None c =
    rw (sym c.in-None.ensures)
    (rw (
      c.place_words-place.ensures,
      c.as_bytes-what.ensures.value,
      c.words.ensures,
    )
    at c.line_of-in-None.ensures)
