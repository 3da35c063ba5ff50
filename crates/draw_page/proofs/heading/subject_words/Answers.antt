use Rattle.draw_page.specs.Headings.{subject_said}
use Rattle.draw_page.proofs.heading.subject_words.Goals as goal

pub returns : goal.returns
unfolding subject_said
returns c =
    rw (
      c.as_slice.ensures.value,
      c.as_bytes-terminals.ensures.value,
      c.format.ensures.text,
      c.len.ensures,
      c.args.page.now.terminals.ok.0,
      c.zone_words.ensures,
      c.as_slice-2.ensures.value,
      c.in_ok-horizon.ensures,
      c.as_slice-3.ensures.value,
      c.in_ok-tick.ensures,
    ) at c.words_of.ensures
