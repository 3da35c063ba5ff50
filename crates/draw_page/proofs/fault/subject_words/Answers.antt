use Rattle.draw_page.specs.Faults.{subject_said}
use Rattle.draw_page.proofs.fault.subject_words.Goals as goal

pub returns : goal.returns
unfolding subject_said
returns c =
    rw (
      c.as_bytes-count.ensures.value,
      c.format.ensures.text,
      c.len.ensures,
      c.args.fault.now.cases.ok.0,
      c.kind_word-kind.ensures,
      c.as_slice.ensures.value,
    ) at c.words_of.ensures
