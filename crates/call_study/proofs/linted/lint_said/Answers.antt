use Rattle.call_study.proofs.linted.lint_said.Goals as goal

pub returns-in_ok-linted-in-Files : goal.returns-in_ok-linted-in-Files
returns-in_ok-linted-in-Files c =
    rw c.in-Files.is (record {
      outcome = c.in_ok-linted-in-Files.linted.outcome;
      found = rw (c.as_slice.ensures.value, c.as_slice-in-Files.ensures.value)
          at c.in_ok-linted-in-Files.ensures;
      status_is = c.done_of.ensures;
    })

pub returns-in_ok-linted-in-Study : goal.returns-in_ok-linted-in-Study
returns-in_ok-linted-in-Study c =
    rw c.in-Study.is (record {
      outcome = c.in_ok-linted-in-Study.linted.outcome;
      found = rw c.as_slice-in-Study.ensures.value at c.in_ok-linted-in-Study.ensures;
      status_is = c.done_of-in-Study.ensures;
    })
