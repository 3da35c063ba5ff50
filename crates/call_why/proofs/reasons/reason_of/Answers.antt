use Rattle.call_why.proofs.reasons.reason_of.Goals as goal

pub cut-requires-clause-fails : goal.cut-requires-clause-fails
cut-requires-clause-fails c =
    record { inside = c.requires.fails.inside; fails = c.requires.fails.fails }

pub told_over-requires-clause-inside : goal.told_over-requires-clause-inside
told_over-requires-clause-inside c = c.in_ok-cut.ensures.fails.inside

pub returns : goal.returns
returns c =
    let failing = c.in_ok-cut.ensures.fails.fails in
    record {
      net = c.args.compiled.now.net.now;
      history = failing.history;
      name = c.name_of-name.ensures;
      is_cut = c.in_ok-cut.ensures;
      of_line = c.args.compiled.now.of_line;
      is = failing.is;
      told = c.in_ok-text.ensures failing.history failing.is;
    }
