use Rattle.std.proofs.Common.{arith}
use Rattle.call_page.proofs.Shares.{shares_within}
use Rattle.call_page.proofs.page.choices_of.Goals as goal

pub counts-requires-clause-shares : goal.counts-requires-clause-shares
counts-requires-clause-shares c =
    let within = shares_within c.args.known.now.rows.now in
    omega (arith, within, c.failing_count.ensures, c.open_count.ensures)

pub returns-clause-counts : goal.returns-clause-counts
returns-clause-counts c =
    let counted = c.in_ok-counts.ensures in
    let within = shares_within c.args.known.now.rows.now in
    rw counted
    (record {
      fails = c.failing_count.ensures;
      every = c.every.ensures.count;
      undecided = c.open_count.ensures;
      all = omega (
        arith,
        within,
        c.failing_count.ensures,
        c.open_count.ensures,
        c.requires.known.rows.count,
      );
    })
