use Rattle.std.proofs.Common.{◌∙◌, ℕ, length}
use Rattle.call_facts.proofs.Ends.{end_above, end_below}
use Rattle.call_facts.proofs.slacks.time.Goals as goal

pub returns : goal.returns
returns c = λ held are.
    let line = c.args.study.now.line in
    let scripts = c.args.study.now.scripts.items in
    let ends = c.args.ends.now in
    let i : ℕ = c.args.i in
    record {
      name = c.in_ok-name.ensures.items ∙ c.name_of_parameter.ensures;
      low = c.least.ensures.number;
      high = c.greatest.ensures.number;
      above = record {
        end = c.end_at-upper.result;
        is = end_above line scripts held (length held) ends are i c.end_at-upper.result
            c.end_at-upper.ensures;
        ticks = c.in_ok-above.ensures.ticks;
        lost = c.in_ok-above.ensures.lost;
      };
      below = record {
        end = c.end_at-lower.result;
        is = end_below line scripts held (length held) ends are i c.end_at-lower.result
            c.end_at-lower.ensures;
        ticks = c.in_ok-below.ensures.ticks;
        lost = c.in_ok-below.ensures.lost;
      };
    }
