use Rattle.model_history.specs.ListLaws.{exists_at}
use Rattle.judge_margins.proofs.margins.rows.first_off.Goals as goal

pub returns-then-not-is_on : goal.returns-then-not-is_on
returns-then-not-is_on c =
    let i = c.loop-i.i in
    let (bits, row) = exists_at c.args.rows.now i c.loop-i-test.true in
    let told = c.is_on.ensures bits row in
    let off = c.if-not-is_on.true in record {
      place = i;
      bits = bits;
      row = row;
      off = cc;
      at = c.obligation_at.ensures;
      before = c.loop-i.invariant;
    }
