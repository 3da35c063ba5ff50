use Rattle.call_choose.proofs.RangeLaws.{all_tellable}
use Rattle.call_choose.proofs.table.choose_table.Goals as goal

pub push_rows-requires-clause-tellable : goal.push_rows-requires-clause-tellable
push_rows-requires-clause-tellable c =
    let line = c.args.compiled.now.line.now in
    rw c.deref.ensures.value (all_tellable line c.args.scripts.now c.args.settings.now
    c.in_ok-ranges.ranges.items c.requires.few line.two_or_three.1 c.requires.settings
    c.in_ok-ranges.ensures)
