use Rattle.std.proofs.Common.{ap}
use Rattle.call_work.specs.declared.map.denial.MapDenial.TheVariants as denial
use Rattle.call_work.proofs.map.axes.denial_by.Goals as goal

pub returns-in_ok-near-in-Unknown : goal.returns-in_ok-near-in-Unknown
returns-in_ok-near-in-Unknown c =
    let near = rw (c.name_in_list-name.ensures, c.names_of.ensures, c.saturating_sub.ensures)
    at c.in_ok-near-in-Unknown.ensures.is in
    rw c.in-Unknown.is (ap (denial.Unknown c.args.side c.in-Unknown.number) near)
