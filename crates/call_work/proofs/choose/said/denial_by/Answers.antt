use Rattle.std.proofs.Common.{ap}
use Rattle.call_work.specs.declared.choose.denial.ChooseDenial.TheVariants as denial
use Rattle.call_work.proofs.choose.said.denial_by.Goals as goal

pub returns-in_ok-near-in-Unknown : goal.returns-in_ok-near-in-Unknown
returns-in_ok-near-in-Unknown c =
    let near = rw (
      c.name_in_list-name.ensures,
      c.names_of-names.ensures,
      c.word_at.ensures,
      c.saturating_sub.ensures,
    )
    at c.in_ok-near-in-Unknown.ensures.is in
    rw c.in-Unknown.is (ap (denial.Unknown c.in-Unknown.place c.in-Unknown.number) near)
