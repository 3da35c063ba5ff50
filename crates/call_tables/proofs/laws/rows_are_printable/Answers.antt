use Rattle.call_tables.proofs.WrittenLaws.{one_each}
use Rattle.call_tables.proofs.laws.rows_are_printable.Goals as goal

pub returns : goal.returns
returns c = one_each c.declared_intervals_are_in_order.ensures
