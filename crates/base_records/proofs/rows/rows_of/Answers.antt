use Rattle.std.proofs.Common.{refl}
use Rattle.base_records.specs.Records.{records_of}
use Rattle.base_records.proofs.rows.rows_of.Goals as goal

pub returns-clause-left : goal.returns-clause-left
unfolding records_of
returns-clause-left c =
    rw (c.from_reader.ensures.state, c.from_reader.ensures.source) refl
