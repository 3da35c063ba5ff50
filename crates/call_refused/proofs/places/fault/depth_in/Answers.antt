use Rattle.std.proofs.Common.{suc, false, take}
use Rattle.toml.specs.View.{table_view}
use Rattle.call_refused.proofs.Documents.{whole_begins}
use Rattle.call_refused.proofs.places.fault.depth_in.Goals as goal

pub returns-in-Ok-clause-deepest : goal.returns-in-Ok-clause-deepest
returns-in-Ok-clause-deepest c = λ some more.
    whole_begins c.args.bytes.now (take (suc c.depth_of.result) c.args.steps.now)
    (table_view c.in-Ok.top) false c.in-Ok.ensures (c.depth_of.ensures.deepest more)
