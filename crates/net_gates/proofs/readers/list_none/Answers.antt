use Rattle.net_gates.proofs.Listing.{lists_same, listed_none}
use Rattle.net_gates.proofs.readers.list_none.Goals as goal

pub returns-clause-grow : goal.returns-clause-grow
returns-clause-grow c = lists_same c.args.readers.now

pub returns-clause-listed : goal.returns-clause-listed
returns-clause-listed c = listed_none c.args.i c.args.gate.now c.args.readers.now c.requires.is
