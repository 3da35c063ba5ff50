use Rattle.net_gates.proofs.Listing.{listed_one}
use Rattle.net_gates.proofs.readers.list_reader.Goals as goal

pub returns-clause-listed : goal.returns-clause-listed
returns-clause-listed c =
    listed_one c.args.i c.args.x.0 c.args.gate.now c.list_in.new.readers c.requires.is
    c.in_ok-list_in.ensures.listed
