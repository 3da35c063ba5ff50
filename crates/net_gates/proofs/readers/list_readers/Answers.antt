use Rattle.net_gates.proofs.Listing.{listed_two, grow_on}
use Rattle.net_gates.proofs.readers.list_readers.Goals as goal

pub returns-clause-grow : goal.returns-clause-grow
returns-clause-grow c =
    grow_on c.args.readers.now c.list_in.new.readers c.list_in-2.new.readers
    c.in_ok-list_in.ensures.grow c.in_ok-list_in-2.ensures.grow

pub returns-clause-listed : goal.returns-clause-listed
returns-clause-listed c =
    listed_two c.args.i c.args.x.0 c.args.y.0 c.args.gate.now c.list_in-2.new.readers
    c.requires.are
    (λ list at. c.in_ok-list_in-2.ensures.grow.read c.args.i c.args.x.0 list at
    c.in_ok-list_in.ensures.listed)
    c.in_ok-list_in-2.ensures.listed
